use Rattle.std.proofs.Common.{◌&&◌, sym, ◌∙◌}
use Rattle.std.proofs.lemmas.Bool.{and_from}
use Rattle.dm_schema.specs.Keys.{key_number}
use Rattle.dm_table.specs.declared.fault.TableFault.TheVariants as fault
use Rattle.dm_table.specs.Judging.{is_told_taken}
use Rattle.dm_table.specs.Operations.{needs_room}
use Rattle.dm_table.specs.Staging.{rows_behind}
use Rattle.dm_table.proofs.Refusing.{refused_first}
use Rattle.dm_table.proofs.judge.+refuse_uniques_among.Goals as goal

pub returns-then-branch : goal.returns-then-branch
returns-then-branch t c =
    refused_first (λ key. needs_room c.args.op.now && is_told_taken c.args.schema.now c.args.op.now (rows_behind c.args.rows.now) (rows_behind c.args.index.now) c.args.row.now key) (λ key. fault.Duplicate (key_number c.args.schema.now.uniques key))
    c.key-item.result c.args.keys.now c.duplicate.result c.in-len1-up.len_at_least c.key-item.is (and_from _ _ (sym c.if-needs_room.ensures) (sym c.in_ok-is_unique_taken-in-len1-up.ensures ∙ c.if-branch.true)) c.duplicate.ensures
