use Rattle.std.proofs.Common.{List, sym, ap, subst, ◌∙◌}
use Rattle.std.specs.FinMap as fin
use Rattle.std.proofs.lemmas.Result.{on_ok_weaker}
use Rattle.dm_table.specs.Contents.{Row, RowMap}
use Rattle.dm_table.specs.Indexing.{Tells}
use Rattle.dm_table.specs.Staging.{rows_behind, removed_all}
use Rattle.dm_table.proofs.Told.{tells_removed, tells_without}
use Rattle.dm_table.proofs.clearing.forget_row.Goals as goal

pub returns-in_ok-entries-in-Some-clause-told : goal.returns-in_ok-entries-in-Some-clause-told
returns-in_ok-entries-in-Some-clause-told c =
    on_ok_weaker c.remove_all.result
    (λ behind told. subst (λ (index : RowMap). Tells c.args.schema.now (fin.remove (rows_behind c.args.rows.now) c.args.key.now) index)
    (sym (behind ∙ ap (λ (entries : List Row). removed_all entries (rows_behind c.args.index.now)) c.deref.ensures.value))
    (tells_removed c.args.schema.now (rows_behind c.args.rows.now) (rows_behind c.args.index.now) told c.args.key.now c.in-Some.row.now c.in_ok-entries-in-Some.entries.items (sym c.in-Some.ensures) c.in_ok-entries-in-Some.ensures.entries))
    c.remove_all.ensures.behind

pub returns-in-None-clause-told : goal.returns-in-None-clause-told
returns-in-None-clause-told c = λ told. tells_without c.args.schema.now (rows_behind c.args.rows.now) (rows_behind c.args.index.now) told c.args.key.now (sym c.in-None.ensures)
