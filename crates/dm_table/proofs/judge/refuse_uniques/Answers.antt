use Rattle.std.proofs.Common.{Bool, List, ap, subst, ◌∙◌}
use Rattle.dm_list.specs.Answer.{first_refusal, unless_refused, Answers}
use Rattle.dm_schema.specs.NameOrder.{uniques_in_order}
use Rattle.dm_table.specs.declared.fault.TableFault.{TableFault}
use Rattle.dm_table.specs.Judging.{is_memory}
use Rattle.dm_table.specs.Staging.{rows_behind}
use Rattle.dm_table.proofs.Told.{told_refused_in_order}
use Rattle.dm_table.proofs.judge.refuse_uniques.Goals as goal

pub returns : goal.returns
returns c =
    subst (λ (refusals : List (Bool × TableFault)). Answers is_memory c.refuse_uniques_among.result (unless_refused (first_refusal refusals) tt))
    (told_refused_in_order c.args.schema.now (rows_behind c.args.rows.now) (rows_behind c.args.index.now) c.args.row.now c.requires c.args.op.now c.deref.result.now
    (c.deref.ensures.value ∙ c.in_ok-keys.ensures ∙ ap uniques_in_order c.uniques.ensures.uniques))
    c.refuse_uniques_among.ensures
