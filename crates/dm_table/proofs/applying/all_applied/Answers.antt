use Rattle.std.proofs.Common.{◌≡◌, arith, ap, sym, subst, ◌∙◌}
use Rattle.std.proofs.lemmas.Result.{err_from_is_err_and}
use Rattle.dm_table.specs.Contents.{RowMap}
use Rattle.dm_table.specs.Indexing.{AreIndexed}
use Rattle.dm_table.specs.Operations.{all_applied}
use Rattle.dm_table.specs.Staging.{Staging, rows_behind}
use Rattle.dm_table.proofs.Behind.{nothing_carried}
use Rattle.dm_table.proofs.InTurn.{one_taken, one_refused}
use Rattle.dm_table.proofs.applying.all_applied.Goals as goal

pub loop-op-init : goal.loop-op-init
loop-op-init c =
    let rows : rows_behind c.new-rows.result ≡ c.args.rows.now = ap (λ (s : Staging). rows_behind s) c.new-rows.ensures ∙ nothing_carried c.args.rows.now in
    let index : rows_behind c.new-index.result ≡ c.args.index.now = ap (λ (s : Staging). rows_behind s) c.new-index.ensures ∙ nothing_carried c.args.index.now in
    record {
      rows = ap (λ (s : Staging). s.base) c.new-rows.ensures;
      index = ap (λ (s : Staging). s.base) c.new-index.ensures;
      applied = ap (all_applied c.args.schema.now c.args.ops.now) rows;
      indexed = subst (λ (r : RowMap). AreIndexed c.args.schema.now r (rows_behind c.new-index.result)) (sym rows) (subst (λ (i : RowMap). AreIndexed c.args.schema.now c.args.rows.now i) (sym index) c.requires);
    }

pub apply_one-requires : goal.apply_one-requires
apply_one-requires c = c.loop-op.invariant.indexed

pub returns-in_err-apply_one-clause-refused : goal.returns-in_err-apply_one-clause-refused
returns-in_err-apply_one-clause-refused c =
    let p = err_from_is_err_and c.from_residual.result c.from_residual.ensures.1 in
    rw (p.1, p.2)
    (one_refused c.args.schema.now c.args.ops.now c.loop-op.op-index c.op-item.result (rows_behind c.loop-op.rows) c.in_err-apply_one.field-0.0 _ (omega arith) c.op-item.is c.in_err-apply_one.ensures.refused c.loop-op.invariant.applied)

pub loop-op-preserved : goal.loop-op-preserved
loop-op-preserved c = record {
  rows = c.in_ok-apply_one.ensures.rows ∙ c.loop-op.invariant.rows;
  index = c.in_ok-apply_one.ensures.index ∙ c.loop-op.invariant.index;
  applied = one_taken c.args.schema.now c.args.ops.now c.loop-op.op-index c.op-item.result (rows_behind c.loop-op.rows) (rows_behind c.apply_one.new.rows) _ (omega arith) c.op-item.is c.in_ok-apply_one.ensures.applied c.loop-op.invariant.applied;
  indexed = c.in_ok-apply_one.ensures.indexed;
}
