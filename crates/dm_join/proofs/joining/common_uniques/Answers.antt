use Rattle.std.proofs.Common.{sym, ap, ◌∙◌, Bool, ◌++◌, ◌∷◌, []}
use Rattle.std.specs.List.{list_any, list_all}
use Rattle.dm_schema.specs.declared.column.UniqueKey.{UniqueKey}
use Rattle.dm_schema.specs.Schemas.{same_unique}
use Rattle.dm_join.proofs.Lists.{keep_passing, skip_failing}
use Rattle.dm_join.proofs.joining.common_uniques.Goals as goal
use Rattle.dm_join.proofs.joining.common_uniques.Goals.{then-all_have+in_ok-copy+in_ok-push, else-all_have}

pub loop-key-preserved : goal.loop-key-preserved
loop-key-preserved c =
    let f : UniqueKey → Bool = λ k. list_all (λ s. list_any (same_unique k) s.uniques) c.args.schemas.now in
    let xs = c.uniques-key-items.result.now in
    elim c.if-all_have.branch [
      | then-all_have+in_ok-copy+in_ok-push w ↦
          ap (λ v. v.items) w.common-is ∙ w.in_ok-push.ensures.items ∙ ap (λ x. c.loop-key.common.items ++ x ∷ []) w.in_ok-copy.ensures
          ∙ keep_passing f xs c.loop-key.common.items c.loop-key.key-index c.key-item.result c.loop-key-test.true c.key-item.is c.loop-key.invariant (sym c.all_have.ensures ∙ w.if-all_have.true)
      | else-all_have w ↦
          ap (λ v. v.items) w.common-is ∙ skip_failing f xs c.loop-key.common.items c.loop-key.key-index c.key-item.result c.loop-key-test.true c.key-item.is c.loop-key.invariant (sym c.all_have.ensures ∙ w.if-all_have.false)
    ]
