use Rattle.std.proofs.Common.{sym, ap, ◌∙◌, Bool, false, not, ◌++◌, ◌∷◌, []}
use Rattle.std.specs.Option.{option_map_or}
use Rattle.dm_schema.specs.declared.column.Column.{Column}
use Rattle.dm_schema.specs.Names.{column_at}
use Rattle.dm_schema.specs.Schemas.{same_column}
use Rattle.dm_join.proofs.Lists.{keep_passing, skip_failing}
use Rattle.dm_join.proofs.altering.columns_moved.Goals as goal
use Rattle.dm_join.proofs.altering.columns_moved.Goals.{then-is_moved+in_ok-copy+in_ok-push, else-is_moved}

pub loop-column-preserved : goal.loop-column-preserved
loop-column-preserved c =
    let f : Column → Bool = λ x. option_map_or (λ before. not (same_column before x)) (column_at c.args.old.now.columns x.name) false in
    let xs = c.columns-column-items.result.now in
    elim c.if-is_moved.branch [
      | then-is_moved+in_ok-copy+in_ok-push w ↦
          let more = keep_passing f xs c.loop-column.columns.items c.loop-column.column-index c.column-item.result c.loop-column-test.true c.column-item.is c.loop-column.invariant (sym c.is_moved.ensures ∙ w.if-is_moved.true) in
          ap (λ v. v.items) w.columns-is ∙ w.in_ok-push.ensures.items ∙ ap (λ x. c.loop-column.columns.items ++ x ∷ []) w.in_ok-copy.ensures ∙ more
      | else-is_moved w ↦
          ap (λ v. v.items) w.columns-is ∙ skip_failing f xs c.loop-column.columns.items c.loop-column.column-index c.column-item.result c.loop-column-test.true c.column-item.is c.loop-column.invariant (sym c.is_moved.ensures ∙ w.if-is_moved.false)
    ]
