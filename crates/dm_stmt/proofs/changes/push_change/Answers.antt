use Rattle.std.proofs.Common.{◌≡◌, Bool, ℕ, List, ◌++◌, sym, ap, ◌∙◌}
use Rattle.std.specs.Prelude.{codes}
use Rattle.std.proofs.lemmas.Result.{on_ok_weaker}
use Rattle.dm_schema.specs.declared.change.Change.{Change}
use Rattle.dm_schema.specs.declared.change.Change.TheVariants as change
use Rattle.dm_schema.specs.declared.change.Spot.{Spot}
use Rattle.dm_schema.specs.declared.column.Column.{Column}
use Rattle.dm_text.specs.Columns.{column_text}
use Rattle.dm_text.proofs.Joins.{two_joined}
use Rattle.dm_stmt.specs.Texts.{change_text}
use Rattle.dm_stmt.proofs.changes.push_change.Goals as goal

modified : (c : Change) (column : Column) (spot : Spot) (null_written : Bool) (old first last : List ℕ) → c ≡ change.Modify column spot null_written → first ≡ old ++ codes "MODIFY COLUMN " → last ≡ first ++ column_text column → last ≡ old ++ change_text c
modified c column spot null_written old first last is e1 e2 =
    two_joined old (codes "MODIFY COLUMN ") (column_text column) first last e1 e2 ∙ ap (λ (x : Change). old ++ change_text x) (sym is)

pub returns-in_ok-extend_from_slice-in-Modify : goal.returns-in_ok-extend_from_slice-in-Modify
returns-in_ok-extend_from_slice-in-Modify c =
    on_ok_weaker c.push_column-in-Modify.result
    (modified c.args.change.now c.in-Modify.column c.in-Modify.spot c.in-Modify.null_written c.args.out.now.items _ _ c.in-Modify.is c.in_ok-extend_from_slice-in-Modify.ensures.items)
    c.push_column-in-Modify.ensures
