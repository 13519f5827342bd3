-- A column that the first schema lacks was added by the changes so far, and has a fill.
use Rattle.std.proofs.Common.{◌≡◌, ℕ, Bool, true, false, cond, ◌&&◌, List, [], ◌∷◌, ◌++◌, Option, Some, None, is_some, refl, sym, ap, ◌∙◌, subst}
use Rattle.std.specs.Option.{option_map_or}
use Rattle.std.proofs.lemmas.Bool.{and_parts}
use Rattle.dm_list.specs.Answer.{first_refusal}
use Rattle.dm_schema.specs.declared.column.Column.{Column}
use Rattle.dm_schema.specs.declared.change.Change.{Change}
use Rattle.dm_schema.specs.declared.change.Change.TheVariants as change
use Rattle.dm_schema.specs.declared.change.Spot.{Spot}
use Rattle.dm_schema.specs.Layout.{Layout}
use Rattle.dm_schema.specs.Names.{Text, same_name, column_at, has_column}
use Rattle.dm_schema.specs.Fill.{fill}
use Rattle.dm_schema.specs.Schemas.{is_formed}
use Rattle.dm_schema.specs.Effect.{Reading, was_added, is_among, has_no_fill, stands, modified, placed, replaced, without_column, with_columns, with_default, refusals_of, changed}
use Rattle.dm_alter.proofs.Lookups.{IsWritten, equal_names, one_name, one_there, has_by_name, placed_writes, modified_writes, replaced_writes, without_itself, without_other}
use Rattle.dm_alter.proofs.Allowed.{NoneHolds, none_holds, holds, second_fails, has_fill_unless, still_added, added_now, ruled, primary_there}
use Rattle.dm_alter.proofs.Inductions.{IsTaken}

abbrev pub IsAddedWithFill : List Change → Text → Column → Type 0
IsAddedWithFill before name column = (is_some (fill column) ≡ true) × (was_added before name ≡ true)

abbrev pub AreFilled : Layout → List Change → List Column → Type 0
AreFilled first before columns = (name : Text) (column : Column) → column_at first.columns name ≡ None → column_at columns name ≡ Some column → IsAddedWithFill before name column

pub filled_at_first : (first : Layout) → AreFilled first [] first.columns
filled_at_first first name column lacks at = absurd cc

unchanged : (first : Layout) (before : List Change) (c : Change) (columns : List Column) → AreFilled first before columns → AreFilled first (before ++ c ∷ []) columns
unchanged first before c columns filled name column lacks at =
    let parts = filled name column lacks at in
    (parts.0, still_added before c name parts.1)

written : (first : Layout) (before : List Change) (c : Change) (columns after : List Column) (column : Column) → IsWritten columns after column
    → (column_at first.columns column.name ≡ None → IsAddedWithFill (before ++ c ∷ []) column.name column)
    → AreFilled first before columns → AreFilled first (before ++ c ∷ []) after
written first before c columns after column writes here filled name found lacks at = by (same_name column.name name) refl where
  by : (b : Bool) → same_name column.name name ≡ b → IsAddedWithFill (before ++ c ∷ []) name found
  by true told =
      let same : column.name ≡ name = equal_names column.name name told in
      let there : column_at after name ≡ Some column = rw (← same) writes.here in
      let it : column ≡ found = cc in
      let none : column_at first.columns column.name ≡ None = rw same lacks in
      rw (← it, ← same) (here none)
  by false told = unchanged first before c columns filled name found lacks (sym (writes.elsewhere name told) ∙ at)

dropped : (first : Layout) (before : List Change) (c : Change) (columns : List Column) (gone : Text) → AreFilled first before columns
    → AreFilled first (before ++ c ∷ []) (without_column columns gone)
dropped first before c columns gone filled name found lacks at = by (same_name gone name) refl where
  by : (b : Bool) → same_name gone name ≡ b → IsAddedWithFill (before ++ c ∷ []) name found
  by true told =
      let same : gone ≡ name = equal_names gone name told in
      let none : column_at (without_column columns gone) name ≡ None = rw (← same) (without_itself columns gone) in
      absurd cc
  by false told = unchanged first before c columns filled name found lacks (sym (without_other columns gone name told) ∙ at)

-- a column that an earlier change has added has a fill as it is written again
written_again : (first : Layout) (before : List Change) (c : Change) (columns : List Column) (column old : Column) → column_at columns column.name ≡ Some old
    → (was_added before column.name && has_no_fill (Some column)) ≡ false → AreFilled first before columns
    → column_at first.columns column.name ≡ None → IsAddedWithFill (before ++ c ∷ []) column.name column
written_again first before c columns column old there refused filled lacks =
    let added = (filled column.name old lacks there).1 in
    (has_fill_unless column (second_fails _ _ refused added), still_added before c column.name added)

-- what a change that isn't refused leaves
abbrev IsLeftFilled : Reading → Layout → List Change → Layout → Change → Type 0
IsLeftFilled read first before layout c =
    first_refusal (refusals_of read before layout c) ≡ None → AreFilled first before layout.columns → AreFilled first (before ++ c ∷ []) (changed read layout c).columns

added : (read : Reading) (first layout : Layout) (before : List Change) (column : Column) (place : Spot) → IsLeftFilled read first before layout (change.Add column place)
added read first layout before column place allowed filled =
    let none = none_holds (refusals_of read before layout (change.Add column place)) allowed in
    written first before (change.Add column place) layout.columns (placed place column layout.columns) column
    (placed_writes layout.columns place column none.1.0 (holds _ none.0))
    (λ lacks. (has_fill_unless column none.1.1.1.0, added_now before (change.Add column place) column.name (one_name column.name))) filled

-- a column of the primary key is none that the first schema lacks
modified_filled : (read : Reading) (first layout : Layout) (before : List Change) (column : Column) (place : Spot) (null_written : Bool)
    → is_formed first ≡ true → layout.primary ≡ first.primary → IsLeftFilled read first before layout (change.Modify column place null_written)
modified_filled read first layout before column place null_written formed primary allowed filled = by (is_among layout.primary column.name) refl where
  c : Change
  c = change.Modify column place null_written

  none : NoneHolds (refusals_of read before layout (change.Modify column place null_written))
  none = none_holds (refusals_of read before layout (change.Modify column place null_written)) allowed

  there : (has_column layout.columns column.name ≡ true) × (stands layout.columns place ≡ true)
  there = and_parts (has_column layout.columns column.name) (stands layout.columns place) (holds _ none.1.0)

  not_null : Column
  not_null = record { name = column.name; kind = column.kind; nullable = false; default_rule = column.default_rule }

  by : (b : Bool) → is_among layout.primary column.name ≡ b → AreFilled first (before ++ c ∷ []) (modified place (cond b not_null column) layout.columns)
  by true e =
      let among : is_among first.primary column.name ≡ true = ap (λ names. is_among names column.name) (sym primary) ∙ e in
      written first before c layout.columns (modified place not_null layout.columns) not_null (modified_writes layout.columns place not_null there.0 there.1)
      (λ lacks. absurd (primary_there first column.name formed among lacks)) filled
  by false e =
      let old = one_there layout.columns column.name there.0 in
      written first before c layout.columns (modified place column layout.columns) column (modified_writes layout.columns place column there.0 there.1)
      (written_again first before c layout.columns column old.0 old.1 none.1.1.1.0 filled) filled

defaulted : (read : Reading) (first layout : Layout) (before : List Change) (name : Text) (text : List ℕ) → IsLeftFilled read first before layout (change.SetDefault name text)
defaulted read first layout before name text allowed filled = by (with_default read layout.columns name text) refl none.1.0 where
  c : Change
  c = change.SetDefault name text

  none : NoneHolds (refusals_of read before layout (change.SetDefault name text))
  none = none_holds (refusals_of read before layout (change.SetDefault name text)) allowed

  by : (o : Option Column) → with_default read layout.columns name text ≡ o → (was_added before name && has_no_fill o) ≡ false
      → AreFilled first (before ++ c ∷ []) (option_map_or (λ c. with_columns layout (replaced c layout.columns)) o layout).columns
  by None e refused = unchanged first before c layout.columns filled
  by (Some column) e refused =
      let rule = ruled read layout.columns name text column e in
      let there : has_column layout.columns column.name ≡ true = has_by_name layout.columns column.name ∙ ap is_some rule.at in
      let again : (was_added before column.name && has_no_fill (Some column)) ≡ false = rw rule.is_named refused in
      written first before c layout.columns (replaced column layout.columns) column (replaced_writes layout.columns column there)
      (written_again first before c layout.columns column rule.old rule.at again filled) filled

left_filled : (read : Reading) (first layout : Layout) (before : List Change) (c : Change) → is_formed first ≡ true → layout.primary ≡ first.primary
    → IsLeftFilled read first before layout c
left_filled read first layout before (change.Add column place) formed primary = added read first layout before column place
left_filled read first layout before (change.Drop name) formed primary = λ allowed. dropped first before (change.Drop name) layout.columns name
left_filled read first layout before (change.Modify column place null_written) formed primary = modified_filled read first layout before column place null_written formed primary
left_filled read first layout before (change.SetDefault name text) formed primary = defaulted read first layout before name text
left_filled read first layout before (change.AddUnique key named) formed primary = λ allowed. unchanged first before (change.AddUnique key named) layout.columns
left_filled read first layout before (change.DropKey name) formed primary = λ allowed. unchanged first before (change.DropKey name) layout.columns
left_filled read first layout before (change.RenameKey name) formed primary = λ allowed. unchanged first before (change.RenameKey name) layout.columns
left_filled read first layout before (change.Refused cause) formed primary = λ allowed. unchanged first before (change.Refused cause) layout.columns
left_filled read first layout before change.NoEffect formed primary = λ allowed. unchanged first before change.NoEffect layout.columns

pub taken_filled : (read : Reading) (first layout : Layout) (before : List Change) (c : Change) (after : Layout) → is_formed first ≡ true → layout.primary ≡ first.primary
    → IsTaken read before layout c after → AreFilled first before layout.columns → AreFilled first (before ++ c ∷ []) after.columns
taken_filled read first layout before c after formed primary taken filled =
    subst (λ l. AreFilled first (before ++ c ∷ []) l.columns) (sym taken.leaves) (left_filled read first layout before c formed primary taken.allowed filled)
