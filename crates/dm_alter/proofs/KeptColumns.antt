-- A column of the first schema keeps its family of kinds, as long as no change so far has dropped it.
use Rattle.std.proofs.Common.{◌≡◌, ℕ, Bool, true, false, cond, List, [], ◌∷◌, ◌++◌, Option, Some, None, is_some, refl, sym, ap, ◌∙◌, subst}
use Rattle.std.specs.Option.{option_map_or}
use Rattle.std.proofs.lemmas.Bool.{true≢false, and_parts}
use Rattle.dm_list.specs.Answer.{first_refusal}
use Rattle.dm_schema.specs.declared.column.Kind.{Kind}
use Rattle.dm_schema.specs.declared.column.Column.{Column}
use Rattle.dm_schema.specs.declared.change.Change.{Change}
use Rattle.dm_schema.specs.declared.change.Change.TheVariants as change
use Rattle.dm_schema.specs.declared.change.Spot.{Spot}
use Rattle.dm_schema.specs.Layout.{Layout}
use Rattle.dm_schema.specs.Names.{Text, same_name, column_at, has_column}
use Rattle.dm_schema.specs.KindOrder.{comparable}
use Rattle.dm_schema.specs.Effect.{Reading, was_dropped, is_among, stands, differs_in_family, modified, placed, replaced, without_column, with_columns, with_default, refusals_of, changed}
use Rattle.dm_alter.proofs.Comparables.{comparable_trans, comparable_self}
use Rattle.dm_alter.proofs.Lookups.{IsWritten, equal_names, one_there, has_by_name, none_there, placed_writes, modified_writes, replaced_writes, without_itself, without_other}
use Rattle.dm_alter.proofs.Allowed.{NoneHolds, none_holds, holds, still_dropped, dropped_now, ruled}
use Rattle.dm_alter.proofs.Inductions.{IsTaken}

-- the column that is there has a comparable kind; where none is, it was dropped
abbrev pub KeepsKind : Bool → Kind → Option Column → Type 0
KeepsKind is_dropped kind None = is_dropped ≡ true
KeepsKind is_dropped kind (Some column) = comparable kind column.kind ≡ true

abbrev pub AreComparable : Layout → List Change → List Column → Type 0
AreComparable first before columns = (name : Text) (old : Column) → column_at first.columns name ≡ Some old → KeepsKind (was_dropped before name) old.kind (column_at columns name)

pub comparable_at_first : (first : Layout) → AreComparable first [] first.columns
comparable_at_first first name old at = subst (KeepsKind (was_dropped [] name) old.kind) (sym at) (comparable_self old.kind)

unchanged : (first : Layout) (before : List Change) (c : Change) (columns : List Column) → AreComparable first before columns → AreComparable first (before ++ c ∷ []) columns
unchanged first before c columns kept name old at = by (column_at columns name) (kept name old at) where
  by : (o : Option Column) → KeepsKind (was_dropped before name) old.kind o → KeepsKind (was_dropped (before ++ c ∷ []) name) old.kind o
  by None h = still_dropped before c name h
  by (Some column) h = h

written : (first : Layout) (before : List Change) (c : Change) (columns after : List Column) (column : Column) → IsWritten columns after column
    → ((old : Column) → column_at first.columns column.name ≡ Some old → comparable old.kind column.kind ≡ true)
    → AreComparable first before columns → AreComparable first (before ++ c ∷ []) after
written first before c columns after column writes here kept name old at = by (same_name column.name name) refl where
  by : (b : Bool) → same_name column.name name ≡ b → KeepsKind (was_dropped (before ++ c ∷ []) name) old.kind (column_at after name)
  by true told =
      let same : column.name ≡ name = equal_names column.name name told in
      let there : column_at after name ≡ Some column = rw (← same) writes.here in
      let first_at : column_at first.columns column.name ≡ Some old = rw same at in
      subst (KeepsKind (was_dropped (before ++ c ∷ []) name) old.kind) (sym there) (here old first_at)
  by false told =
      subst (KeepsKind (was_dropped (before ++ c ∷ []) name) old.kind) (sym (writes.elsewhere name told)) (unchanged first before c columns kept name old at)

dropped : (first : Layout) (before : List Change) (columns : List Column) (gone : Text) → AreComparable first before columns
    → AreComparable first (before ++ change.Drop gone ∷ []) (without_column columns gone)
dropped first before columns gone kept name old at = by (same_name gone name) refl where
  by : (b : Bool) → same_name gone name ≡ b → KeepsKind (was_dropped (before ++ change.Drop gone ∷ []) name) old.kind (column_at (without_column columns gone) name)
  by true told =
      let same : gone ≡ name = equal_names gone name told in
      let none : column_at (without_column columns gone) name ≡ None = rw (← same) (without_itself columns gone) in
      subst (KeepsKind (was_dropped (before ++ change.Drop gone ∷ []) name) old.kind) (sym none) (dropped_now before (change.Drop gone) name told)
  by false told =
      subst (KeepsKind (was_dropped (before ++ change.Drop gone ∷ []) name) old.kind) (sym (without_other columns gone name told))
      (unchanged first before (change.Drop gone) columns kept name old at)

-- a column that is written again has a kind that is comparable with the one it had
written_again : (first : Layout) (before : List Change) (columns : List Column) (name : Text) (present : Column) (kind : Kind) → column_at columns name ≡ Some present
    → comparable present.kind kind ≡ true → AreComparable first before columns → (old : Column) → column_at first.columns name ≡ Some old → comparable old.kind kind ≡ true
written_again first before columns name present kind there near kept old at =
    comparable_trans old.kind present.kind kind (subst (KeepsKind (was_dropped before name) old.kind) there (kept name old at)) near

-- what a change that isn't refused leaves
abbrev IsLeftComparable : Reading → Layout → List Change → Layout → Change → Type 0
IsLeftComparable read first before layout c =
    first_refusal (refusals_of read before layout c) ≡ None → AreComparable first before layout.columns → AreComparable first (before ++ c ∷ []) (changed read layout c).columns

-- a name that isn't there was dropped, and isn't added again
added : (read : Reading) (first layout : Layout) (before : List Change) (column : Column) (place : Spot) → IsLeftComparable read first before layout (change.Add column place)
added read first layout before column place allowed kept =
    written first before (change.Add column place) layout.columns (placed place column layout.columns) column
    (placed_writes layout.columns place column none.1.0 (holds _ none.0)) (λ old at. absurd (not_again old at)) kept where
      none : NoneHolds (refusals_of read before layout (change.Add column place))
      none = none_holds (refusals_of read before layout (change.Add column place)) allowed

      not_again : (old : Column) → column_at first.columns column.name ≡ Some old → ⊥
      not_again old at =
          let was : was_dropped before column.name ≡ true =
          subst (KeepsKind (was_dropped before column.name) old.kind) (none_there layout.columns column.name none.1.0) (kept column.name old at) in
          true≢false (sym was ∙ none.1.1.0)

modified_comparable : (read : Reading) (first layout : Layout) (before : List Change) (column : Column) (place : Spot) (null_written : Bool)
    → IsLeftComparable read first before layout (change.Modify column place null_written)
modified_comparable read first layout before column place null_written allowed kept = by (is_among layout.primary column.name) where
  c : Change
  c = change.Modify column place null_written

  none : NoneHolds (refusals_of read before layout (change.Modify column place null_written))
  none = none_holds (refusals_of read before layout (change.Modify column place null_written)) allowed

  there : (has_column layout.columns column.name ≡ true) × (stands layout.columns place ≡ true)
  there = and_parts (has_column layout.columns column.name) (stands layout.columns place) (holds _ none.1.0)

  present : (p : Column) × (column_at layout.columns column.name ≡ Some p)
  present = one_there layout.columns column.name there.0

  near : comparable present.0.kind column.kind ≡ true
  near = holds _ (subst (λ o. differs_in_family o column ≡ false) present.1 none.1.1.0)

  keeps : (old : Column) → column_at first.columns column.name ≡ Some old → comparable old.kind column.kind ≡ true
  keeps = written_again first before layout.columns column.name present.0 column.kind present.1 near kept

  not_null : Column
  not_null = record { name = column.name; kind = column.kind; nullable = false; default_rule = column.default_rule }

  by : (b : Bool) → AreComparable first (before ++ c ∷ []) (modified place (cond b not_null column) layout.columns)
  by true = written first before c layout.columns (modified place not_null layout.columns) not_null (modified_writes layout.columns place not_null there.0 there.1) keeps kept
  by false = written first before c layout.columns (modified place column layout.columns) column (modified_writes layout.columns place column there.0 there.1) keeps kept

defaulted : (read : Reading) (first layout : Layout) (before : List Change) (name : Text) (text : List ℕ) → IsLeftComparable read first before layout (change.SetDefault name text)
defaulted read first layout before name text allowed kept = by (with_default read layout.columns name text) refl where
  c : Change
  c = change.SetDefault name text

  by : (o : Option Column) → with_default read layout.columns name text ≡ o
      → AreComparable first (before ++ c ∷ []) (option_map_or (λ c. with_columns layout (replaced c layout.columns)) o layout).columns
  by None e = unchanged first before c layout.columns kept
  by (Some column) e =
      let rule = ruled read layout.columns name text column e in
      let there : has_column layout.columns column.name ≡ true = has_by_name layout.columns column.name ∙ ap is_some rule.at in
      let near : comparable rule.old.kind column.kind ≡ true = ap (comparable rule.old.kind) rule.same_kind ∙ comparable_self rule.old.kind in
      written first before c layout.columns (replaced column layout.columns) column (replaced_writes layout.columns column there)
      (written_again first before layout.columns column.name rule.old column.kind rule.at near kept) kept

left_comparable : (read : Reading) (first layout : Layout) (before : List Change) (c : Change) → IsLeftComparable read first before layout c
left_comparable read first layout before (change.Add column place) = added read first layout before column place
left_comparable read first layout before (change.Drop name) = λ allowed. dropped first before layout.columns name
left_comparable read first layout before (change.Modify column place null_written) = modified_comparable read first layout before column place null_written
left_comparable read first layout before (change.SetDefault name text) = defaulted read first layout before name text
left_comparable read first layout before (change.AddUnique key named) = λ allowed. unchanged first before (change.AddUnique key named) layout.columns
left_comparable read first layout before (change.DropKey name) = λ allowed. unchanged first before (change.DropKey name) layout.columns
left_comparable read first layout before (change.RenameKey name) = λ allowed. unchanged first before (change.RenameKey name) layout.columns
left_comparable read first layout before (change.Refused cause) = λ allowed. unchanged first before (change.Refused cause) layout.columns
left_comparable read first layout before change.NoEffect = λ allowed. unchanged first before change.NoEffect layout.columns

pub taken_comparable : (read : Reading) (first layout : Layout) (before : List Change) (c : Change) (after : Layout)
    → IsTaken read before layout c after → AreComparable first before layout.columns → AreComparable first (before ++ c ∷ []) after.columns
taken_comparable read first layout before c after taken kept =
    subst (λ l. AreComparable first (before ++ c ∷ []) l.columns) (sym taken.leaves) (left_comparable read first layout before c taken.allowed kept)
