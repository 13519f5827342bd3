-- A key whose columns have capital letters is refused by every schema; so such changes make no schema of any.
use Rattle.std.proofs.Common.{◌≡◌, Bool, true, false, not, ◌&&◌, ◌||◌, List, [], ◌∷◌, ◌++◌, None, Result, Ok, Err, refl, sym, ap, ◌∙◌}
use Rattle.std.specs.List.{list_all}
use Rattle.std.proofs.lemmas.Bool.{true≢false, and_parts, and_from}
use Rattle.dm_schema.specs.declared.change.Change.{Change}
use Rattle.dm_schema.specs.declared.change.Change.TheVariants as change
use Rattle.dm_schema.specs.declared.column.Column.{Column}
use Rattle.dm_schema.specs.declared.column.UniqueKey.{UniqueKey}
use Rattle.dm_schema.specs.declared.fault.EffectFault.{EffectFault}
use Rattle.dm_schema.specs.declared.fault.EffectFault.TheVariants as fault
use Rattle.dm_schema.specs.Effect.{is_change, step, steps, joined_effect}
use Rattle.dm_schema.specs.Kinds.{is_column, is_folded, is_kind, is_key, is_rule}
use Rattle.dm_schema.specs.Layout.{Layout}
use Rattle.dm_schema.specs.Names.{Text, has_column, same_name}
use Rattle.dm_schema.specs.Schemas.{all_columns, is_formed, is_unfit_default, joined_schema_of}
use Rattle.dm_alter.proofs.Formed.{formed_columns}
use Rattle.dm_alter.proofs.Inductions.{joined_is_careful}
use Rattle.dm_alter.proofs.Laws.{step_formed}
use Rattle.dm_alter.proofs.Lookups.{equal_names}
use Rattle.dm_stmt.specs.Records.{is_whole_column, is_written_change}
use Rattle.dm_journal.specs.Altering.{names_folded}
use Rattle.dm_journal.specs.Contents.{changed_by, no_default}

-- Written changes.

whole_column : (column : Column) (front : Bool) → (front && is_whole_column column) ≡ true → is_column column ≡ true
whole_column column front h = (and_parts (is_column column) (not (is_unfit_default column)) (and_parts front (is_whole_column column) h).1).0

written_is_change : (c : Change) → is_written_change c ≡ true → names_folded c ≡ true → is_change c ≡ true
written_is_change (change.Add column spot) written folded = whole_column column _ written
written_is_change (change.Drop name) written folded = refl
written_is_change (change.Modify column spot null_written) written folded = whole_column column _ written
written_is_change (change.SetDefault name text) written folded = refl
written_is_change (change.AddUnique key named) written folded = and_from (is_key key) (list_all is_folded key.columns) (and_parts named (is_key key) written).1 folded
written_is_change (change.DropKey name) written folded = refl
written_is_change (change.RenameKey name) written folded = refl
written_is_change (change.Refused cause) written folded = refl
written_is_change change.NoEffect written folded = refl

pub written_are_changes : (changes : List Change) → list_all is_written_change changes ≡ true → list_all names_folded changes ≡ true → list_all is_change changes ≡ true
written_are_changes [] written folded = refl
written_are_changes (c ∷ cs) written folded =
    let w = and_parts (is_written_change c) (list_all is_written_change cs) written in
    let f = and_parts (names_folded c) (list_all names_folded cs) folded in
    and_from (is_change c) (list_all is_change cs) (written_is_change c w.0 f.0) (written_are_changes cs w.1 f.1)

-- A key's columns.

has_folded : (columns : List Column) (name : Text) → list_all is_column columns ≡ true → has_column columns name ≡ true → is_folded name ≡ true
has_folded [] name all has = absurd cc
has_folded (c ∷ cs) name all has =
    let parts = and_parts (is_column c) (list_all is_column cs) all in
    by (same_name c.name name) refl has parts.0 (has_folded cs name parts.1) where
      by : (b : Bool) → same_name c.name name ≡ b → (b || has_column cs name) ≡ true → is_column c ≡ true → (has_column cs name ≡ true → is_folded name ≡ true) → is_folded name ≡ true
      by true same h column rest =
          ap is_folded (sym (equal_names c.name name same)) ∙ (and_parts (is_folded c.name) (is_kind c.kind) (and_parts (is_folded c.name && is_kind c.kind) (is_rule c.default_rule) column).0).0
      by false other h column rest = rest h

unfolded_lack : (columns : List Column) (names : List Text) → list_all is_column columns ≡ true → list_all is_folded names ≡ false → all_columns columns names ≡ false
unfolded_lack columns [] all none = absurd (true≢false none)
unfolded_lack columns (n ∷ ns) all none = by (has_column columns n) refl (is_folded n) refl none (unfolded_lack columns ns all) where
  by : (b : Bool) → has_column columns n ≡ b → (f : Bool) → is_folded n ≡ f → (f && list_all is_folded ns) ≡ false → (list_all is_folded ns ≡ false → all_columns columns ns ≡ false) → (b && all_columns columns ns) ≡ false
  by false has f folded h rest = refl
  by true has true folded h rest = rest h
  by true has false folded h rest = absurd (true≢false (sym (has_folded columns n all has) ∙ folded))

key_is_refused : (before : List Change) (layout : Layout) (key : UniqueKey) (named : Bool) → is_formed layout ≡ true → list_all is_folded key.columns ≡ false
    → step joined_schema_of no_default before layout (change.AddUnique key named) ≡ Err fault.UnknownColumn
key_is_refused before layout key named formed none = rw (unfolded_lack layout.columns key.columns (formed_columns layout formed) none) refl

change_is_refused : (before : List Change) (layout : Layout) (c : Change) → is_formed layout ≡ true → names_folded c ≡ false → step joined_schema_of no_default before layout c ≡ Err fault.UnknownColumn
change_is_refused before layout (change.Add column spot) formed none = absurd (true≢false none)
change_is_refused before layout (change.Drop name) formed none = absurd (true≢false none)
change_is_refused before layout (change.Modify column spot null_written) formed none = absurd (true≢false none)
change_is_refused before layout (change.SetDefault name text) formed none = absurd (true≢false none)
change_is_refused before layout (change.AddUnique key named) formed none = key_is_refused before layout key named formed none
change_is_refused before layout (change.DropKey name) formed none = absurd (true≢false none)
change_is_refused before layout (change.RenameKey name) formed none = absurd (true≢false none)
change_is_refused before layout (change.Refused cause) formed none = absurd (true≢false none)
change_is_refused before layout change.NoEffect formed none = absurd (true≢false none)

-- All changes.

refused_stays : (before : List Change) (e : EffectFault) (changes : List Change) → steps joined_schema_of no_default before (Err e) changes ≡ Err e
refused_stays before e [] = refl
refused_stays before e (c ∷ cs) = refl

abbrev IsRefused : List Change → Result Layout EffectFault → List Change → Type 0
IsRefused before r changes = (e : EffectFault) × (steps joined_schema_of no_default before r changes ≡ Err e)

some_refused : (before : List Change) (layout : Layout) (changes : List Change) → is_formed layout ≡ true → list_all is_written_change changes ≡ true → list_all names_folded changes ≡ false
    → IsRefused before (Ok layout) changes
some_refused before layout [] formed written none = absurd (true≢false none)
some_refused before layout (c ∷ cs) formed written none =
    let parts = and_parts (is_written_change c) (list_all is_written_change cs) written in
    by parts.0 (names_folded c) refl none (λ after formed_after h. some_refused (before ++ c ∷ []) after cs formed_after parts.1 h) where
      behind : (r : Result Layout EffectFault) → step joined_schema_of no_default before layout c ≡ r → is_change c ≡ true → list_all names_folded cs ≡ false
          → ((after : Layout) → is_formed after ≡ true → list_all names_folded cs ≡ false → IsRefused (before ++ c ∷ []) (Ok after) cs) → IsRefused (before ++ c ∷ []) r cs
      behind (Err e) answer is h rest = (e, refused_stays (before ++ c ∷ []) e cs)
      behind (Ok after) answer is h rest = rest after (step_formed joined_schema_of joined_is_careful no_default before layout c after is formed answer) h

      by : is_written_change c ≡ true → (b : Bool) → names_folded c ≡ b → (b && list_all names_folded cs) ≡ false
          → ((after : Layout) → is_formed after ≡ true → list_all names_folded cs ≡ false → IsRefused (before ++ c ∷ []) (Ok after) cs)
          → IsRefused (before ++ c ∷ []) (step joined_schema_of no_default before layout c) cs
      by w true folded h rest = behind (step joined_schema_of no_default before layout c) refl (written_is_change c w folded) h rest
      by w false unfolded h rest =
          (fault.UnknownColumn, ap (λ r. steps joined_schema_of no_default (before ++ c ∷ []) r cs) (change_is_refused before layout c formed unfolded) ∙ refused_stays (before ++ c ∷ []) fault.UnknownColumn cs)

-- a refused effect makes no schema
unchanged_where_err : (changes : List Change) (layout : Layout) (e : EffectFault) → Err e ≡ joined_effect no_default layout changes → changed_by changes layout ≡ None
unchanged_where_err changes layout e answer = rw (sym answer) refl

-- nor do changes with such a key
pub unfolded_makes_none : (changes : List Change) (layout : Layout) → is_formed layout ≡ true → list_all is_written_change changes ≡ true → list_all names_folded changes ≡ false → changed_by changes layout ≡ None
unfolding joined_effect
unfolded_makes_none changes layout formed written none =
    let refused = some_refused [] layout changes formed written none in
    unchanged_where_err changes layout refused.0 (sym refused.1)
