-- What is known of a change that isn't refused.
use Rattle.std.proofs.Common.{◌≡◌, ℕ, Bool, true, false, not, cond, ◌&&◌, ◌||◌, List, [], ◌∷◌, ◌++◌, Option, Some, None, option_and_then, is_none, is_some, length, nat_le, refl, sym, ap, ◌∙◌}
use Rattle.std.specs.Prelude.{⊤}
use Rattle.std.specs.Option.{option_map}
use Rattle.std.specs.List.{list_any, list_all}
use Rattle.std.proofs.lemmas.Bool.{true≢false, and_parts}
use Rattle.std.proofs.lemmas.List.Folds.{list_any-append}
use Rattle.dm_list.specs.Answer.{first_refusal}
use Rattle.dm_schema.specs.declared.column.Column.{Column}
use Rattle.dm_schema.specs.declared.column.DefaultRule.{DefaultRule}
use Rattle.dm_schema.specs.declared.change.Change.{Change}
use Rattle.dm_schema.specs.Layout.{Layout}
use Rattle.dm_schema.specs.Names.{Text, same_name, column_at, has_column}
use Rattle.dm_schema.specs.Fill.{fill}
use Rattle.dm_schema.specs.Kinds.{is_column, is_key}
use Rattle.dm_schema.specs.Schemas.{all_columns, is_formed, refusals}
use Rattle.dm_schema.specs.Effect.{Reading, adds, drops, was_added, was_dropped, is_among, has_no_fill, rule_of, with_rule, with_default}
use Rattle.dm_alter.proofs.Lookups.{equal_names, found_name, has_by_name}

-- Refusals of which none holds.

abbrev pub NoneHolds : {E : Type 0} → List (Bool × E) → Type 0
NoneHolds [] = ⊤
NoneHolds (r ∷ rs) = (r.0 ≡ false) × NoneHolds rs

pub none_holds : {E : Type 0} (refusals : List (Bool × E)) → first_refusal refusals ≡ None → NoneHolds refusals
none_holds [] h = tt
none_holds {E = E} (r ∷ rs) h = by r.0 refl h (none_holds rs) where
  by : (b : Bool) → r.0 ≡ b → cond b (Some r.1) (first_refusal rs) ≡ None → (first_refusal rs ≡ None → NoneHolds rs) → (r.0 ≡ false) × NoneHolds rs
  by true told e rest = absurd cc
  by false told e rest = (told, rest e)

pub holds : (b : Bool) → not b ≡ false → b ≡ true
holds true h = refl
holds false h = absurd (true≢false h)

pub second_fails : (a b : Bool) → (a && b) ≡ false → a ≡ true → b ≡ false
second_fails true b h e = h
second_fails false b h e = absurd (true≢false (sym e))

pub has_fill_unless : (column : Column) → has_no_fill (Some column) ≡ false → is_some (fill column) ≡ true
has_fill_unless column h = by (fill column) h where
  by : {A : Type 0} (o : Option A) → is_none o ≡ false → is_some o ≡ true
  by None e = absurd (true≢false e)
  by (Some value) e = refl

-- Changes that came before.

now_too : {A : Type 0} (test : A → Bool) (xs : List A) (x : A) → list_any test xs ≡ true → list_any test (xs ++ x ∷ []) ≡ true
now_too test xs x h = list_any-append test xs (x ∷ []) ∙ rw h refl

just_now : {A : Type 0} (test : A → Bool) (xs : List A) (x : A) → test x ≡ true → list_any test (xs ++ x ∷ []) ≡ true
just_now test xs x h = list_any-append test xs (x ∷ []) ∙ rw h (by (list_any test xs)) where
  by : (b : Bool) → (b || true) ≡ true
  by true = refl
  by false = refl

pub still_added : (before : List Change) (c : Change) (name : Text) → was_added before name ≡ true → was_added (before ++ c ∷ []) name ≡ true
still_added before c name h = now_too (λ d. adds d name) before c h

pub added_now : (before : List Change) (c : Change) (name : Text) → adds c name ≡ true → was_added (before ++ c ∷ []) name ≡ true
added_now before c name h = just_now (λ d. adds d name) before c h

pub still_dropped : (before : List Change) (c : Change) (name : Text) → was_dropped before name ≡ true → was_dropped (before ++ c ∷ []) name ≡ true
still_dropped before c name h = now_too (λ d. drops d name) before c h

pub dropped_now : (before : List Change) (c : Change) (name : Text) → drops c name ≡ true → was_dropped (before ++ c ∷ []) name ≡ true
dropped_now before c name h = just_now (λ d. drops d name) before c h

-- Defaults.

-- a column with another rule: it has the name, and is otherwise the one that was there
pub record IsRuled (columns : List Column) (name : Text) (column : Column) : Type 0 where
  pub old : Column
  pub at : column_at columns column.name ≡ Some old
  pub is_named : column.name ≡ name
  pub same_kind : column.kind ≡ old.kind

pub ruled : (read : Reading) (columns : List Column) (name : Text) (text : List ℕ) (column : Column) → with_default read columns name text ≡ Some column → IsRuled columns name column
ruled read columns name text column e = by (column_at columns name) refl e where
  given : (c : Column) (o : Option DefaultRule) → column_at columns name ≡ Some c → option_map (with_rule c) o ≡ Some column → IsRuled columns name column
  given c None at h = absurd cc
  given c (Some rule) at h =
      let same : with_rule c rule ≡ column = cc in
      let named : c.name ≡ name = equal_names c.name name (found_name columns name c at) in
      let is_named : column.name ≡ name = sym (ap (λ d. d.name) same) ∙ named in
      record { old = c; at = ap (column_at columns) is_named ∙ at; is_named = is_named; same_kind = sym (ap (λ d. d.kind) same) }

  by : (o : Option Column) → column_at columns name ≡ o → option_and_then (λ c. option_map (with_rule c) (rule_of read c text)) o ≡ Some column → IsRuled columns name column
  by None at h = absurd cc
  by (Some c) at h = given c (rule_of read c text) at h

-- Primary keys.

among_there : (columns : List Column) (names : List Text) (name : Text) → all_columns columns names ≡ true → is_among names name ≡ true → has_column columns name ≡ true
among_there columns [] name all here = absurd cc
among_there columns (n ∷ ns) name all here = by (same_name n name) refl here (among_there columns ns name parts.1) where
  parts : (has_column columns n ≡ true) × (all_columns columns ns ≡ true)
  parts = and_parts (has_column columns n) (all_columns columns ns) all

  by : (b : Bool) → same_name n name ≡ b → (b || is_among ns name) ≡ true → (is_among ns name ≡ true → has_column columns name ≡ true) → has_column columns name ≡ true
  by true told h rest = let same : n ≡ name = equal_names n name told in rw (← same) parts.0
  by false told h rest = rest h

formed_primary : (layout : Layout) → is_formed layout ≡ true → all_columns layout.columns layout.primary ≡ true
formed_primary layout formed =
    let parts = and_parts (list_all is_column layout.columns && list_all is_key layout.uniques && nat_le (length layout.uniques) 16) _ formed in
    let none = none_of (first_refusal (refusals layout.columns layout.primary layout.uniques)) parts.1 in
    let behind = none_holds (refusals layout.columns layout.primary layout.uniques) none in
    (and_parts (all_columns layout.columns layout.primary) (list_all (λ k. all_columns layout.columns k.columns) layout.uniques) (holds _ behind.1.1.0)).0 where
      none_of : {A : Type 0} (o : Option A) → is_none o ≡ true → o ≡ None
      none_of None e = refl
      none_of (Some x) e = absurd (true≢false (sym e))

-- a column of the primary key of a formed schema is one of its columns
pub primary_there : (layout : Layout) (name : Text) → is_formed layout ≡ true → is_among layout.primary name ≡ true → column_at layout.columns name ≡ None → ⊥
primary_there layout name formed among lacks =
    true≢false (sym (among_there layout.columns layout.primary name (formed_primary layout formed) among) ∙ has_by_name layout.columns name ∙ ap is_some lacks)
