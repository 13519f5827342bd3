-- The columns and keys of definitions, one after another, and that a schema can be made of them.
use Rattle.std.proofs.lemmas.Bool.Decides.{eqb_tells}
use Rattle.std.proofs.Common.{◌≡◌, ◌≢◌, ◌==◌, ◌||◌, ◌⊎◌, inl, inr, arith, eqb, Bool, true, false, ◌&&◌, ℕ, List, [], ◌∷◌, ◌++◌, map, length, Option, Some, None, Result, unwrap_or, refl, ◌∙◌, subst, append_assoc, cond}
use Rattle.std.specs.Option.{option_or}
use Rattle.std.specs.List.{list_all, list_any, flat_map, filter}
use Rattle.dm_list.specs.Answer.{Answers}
use Rattle.dm_schema.specs.declared.column.Column.{Column}
use Rattle.dm_schema.specs.declared.column.UniqueKey.{UniqueKey}
use Rattle.dm_schema.specs.declared.column.DefaultRule.TheVariants as default
use Rattle.dm_schema.specs.declared.fault.SchemaFault.{SchemaFault}
use Rattle.dm_schema.specs.Layout.{Layout}
use Rattle.dm_schema.specs.Kinds.{is_column, is_key, is_folded}
use Rattle.dm_schema.specs.Effect.{named_key}
use Rattle.dm_alter.proofs.Formed.{key_formed}
use Rattle.dm_syntax.specs.declared.fault.DdlFault.{DdlFault}
use Rattle.dm_ddl.specs.declared.keys.WrittenKey.{WrittenKey}
use Rattle.dm_syntax.specs.declared.piece.Piece.{Piece}
use Rattle.dm_syntax.specs.declared.role.TheConstants as role
use Rattle.dm_syntax.specs.Pieces.{has_role}
use Rattle.dm_syntax.specs.Names.{folded_with}
use Rattle.dm_syntax.proofs.Folding.{with_folded, names_folded}
use Rattle.dm_ddl.specs.Bounds.{excess_in, first_excess}
use Rattle.dm_ddl.specs.Types.{type_word, kind_in}
use Rattle.dm_ddl.specs.Columns.{last_default, nullable_in, column_name, column_in, default_in, is_unfit}
use Rattle.dm_ddl.specs.Keys.{key_parts, key_name, key_over, key_of_column, unique_keys}
use Rattle.dm_ddl.specs.Creating.{columns_in, primaries_in, all_columns_of, named_behind, uniques_in, created, schema_in}
use Rattle.dm_syntax.specs.Parsing.{is_memory, made}
use Rattle.dm_list.specs.Answer.{first_refusal}
use Rattle.std.specs.Prelude.{codes}
use Rattle.dm_schema.specs.Names.{same_name}
use Rattle.dm_schema.specs.Effect.{is_change}
use Rattle.dm_schema.specs.declared.change.Change.{Change}
use Rattle.dm_schema.specs.declared.change.Change.TheVariants as change
use Rattle.dm_schema.specs.declared.fault.EffectFault.{EffectFault}
use Rattle.dm_schema.specs.declared.fault.EffectFault.TheVariants as fault
use Rattle.dm_ddl.specs.Altering.{is_added, spot_in, null_written, column_refusals, column_change, added_key, column_changes, key_drop, default_text, other_change, if_some, changes_of, changes_in}
use Rattle.dm_ddl.proofs.Formed.{rule_formed, column_formed}
use Rattle.dm_ddl.proofs.Ranges.{kind_formed}

-- Columns.

pub column_formed_in : (text : List ℕ) (primary : List (List ℕ)) (item : List Piece) → excess_in text item ≡ None → is_column (column_in text primary item) ≡ true
column_formed_in text primary item none =
    column_formed (column_name text item) (kind_in text item) (nullable_in primary (column_name text item) item) (unwrap_or (default_in text primary item) default.Nothing)
    (with_folded text role.COLUMN_NAME item) (kind_formed text item (type_word item) none)
    (rule_formed text (kind_in text item) (nullable_in primary (column_name text item) item) (last_default item))

-- no item has an excess
pub behind : (text : List ℕ) (item : List Piece) (items : List (List Piece)) → first_excess text (item ∷ items) ≡ None → (excess_in text item ≡ None) × (first_excess text items ≡ None)
behind text item items none = by (excess_in text item) none where
  by : (o : Option Piece) → option_or o (first_excess text items) ≡ None → (o ≡ None) × (first_excess text items ≡ None)
  by (Some p) e = absurd cc
  by None e = (refl, e)

pub columns_formed : (text : List ℕ) (primary : List (List ℕ)) (items : List (List Piece)) → first_excess text items ≡ None → list_all is_column (columns_in text primary items) ≡ true
columns_formed text primary [] none = refl
columns_formed text primary (item ∷ items) none =
    let parts = behind text item items none in
    by (has_role role.COLUMN_NAME item) refl (column_formed_in text primary item parts.0) (columns_formed text primary items parts.1) where
      by : (t : Bool) → has_role role.COLUMN_NAME item ≡ t → is_column (column_in text primary item) ≡ true → list_all is_column (columns_in text primary items) ≡ true
          → list_all is_column (columns_in text primary (item ∷ items)) ≡ true
      by true e one rest = rw (e, one) rest
      by false e one rest = rw e rest

pub one_column_more : (text : List ℕ) (primary : List (List ℕ)) (before : List Column) (item : List Piece) (items : List (List Piece)) (all : List Column) (column : Column)
    → has_role role.COLUMN_NAME item ≡ true → column ≡ column_in text primary item → before ++ columns_in text primary (item ∷ items) ≡ all
    → (before ++ column ∷ []) ++ columns_in text primary items ≡ all
one_column_more text primary before item items all column e made h =
    append_assoc before (column ∷ []) (columns_in text primary items) ∙ rw made (rw e at h)

pub columns_step : (text : List ℕ) (primary : List (List ℕ)) (before after : List Column) (column : Column) (rest : List (List Piece)) (item : List Piece) (items : List (List Piece)) (all : List Column)
    → after ≡ before ++ column ∷ [] → rest ≡ item ∷ items → has_role role.COLUMN_NAME item ≡ true → column ≡ column_in text primary item
    → (before ++ columns_in text primary rest ≡ all) × (first_excess text rest ≡ None) → (after ++ columns_in text primary items ≡ all) × (first_excess text items ≡ None)
columns_step text primary before after column rest item items all a b e made h =
    (rw a (one_column_more text primary before item items all column e made (rw b at h.0)), (behind text item items (rw b at h.1)).1)

-- Keys.

-- a key of which one can be made when it has its name
abbrev pub is_written : WrittenKey → Bool
is_written k = is_key k.key && list_all is_folded k.key.columns

name_folded : (text : List ℕ) (item : List Piece) → is_folded (key_name text item) ≡ true
name_folded text item = by (has_role role.KEY_NAME item) refl where
  by : (t : Bool) → has_role role.KEY_NAME item ≡ t → is_folded (cond t (folded_with text role.KEY_NAME item) (folded_with text role.CONSTRAINT_NAME item)) ≡ true
  by true e = with_folded text role.KEY_NAME item
  by false e = with_folded text role.CONSTRAINT_NAME item

some_length : (n : List ℕ) (ns : List (List ℕ)) → (length (n ∷ ns) == 0) ≡ false
some_length n ns = by (eqb_tells (length (n ∷ ns)) 0) where
  by : ((eqb (length (n ∷ ns)) 0 ≡ true) × (length (n ∷ ns) ≡ 0)) ⊎ ((eqb (length (n ∷ ns)) 0 ≡ false) × (length (n ∷ ns) ≢ 0)) → (length (n ∷ ns) == 0) ≡ false
  by (inl l) = absurd (omega (arith, l.1))
  by (inr r) = r.0

over_written : (text : List ℕ) (item : List Piece) (names : List (List ℕ)) → list_all is_folded names ≡ true → list_all is_written (key_over text item names) ≡ true
over_written text item [] folded = refl
over_written text item (n ∷ ns) folded = rw (name_folded text item, some_length n ns, folded) refl

pub keys_written : (text : List ℕ) (item : List Piece) → list_all is_written (unique_keys text item) ≡ true
keys_written text item = by (has_role role.UNIQUE_COLUMN item) (has_role role.UNIQUE_KEY item || has_role role.UNIQUE_INDEX item) where
  by : (t u : Bool) → list_all is_written (cond t (key_of_column (column_name text item)) (cond u (key_over text item (key_parts text item)) [])) ≡ true
  by true u = rw (with_folded text role.COLUMN_NAME item) refl
  by false true = over_written text item (key_parts text item) (names_folded text (filter (λ p. p.role == role.KEY_PART) item))
  by false false = refl

all_behind : {A : Type 0} (test : A → Bool) (xs ys : List A) → list_all test xs ≡ true → list_all test ys ≡ true → list_all test (xs ++ ys) ≡ true
all_behind test [] ys a b = b
all_behind test (x ∷ xs) ys a b = by (test x) refl a (λ rest. all_behind test xs ys rest b) where
  by : (t : Bool) → test x ≡ t → (t && list_all test xs) ≡ true → (list_all test xs ≡ true → list_all test (xs ++ ys) ≡ true) → list_all test (x ∷ xs ++ ys) ≡ true
  by true e a rest = rw e (rest a)
  by false e a rest = absurd cc

pub named_formed : (before : List UniqueKey) (keys : List WrittenKey) → list_all is_key before ≡ true → list_all is_written keys ≡ true → list_all is_key (named_behind before keys) ≡ true
named_formed before [] a b = a
named_formed before (k ∷ ks) a b = by (is_written k) refl b (λ before more rest. named_formed before ks more rest) where
  by : (t : Bool) → is_written k ≡ t → (t && list_all is_written ks) ≡ true
      → ((before : List UniqueKey) → list_all is_key before ≡ true → list_all is_written ks ≡ true → list_all is_key (named_behind before ks) ≡ true)
      → list_all is_key (named_behind (before ++ named_key before k.key k.named ∷ []) ks) ≡ true
  by true e b rest = rest _ (all_behind is_key before (named_key before k.key k.named ∷ []) a (rw (key_formed before k.key k.named e) refl)) b
  by false e b rest = absurd cc

all_written : (text : List ℕ) (items : List (List Piece)) → list_all is_written (flat_map (unique_keys text) items) ≡ true
all_written text [] = refl
all_written text (item ∷ items) = all_behind is_written (unique_keys text item) (flat_map (unique_keys text) items) (keys_written text item) (all_written text items)

pub uniques_formed : (text : List ℕ) (items : List (List Piece)) → list_all is_key (uniques_in text items) ≡ true
uniques_formed text items = named_formed [] (flat_map (unique_keys text) items) refl (all_written text items)

pub named_more : (before : List UniqueKey) (one other : List WrittenKey) → named_behind before (one ++ other) ≡ named_behind (named_behind before one) other
named_more before [] other = refl
named_more before (k ∷ ks) other = named_more (before ++ named_key before k.key k.named ∷ []) ks other

-- The schema.

pub schema_as : (text : List ℕ) (items : List (List Piece)) (r : Result Layout DdlFault) (columns : List Column) (primaries : List (List (List ℕ))) (uniques : List UniqueKey) (unfit : Bool) (primary : List (List ℕ))
    → primaries ≡ primaries_in text items → primary ≡ all_columns_of primaries → columns ≡ columns_in text primary items → uniques ≡ uniques_in text items → unfit ≡ list_any (is_unfit text primary) items
    → Answers is_memory r (made (created columns primaries uniques unfit)) → Answers is_memory r (made (schema_in text items))
schema_as text items r columns primaries uniques unfit primary a b d e f h =
    subst (λ (s : Result Layout SchemaFault). Answers is_memory r (made s)) (rw (f, e, d, b, a) refl) h

-- The changes.

refused_formed : (text : List ℕ) (item : List Piece) → excess_in text item ≡ None → is_change (column_change text item) ≡ true
refused_formed text item none = by (is_added item) where
  by : (t : Bool) → is_change (cond t (change.Add (column_in text [] item) (spot_in text item)) (change.Modify (column_in text [] item) (spot_in text item) (null_written item))) ≡ true
  by true = column_formed_in text [] item none
  by false = column_formed_in text [] item none

added_formed : (keys : List WrittenKey) → list_all is_written keys ≡ true → list_all is_change (map added_key keys) ≡ true
added_formed [] h = refl
added_formed (k ∷ ks) h = by (is_written k) refl h (added_formed ks) where
  by : (t : Bool) → is_written k ≡ t → (t && list_all is_written ks) ≡ true → (list_all is_written ks ≡ true → list_all is_change (map added_key ks) ≡ true) → list_all is_change (map added_key (k ∷ ks)) ≡ true
  by true e h rest = rw e (rest h)
  by false e h rest = absurd cc

column_changes_formed : (text : List ℕ) (item : List Piece) → excess_in text item ≡ None → list_all is_change (column_changes text item) ≡ true
column_changes_formed text item none = by (first_refusal (column_refusals text item)) refl where
  by : (o : Option EffectFault) → first_refusal (column_refusals text item) ≡ o → list_all is_change (column_changes text item) ≡ true
  by (Some cause) e = rw e refl
  by None e = rw e (rw (refused_formed text item none) (added_formed (unique_keys text item) (keys_written text item)))

drop_formed : (name : List ℕ) → is_change (key_drop name) ≡ true
drop_formed name = by (same_name name (codes "primary")) where
  by : (t : Bool) → is_change (cond t (change.Refused fault.PrimaryChange) (change.DropKey name)) ≡ true
  by true = refl
  by false = refl

abbrev IsFormedIf : Option Change → Type 0
IsFormedIf o = list_all is_change (if_some o) ≡ true

either_formed : (t : Bool) (a b : Option Change) → IsFormedIf a → IsFormedIf b → IsFormedIf (cond t a b)
either_formed true a b x y = x
either_formed false a b x y = y

other_formed : (text : List ℕ) (item : List Piece) → list_all is_change (if_some (other_change text item)) ≡ true
other_formed text item =
    either_formed (has_role role.PRIMARY_KEY item) (Some (change.Refused fault.PrimaryChange)) _ refl
    (either_formed (has_role role.DROPPED_COLUMN item) (Some (change.Drop (folded_with text role.DROPPED_COLUMN item))) _ refl
    (either_formed (has_role role.DROPPED_KEY item) (Some (key_drop (folded_with text role.DROPPED_KEY item))) _ (rw (drop_formed (folded_with text role.DROPPED_KEY item)) refl)
    (either_formed (has_role role.ALTERED item) (Some (change.SetDefault (folded_with text role.ALTERED item) (default_text text item))) _ refl
    (either_formed (has_role role.RENAMED_KEY item) (Some (change.RenameKey (folded_with text role.RENAMED_KEY item))) _ refl
    (either_formed (has_role role.RENAME item) (Some (change.Refused fault.Renames)) _ refl
    (either_formed (has_role role.PLAIN_KEY item || has_role role.PLAIN_INDEX item || has_role role.NO_EFFECT item) (Some change.NoEffect) None refl refl))))))

changes_of_formed : (text : List ℕ) (item : List Piece) → excess_in text item ≡ None → list_all is_change (changes_of text item) ≡ true
changes_of_formed text item none = by (has_role role.COLUMN_NAME item) (has_role role.UNIQUE_KEY item || has_role role.UNIQUE_INDEX item) where
  by : (t u : Bool) → list_all is_change (cond t (column_changes text item) (cond u (map added_key (unique_keys text item)) (if_some (other_change text item)))) ≡ true
  by true u = column_changes_formed text item none
  by false true = added_formed (unique_keys text item) (keys_written text item)
  by false false = other_formed text item

pub changes_formed : (text : List ℕ) (items : List (List Piece)) → first_excess text items ≡ None → list_all is_change (changes_in text items) ≡ true
changes_formed text [] none = refl
changes_formed text (item ∷ items) none =
    let parts = behind text item items none in
    all_behind is_change (changes_of text item) (changes_in text items) (changes_of_formed text item parts.0) (changes_formed text items parts.1)

pub changes_step : (text : List ℕ) (before after more : List Change) (rest : List (List Piece)) (item : List Piece) (items : List (List Piece)) (all : List Change)
    → after ≡ before ++ more → rest ≡ item ∷ items → more ≡ changes_of text item
    → (before ++ changes_in text rest ≡ all) × (first_excess text rest ≡ None) → (after ++ changes_in text items ≡ all) × (first_excess text items ≡ None)
changes_step text before after more rest item items all a b made h =
    (rw (a, made) (append_assoc before (changes_of text item) (changes_in text items) ∙ (rw b at h.0)), (behind text item items (rw b at h.1)).1)
