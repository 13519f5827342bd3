-- What a written CREATE TABLE says: the schema.
use Rattle.std.proofs.Common.{◌≡◌, ◌==◌, ◌||◌, ◌&&◌, ℕ, true, false, leb, ltb, List, [], ◌∷◌, ◌++◌, map, length, Option, Some, None, Ok, refl, sym, ap, ◌∙◌, subst, arith, append_assoc, append-nil}
use Rattle.std.specs.Prelude.{⊤, is_none}
use Rattle.std.specs.List.{list_any, list_all, flat_map}
use Rattle.std.proofs.lemmas.Bool.{and_parts, leb-true}
use Rattle.std.proofs.lemmas.Bool.Decides.{nat_tests}
use Rattle.dm_list.specs.Answer.{first_refusal, unless_refused}
use Rattle.dm_schema.specs.declared.column.Column.{Column}
use Rattle.dm_schema.specs.declared.column.UniqueKey.{UniqueKey}
use Rattle.dm_schema.specs.Layout.{Layout}
use Rattle.dm_schema.specs.Kinds.{is_folded, is_key, is_column}
use Rattle.dm_schema.specs.Schemas.{refusals, is_too_many, schema_of, is_formed}
use Rattle.dm_syntax.specs.declared.role.TheConstants as role
use Rattle.dm_ddl.specs.declared.keys.WrittenKey.{WrittenKey}
use Rattle.dm_ddl.specs.Creating.{all_columns_of, named_behind, unless_unfit, created}
use Rattle.dm_write.proofs.Signs as sign
use Rattle.dm_write.proofs.Signs.{Sign}
use Rattle.dm_write.proofs.Seen.{Seen, has}
use Rattle.dm_write.proofs.Meaning.{columns_of, primaries, primaries_of, uniques_of, unfit_of, has_excess, schema_of_seen}
use Rattle.dm_write.proofs.ColumnItems.{all_shown, only, column_item, column_splits, IsWritten, column_is_read, column_fits, no_primary, no_unique}
use Rattle.dm_write.proofs.KeyItems.{is_filler, primary_item, unique_item, primary_has_no_column, primary_is_read, primary_no_unique, unique_has_no_column, unique_no_primary, unique_is_read, written}
use Rattle.dm_write.proofs.Ranges.{column_in_range, primary_in_range, unique_in_range}

-- what items say, where these are the primary key's columns
pub record SayAll (primary : List (List ℕ)) (cs : List Column) (names : List (List (List ℕ))) (ks : List WrittenKey) (xss : List (List Seen)) : Type 0 where
  pub columns : columns_of primary xss ≡ cs
  pub keys : primaries xss ≡ names
  pub uniques : flat_map uniques_of xss ≡ ks
  pub fit : list_any (unfit_of primary) xss ≡ false
  pub small : list_any has_excess xss ≡ false

nothing_said : (primary : List (List ℕ)) → SayAll primary [] [] [] []
nothing_said primary = record { columns = refl; keys = refl; uniques = refl; fit = refl; small = refl }

abbrev pub each_shown : List (List Sign) → List (List Seen)
each_shown items = map all_shown items

column_said : (primary : List (List ℕ)) (d : Sign) (c : Column) (cs : List Column) (keys : List (List (List ℕ))) (uniques : List WrittenKey) (xss : List (List Seen)) → IsWritten c → SayAll primary cs keys uniques xss → SayAll primary (c ∷ cs) keys uniques (all_shown (column_item d c) ∷ xss)
column_said primary d c cs keys uniques xss w rest = subst (λ (x : List Seen). SayAll primary (c ∷ cs) keys uniques (x ∷ xss)) (sym (column_splits d c)) (record {
  columns = λ i. column_is_read d primary c w i ∷ rest.columns i;
  keys = λ i. no_primary d c i ++ rest.keys i;
  uniques = λ i. no_unique d c i ++ rest.uniques i;
  fit = λ i. column_fits d primary c w i || rest.fit i;
  small = λ i. column_in_range d c w i || rest.small i;
})

key_said : (primary : List (List ℕ)) (x : List Seen) (own : List (List (List ℕ))) (unique : List WrittenKey) (cs : List Column) (keys : List (List (List ℕ))) (uniques : List WrittenKey) (xss : List (List Seen))
    → has role.COLUMN_NAME x ≡ false → primaries_of x ≡ own → uniques_of x ≡ unique → has_excess x ≡ false → SayAll primary cs keys uniques xss → SayAll primary cs (own ++ keys) (unique ++ uniques) (x ∷ xss)
key_said primary x own unique cs keys uniques xss none p u small rest = record {
  columns = rw none rest.columns;
  keys = λ i. p i ++ rest.keys i;
  uniques = λ i. u i ++ rest.uniques i;
  fit = rw none rest.fit;
  small = λ i. small i || rest.small i;
}

-- what holds of a unique key that is written
abbrev pub IsWrittenKey : UniqueKey → Type 0
IsWrittenKey k = (is_folded k.name ≡ true) × ((length k.columns == 0) ≡ false) × (list_all is_folded k.columns ≡ true)

abbrev pub KeysAreWritten : List UniqueKey → Type 0
KeysAreWritten [] = ⊤
KeysAreWritten (k ∷ ks) = IsWrittenKey k × KeysAreWritten ks

abbrev pub ColumnsAreWritten : List Column → Type 0
ColumnsAreWritten [] = ⊤
ColumnsAreWritten (c ∷ cs) = IsWritten c × ColumnsAreWritten cs

abbrev pub comma : Sign
comma = sign.mark 44 role.DEFINITION

abbrev pub closing : List Sign
closing = sign.mark 41 role.FILLER ∷ []

-- the items of unique keys; behind the last stands the closing bracket
abbrev pub unique_items : List UniqueKey → List (List Sign)
unique_items [] = []
unique_items (k ∷ []) = unique_item comma k closing ∷ []
unique_items (k ∷ next ∷ ks) = unique_item comma k [] ∷ unique_items (next ∷ ks)

abbrev pub primary_items : Sign → List (List ℕ) → List UniqueKey → List (List Sign)
primary_items d names [] = primary_item d names closing ∷ []
primary_items d names (k ∷ ks) = primary_item d names [] ∷ unique_items (k ∷ ks)

abbrev pub items : Sign → List Column → List (List ℕ) → List UniqueKey → List (List Sign)
items d [] names uniques = primary_items d names uniques
items d (c ∷ cs) names uniques = column_item d c ∷ items comma cs names uniques

unique_said : (primary : List (List ℕ)) (k : UniqueKey) (tail : List Sign) (uniques : List WrittenKey) (xss : List (List Seen)) → IsWrittenKey k → only is_filler tail ≡ true → SayAll primary [] [] uniques xss → SayAll primary [] [] (written k ∷ uniques) (all_shown (unique_item comma k tail) ∷ xss)
unique_said primary k tail uniques xss w only_tail rest =
    key_said primary (all_shown (unique_item comma k tail)) [] (written k ∷ []) [] [] uniques xss (unique_has_no_column comma k tail only_tail) (unique_no_primary comma k tail only_tail) (unique_is_read comma k tail w.0 w.1 w.2 only_tail) (unique_in_range comma k tail only_tail) rest

uniques_said : (primary : List (List ℕ)) (uniques : List UniqueKey) → KeysAreWritten uniques → SayAll primary [] [] (map written uniques) (each_shown (unique_items uniques))
uniques_said primary [] w = nothing_said primary
uniques_said primary (k ∷ []) w = unique_said primary k closing [] [] w.0 refl (nothing_said primary)
uniques_said primary (k ∷ next ∷ ks) w = unique_said primary k [] (map written (next ∷ ks)) (each_shown (unique_items (next ∷ ks))) w.0 refl (uniques_said primary (next ∷ ks) w.1)

primary_said : (primary : List (List ℕ)) (d : Sign) (names : List (List ℕ)) (tail : List Sign) (uniques : List WrittenKey) (xss : List (List Seen)) → list_all is_folded names ≡ true → only is_filler tail ≡ true → SayAll primary [] [] uniques xss
    → SayAll primary [] (names ∷ []) uniques (all_shown (primary_item d names tail) ∷ xss)
primary_said primary d names tail uniques xss folded only_tail rest =
    key_said primary (all_shown (primary_item d names tail)) (names ∷ []) [] [] [] uniques xss (primary_has_no_column d names tail only_tail) (primary_is_read d names tail folded only_tail) (primary_no_unique d names tail only_tail) (primary_in_range d names tail only_tail) rest

keys_said : (primary : List (List ℕ)) (d : Sign) (names : List (List ℕ)) (uniques : List UniqueKey) → list_all is_folded names ≡ true → KeysAreWritten uniques → SayAll primary [] (names ∷ []) (map written uniques) (each_shown (primary_items d names uniques))
keys_said primary d names [] folded w = primary_said primary d names closing [] [] folded refl (nothing_said primary)
keys_said primary d names (k ∷ ks) folded w = primary_said primary d names [] (map written (k ∷ ks)) (each_shown (unique_items (k ∷ ks))) folded refl (uniques_said primary (k ∷ ks) w)

pub items_said : (primary : List (List ℕ)) (d : Sign) (cs : List Column) (names : List (List ℕ)) (uniques : List UniqueKey) → ColumnsAreWritten cs → list_all is_folded names ≡ true → KeysAreWritten uniques
    → SayAll primary cs (names ∷ []) (map written uniques) (each_shown (items d cs names uniques))
items_said primary d [] names uniques columns folded w = keys_said primary d names uniques folded w
items_said primary d (c ∷ cs) names uniques columns folded w =
    column_said primary d c cs (names ∷ []) (map written uniques) (each_shown (items comma cs names uniques)) columns.0 (items_said primary comma cs names uniques columns.1 folded w)

-- The schema.

named_all : (before uniques : List UniqueKey) → named_behind before (map written uniques) ≡ before ++ uniques
named_all before [] = sym (append-nil before)
named_all before (k ∷ ks) = named_all (before ++ k ∷ []) ks ∙ append_assoc before (k ∷ []) ks

no_refusal : {A E : Type 0} (o : Option E) (x : A) → is_none o ≡ true → unless_refused o x ≡ Ok x
no_refusal None x h = refl
no_refusal (Some e) x h = absurd cc

few_columns : (n : ℕ) → leb n 256 ≡ true → ltb 256 n ≡ false
few_columns n h = let le = leb-true n 256 h in search (nat_tests, arith)

few_keys : (n : ℕ) → leb n 16 ≡ true → ltb 16 n ≡ false
few_keys n h = let le = leb-true n 16 h in search (nat_tests, arith)

-- a schema that is formed is made again of its columns and keys
pub made_again : (layout : Layout) → is_formed layout ≡ true → leb (length layout.columns) 256 ≡ true → schema_of layout.columns layout.primary layout.uniques ≡ Ok layout
made_again layout formed few =
    let last = and_parts (list_all is_column layout.columns && list_all is_key layout.uniques && leb (length layout.uniques) 16) (is_none (first_refusal (refusals layout.columns layout.primary layout.uniques))) formed in
    let keys = and_parts (list_all is_column layout.columns && list_all is_key layout.uniques) (leb (length layout.uniques) 16) last.0 in
    let none : is_too_many layout.columns layout.uniques ≡ false = λ i. few_columns (length layout.columns) few i || few_keys (length layout.uniques) keys.1 i in
    rw none (no_refusal (first_refusal (refusals layout.columns layout.primary layout.uniques)) layout last.1)

pub items_make : (d : Sign) (layout : Layout) → ColumnsAreWritten layout.columns → list_all is_folded layout.primary ≡ true → KeysAreWritten layout.uniques → is_formed layout ≡ true → leb (length layout.columns) 256 ≡ true
    → schema_of_seen (each_shown (items d layout.columns layout.primary layout.uniques)) ≡ Ok layout
items_make d layout columns folded w formed few =
    let said = items_said layout.primary d layout.columns layout.primary layout.uniques columns folded w in
    let one : all_columns_of (layout.primary ∷ []) ≡ layout.primary = append-nil layout.primary in
    let xss : List (List Seen) = each_shown (items d layout.columns layout.primary layout.uniques) in
    let names : all_columns_of (primaries xss) ≡ layout.primary = ap all_columns_of said.keys ∙ one in
    (λ i. created (columns_of (names i) xss) (said.keys i) (named_behind [] (said.uniques i)) (list_any (unfit_of (names i)) xss))
    ∙ (λ i. created (said.columns i) (layout.primary ∷ []) (named_all [] layout.uniques i) (said.fit i))
    ∙ ap (λ names. unless_unfit false (schema_of layout.columns names layout.uniques)) one
    ∙ ap (unless_unfit false) (made_again layout formed few)
