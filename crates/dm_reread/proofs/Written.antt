-- The text of parts is what is written.
use Rattle.std.proofs.Common.{◌≡◌, ℕ, suc, pos, negsuc, Bool, true, false, cond, ◌==◌, List, [], ◌∷◌, ◌++◌, map, refl, sym, ap, ◌∙◌, append_assoc, append-nil, codes, int_lt, unsigned_abs, ◌/◌, ◌^◌}
use Rattle.std.specs.List.{flat_map}
use Rattle.std.specs.Fmt.{decimal}
use Rattle.dm_value.specs.declared.value.Value.{Value}
use Rattle.dm_value.specs.declared.value.Value.TheVariants as value
use Rattle.dm_value.specs.declared.value.Dec.{Dec}
use Rattle.dm_schema.specs.declared.column.Kind.{Kind}
use Rattle.dm_schema.specs.declared.column.Kind.TheVariants as kind
use Rattle.dm_schema.specs.declared.column.Column.{Column}
use Rattle.dm_schema.specs.declared.column.UniqueKey.{UniqueKey}
use Rattle.dm_schema.specs.declared.column.DefaultRule.{DefaultRule}
use Rattle.dm_schema.specs.declared.column.DefaultRule.TheVariants as default
use Rattle.dm_schema.specs.declared.table_name.TableName.{TableName}
use Rattle.dm_schema.specs.Layout.{Layout}
use Rattle.dm_time.specs.Written.{day_text, moment_text, stamp_text}
use Rattle.dm_text.specs.Names.{quoted, with_commas, name_list, table_name_text}
use Rattle.dm_text.specs.Kinds.{kind_text, integer_text, prefix_text, fraction_text, fraction_digits, is_binary}
use Rattle.dm_text.specs.Values.{in_quotes, string_text, binary_text, bytes_text, places_text, value_text, value_texts, tuple_text}
use Rattle.dm_text.specs.Columns.{nullable_text, default_text, column_text, column_part, primary_part, unique_part, parts_text, create_text}
use Rattle.dm_reread.specs.Parts.{Part, Blank, text_of, mark, number, bracketed, behind_comma, comma_parts, name_item, name_list_parts, table_name_parts, signed_parts, decimal_digits, bytes_part, value_parts, all_value_parts, tuple_parts, fraction_parts, kind_parts, nullable_parts, default_parts, column_parts, column_item, primary_parts, unique_item, layout_parts, create_parts}
use Rattle.dm_reread.proofs.Composing.{text_of_both}

-- Lists of parts.

pub all_are_written : {A : Type 0} (f : A → List Part) (g : A → List ℕ) → ((x : A) → text_of (f x) ≡ g x) → (xs : List A) → text_of (flat_map f xs) ≡ flat_map g xs
all_are_written f g each [] = refl
all_are_written f g each (x ∷ xs) = text_of_both (f x) (flat_map f xs) ∙ (λ i. each x i ++ all_are_written f g each xs i)

pub bracketed_is_written : (parts : List Part) (text : List ℕ) → text_of parts ≡ text → text_of (bracketed parts) ≡ 40 ∷ (text ++ 41 ∷ [])
bracketed_is_written parts text is = ap (λ (xs : List ℕ). 40 ∷ xs) (text_of_both parts (mark 41 ∷ []) ∙ ap (λ (xs : List ℕ). xs ++ 41 ∷ []) is)

further_written : (items : List (List Part)) → text_of (flat_map behind_comma items) ≡ flat_map (λ piece. 44 ∷ piece) (map text_of items)
further_written [] = refl
further_written (item ∷ items) = ap (λ (xs : List ℕ). 44 ∷ xs) (text_of_both item (flat_map behind_comma items) ∙ ap (λ (xs : List ℕ). text_of item ++ xs) (further_written items))

pub commas_are_written : (items : List (List Part)) → text_of (comma_parts items) ≡ with_commas (map text_of items)
commas_are_written [] = refl
commas_are_written (item ∷ items) = text_of_both item (flat_map behind_comma items) ∙ ap (λ (xs : List ℕ). text_of item ++ xs) (further_written items)

-- items that are each written as a text
pub items_are_written : {A : Type 0} (f : A → List Part) (g : A → List ℕ) → ((x : A) → text_of (f x) ≡ g x) → (xs : List A) → text_of (comma_parts (map f xs)) ≡ with_commas (map g xs)
items_are_written {A = A} f g each xs = commas_are_written (map f xs) ∙ ap with_commas (by xs) where
  by : (xs : List A) → map text_of (map f xs) ≡ map g xs
  by [] = refl
  by (x ∷ xs) = λ i. each x i ∷ by xs i

-- Names.

pub name_is_written : (name : List ℕ) → text_of (name_item name) ≡ quoted name
name_is_written name = append-nil (quoted name)

pub name_list_is_written : (names : List (List ℕ)) → text_of (name_list_parts names) ≡ name_list names
name_list_is_written names = bracketed_is_written (comma_parts (map name_item names)) (with_commas (map quoted names)) (items_are_written name_item quoted name_is_written names)

pub table_name_is_written : (t : TableName) → text_of (table_name_parts t) ≡ table_name_text t
table_name_is_written t = ap (λ (xs : List ℕ). quoted t.db ++ 46 ∷ xs) (name_is_written t.table)

-- Values.

signed_written : (minus : Bool) (digits : List ℕ) → text_of (signed_parts minus digits) ≡ cond minus (45 ∷ []) [] ++ digits
signed_written true digits = ap (λ (xs : List ℕ). 45 ∷ xs) (append-nil digits)
signed_written false digits = append-nil digits

bytes_written : (binary : Bool) (bytes : List ℕ) → text_of (bytes_part binary bytes ∷ []) ≡ bytes_text binary bytes
bytes_written false bytes = append-nil (string_text bytes)
bytes_written true [] = refl
bytes_written true (b ∷ bytes) = append-nil (binary_text (b ∷ bytes))

decimal_written : (d : Dec) → text_of (value_parts kind.Date (value.Dec d)) ≡ value_text kind.Date (value.Dec d)
decimal_written d =
    signed_written (int_lt d.digits (pos 0)) (decimal_digits d)
    ∙ sym (append_assoc (cond (int_lt d.digits (pos 0)) (45 ∷ []) []) (decimal (unsigned_abs d.digits / 10 ^ d.scale)) (places_text d.scale (unsigned_abs d.digits)))

pub value_is_written : (k : Kind) (v : Value) → text_of (value_parts k v) ≡ value_text k v
value_is_written k value.Null = refl
value_is_written k (value.Int (pos n)) = append-nil (decimal n)
value_is_written k (value.Int (negsuc n)) = ap (λ (xs : List ℕ). 45 ∷ xs) (append-nil (decimal (suc n)))
value_is_written k (value.Dec d) = decimal_written d
value_is_written k (value.Bytes bytes) = bytes_written (is_binary k) bytes
value_is_written k (value.Date d) = append-nil (in_quotes (day_text d))
value_is_written k (value.Moment m) = append-nil (in_quotes (moment_text (fraction_digits k) m))
value_is_written k (value.Stamp s) = append-nil (in_quotes (stamp_text (fraction_digits k) s))

values_written : (columns : List Column) (row : List Value) → map text_of (all_value_parts columns row) ≡ value_texts columns row
values_written [] row = refl
values_written (c ∷ cs) [] = refl
values_written (c ∷ cs) (v ∷ vs) = λ i. value_is_written c.kind v i ∷ values_written cs vs i

pub tuple_is_written : (columns : List Column) (row : List Value) → text_of (tuple_parts columns row) ≡ tuple_text columns row
tuple_is_written columns row = bracketed_is_written (comma_parts (all_value_parts columns row)) (with_commas (value_texts columns row)) (commas_are_written (all_value_parts columns row) ∙ ap with_commas (values_written columns row))

-- Kinds.

fraction_written : (digits : ℕ) → text_of (fraction_parts digits) ≡ fraction_text digits
fraction_written digits = by (digits == 0) where
  by : (none : Bool) → text_of (cond none [] (bracketed (number digits ∷ []))) ≡ cond none [] (40 ∷ decimal digits ++ 41 ∷ [])
  by true = refl
  by false = refl

pub kind_is_written : (k : Kind) → text_of (kind_parts k) ≡ kind_text k
kind_is_written (kind.Signed size) = append-nil (integer_text size)
kind_is_written (kind.Unsigned size) = refl
kind_is_written (kind.Decimal precision scale) = ap (λ (xs : List ℕ). codes "DECIMAL(" ++ xs) (sym (append_assoc (decimal precision) (44 ∷ decimal scale) (41 ∷ [])))
kind_is_written (kind.Char most) = refl
kind_is_written (kind.Varchar most) = refl
kind_is_written (kind.Text prefix) = append-nil (prefix_text prefix ++ codes "TEXT")
kind_is_written (kind.Binary size) = refl
kind_is_written (kind.Varbinary most) = refl
kind_is_written (kind.Blob prefix) = append-nil (prefix_text prefix ++ codes "BLOB")
kind_is_written kind.Date = refl
kind_is_written kind.Year = refl
kind_is_written (kind.Datetime digits) = ap (λ (xs : List ℕ). codes "DATETIME" ++ xs) (fraction_written digits)
kind_is_written (kind.Timestamp digits) = ap (λ (xs : List ℕ). codes "TIMESTAMP" ++ xs) (fraction_written digits)

-- Columns.

nullable_written : (nullable : Bool) → text_of (nullable_parts nullable) ≡ nullable_text nullable
nullable_written true = refl
nullable_written false = refl

default_written : (k : Kind) (rule : DefaultRule) → text_of (default_parts k rule) ≡ default_text k rule
default_written k default.Nothing = refl
default_written k (default.Const v) = ap (λ (xs : List ℕ). codes " DEFAULT " ++ xs) (value_is_written k v)
default_written k default.Now = ap (λ (xs : List ℕ). codes " DEFAULT CURRENT_TIMESTAMP" ++ xs) (fraction_written (fraction_digits k))

four_texts : (a b c d : List ℕ) → a ++ 32 ∷ (b ++ (c ++ d)) ≡ a ++ 32 ∷ b ++ c ++ d
four_texts a b c d = sym (append_assoc (a ++ 32 ∷ b) c d ∙ append_assoc a (32 ∷ b) (c ++ d))

pub column_is_written : (c : Column) → text_of (column_parts c) ≡ column_text c
column_is_written c =
    ap (λ (xs : List ℕ). quoted c.name ++ 32 ∷ xs)
    (text_of_both (kind_parts c.kind) (nullable_parts c.nullable ++ default_parts c.kind c.default_rule)
    ∙ ap (λ (xs : List ℕ). text_of (kind_parts c.kind) ++ xs) (text_of_both (nullable_parts c.nullable) (default_parts c.kind c.default_rule))
    ∙ (λ i. kind_is_written c.kind i ++ (nullable_written c.nullable i ++ default_written c.kind c.default_rule i)))
    ∙ four_texts (quoted c.name) (kind_text c.kind) (nullable_text c.nullable) (default_text c.kind c.default_rule)

column_item_written : (c : Column) → text_of (column_item c) ≡ column_part c
column_item_written c = text_of_both (column_parts c) (mark 44 ∷ Blank 32 ∷ []) ∙ ap (λ (xs : List ℕ). xs ++ codes ", ") (column_is_written c)

-- Tables.

primary_written : (names : List (List ℕ)) → text_of (primary_parts names) ≡ primary_part names
primary_written names = ap (λ (xs : List ℕ). codes "PRIMARY KEY " ++ xs) (name_list_is_written names)

unique_written : (k : UniqueKey) → text_of (unique_item k) ≡ unique_part k
unique_written k =
    ap (λ (xs : List ℕ). codes ", UNIQUE KEY " ++ (quoted k.name ++ 32 ∷ xs)) (name_list_is_written k.columns)

layout_written : (layout : Layout) → text_of (layout_parts layout) ≡ parts_text layout
layout_written layout =
    text_of_both (flat_map column_item layout.columns) (primary_parts layout.primary ++ flat_map unique_item layout.uniques)
    ∙ ap (λ (xs : List ℕ). text_of (flat_map column_item layout.columns) ++ xs) (text_of_both (primary_parts layout.primary) (flat_map unique_item layout.uniques))
    ∙ (λ i. all_are_written column_item column_part column_item_written layout.columns i ++ (primary_written layout.primary i ++ all_are_written unique_item unique_part unique_written layout.uniques i))
    ∙ sym (append_assoc (flat_map column_part layout.columns) (primary_part layout.primary) (flat_map unique_part layout.uniques))

create_texts : (name inner : List ℕ) → codes "CREATE TABLE " ++ (name ++ 32 ∷ 40 ∷ (inner ++ codes ");\n")) ≡ codes "CREATE TABLE " ++ name ++ codes " (" ++ inner ++ codes ");\n"
create_texts name inner =
    ap (λ (xs : List ℕ). codes "CREATE TABLE " ++ xs) (sym (append_assoc (name ++ codes " (") inner (codes ");\n") ∙ append_assoc name (codes " (") (inner ++ codes ");\n")))

pub create_is_written : (name : List Part) (layout : Layout) → text_of (create_parts name layout) ≡ create_text (text_of name) layout
create_is_written name layout =
    ap (λ (xs : List ℕ). codes "CREATE TABLE " ++ xs)
    (text_of_both name (Blank 32 ∷ mark 40 ∷ (layout_parts layout ++ mark 41 ∷ mark 59 ∷ Blank 10 ∷ []))
    ∙ ap (λ (xs : List ℕ). text_of name ++ 32 ∷ 40 ∷ xs) (text_of_both (layout_parts layout) (mark 41 ∷ mark 59 ∷ Blank 10 ∷ []) ∙ ap (λ (xs : List ℕ). xs ++ codes ");\n") (layout_written layout)))
    ∙ create_texts (text_of name) (parts_text layout)
