-- What the definitions of a CREATE TABLE say, by what is seen of their pieces.
use Rattle.std.proofs.Common.{◌≡◌, ◌==◌, ◌||◌, ◌&&◌, ℕ, Bool, true, false, not, cond, List, [], ◌∷◌, ◌++◌, map, fold, Option, Some, None, Result, refl, sym, ap, ◌∙◌}
use Rattle.std.specs.Option.{option_map}
use Rattle.std.specs.Prelude.{option_and_then, is_none, unwrap_or, if◌then◌else◌}
use Rattle.std.specs.List.{list_any, find, filter, flat_map}
use Rattle.dm_value.specs.declared.value.Value.{Value}
use Rattle.dm_schema.specs.declared.column.Kind.{Kind}
use Rattle.dm_schema.specs.declared.column.Kind.TheVariants as kind
use Rattle.dm_schema.specs.declared.column.Column.{Column}
use Rattle.dm_schema.specs.declared.column.DefaultRule.{DefaultRule}
use Rattle.dm_schema.specs.declared.column.DefaultRule.TheVariants as default
use Rattle.dm_schema.specs.declared.fault.SchemaFault.{SchemaFault}
use Rattle.dm_schema.specs.Layout.{Layout}
use Rattle.dm_schema.specs.Effect.{is_among, rule_by}
use Rattle.dm_lex.specs.Literals.{literal_of}
use Rattle.dm_syntax.specs.declared.piece.Piece.{Piece}
use Rattle.dm_syntax.specs.declared.role.TheConstants as role
use Rattle.dm_syntax.specs.declared.terminal.TheConstants as terminal
use Rattle.dm_syntax.specs.Pieces.{first_with, has_role, begins, parts}
use Rattle.dm_ddl.specs.declared.keys.WrittenKey.{WrittenKey}
use Rattle.dm_ddl.specs.Bounds.{precision_in, is_in_range, is_out_of_range, excess_in, first_excess, items_of, item_roles}
use Rattle.dm_ddl.specs.Types.{type_word, kind_in}
use Rattle.dm_ddl.specs.Columns.{literal_in, last_default, rule_in, nullable_in, column_name, default_in, is_unfit, column_in, is_key_from}
use Rattle.dm_ddl.specs.Keys.{key_parts, key_name, is_named, key_over, key_of_column, unique_keys, primary_keys}
use Rattle.dm_ddl.specs.Creating.{columns_in, primaries_in, all_columns_of, named_behind, created, schema_with, schema_in}
use Rattle.dm_write.proofs.Splitting.{any_map, parts_map}
use Rattle.dm_write.proofs.Seen.{Seen, seen, all_seen, first_of, has, has_seen, first_seen, said_first, number_seen, number, number_or_seen, folded_first, folded_with_seen, all_folded, all_folded_seen, word_seen}

-- Kinds.

abbrev integer_by : ℕ → Bool → Kind
integer_by size unsigned = if unsigned then kind.Unsigned size else kind.Signed size

-- the kind of a type's word, its sign and its numbers
abbrev pub kind_by : ℕ → Bool → ℕ → ℕ → ℕ → ℕ → ℕ → Kind
kind_by word unsigned precision scale short long digits =
    if word == terminal.TINYINT then integer_by 1 unsigned
    else if word == terminal.SMALLINT then integer_by 2 unsigned
    else if word == terminal.MEDIUMINT then integer_by 3 unsigned
    else if word == terminal.INT then integer_by 4 unsigned
    else if word == terminal.BIGINT then integer_by 8 unsigned
    else if word == terminal.BOOL then kind.Signed 1
    else if word == terminal.DECIMAL then kind.Decimal precision scale
    else if word == terminal.CHAR then kind.Char short
    else if word == terminal.BINARY then kind.Binary short
    else if word == terminal.VARCHAR then kind.Varchar long
    else if word == terminal.VARBINARY then kind.Varbinary long
    else if word == terminal.TINYTEXT then kind.Text 1
    else if word == terminal.TEXT then kind.Text 2
    else if word == terminal.MEDIUMTEXT then kind.Text 3
    else if word == terminal.LONGTEXT then kind.Text 4
    else if word == terminal.TINYBLOB then kind.Blob 1
    else if word == terminal.BLOB then kind.Blob 2
    else if word == terminal.MEDIUMBLOB then kind.Blob 3
    else if word == terminal.LONGBLOB then kind.Blob 4
    else if word == terminal.DATE then kind.Date
    else if word == terminal.YEAR then kind.Year
    else if word == terminal.DATETIME then kind.Datetime digits
    else kind.Timestamp digits

abbrev pub kind_of : List Seen → Kind
kind_of xs =
    kind_by (word_seen xs) (has role.UNSIGNED xs) (number role.PRECISION 10 xs) (number role.SCALE 0 xs) (number role.CHAR_LENGTH 1 xs) (number role.STRING_LENGTH 0 xs) (number role.FRACTION 0 xs)

type_word_seen : (text : List ℕ) (ps : List Piece) → type_word ps ≡ word_seen (all_seen text ps)
type_word_seen text ps = said_first text role.TYPE (λ p. p.kind) (λ s. s.kind) terminal.TIMESTAMP ps (λ p. refl)

pub kind_seen : (text : List ℕ) (ps : List Piece) → kind_in text ps ≡ kind_of (all_seen text ps)
kind_seen text ps = λ i.
    kind_by (type_word_seen text ps i) (has_seen text role.UNSIGNED ps i) (number_or_seen text role.PRECISION 10 ps i) (number_or_seen text role.SCALE 0 ps i)
    (number_or_seen text role.CHAR_LENGTH 1 ps i) (number_or_seen text role.STRING_LENGTH 0 ps i) (number_or_seen text role.FRACTION 0 ps i)

-- Columns.

abbrev pub literal_by : Kind → Bool → Seen → Option Value
literal_by k minus s = literal_of k minus s.spelling.kind s.spelling.bytes

abbrev pub literal_in_seen : Kind → List Seen → Option Value
literal_in_seen k xs = option_and_then (literal_by k (has role.MINUS xs)) (first_of role.LITERAL xs)

then_seen : {A : Type 0} (text : List ℕ) (f : Seen → Option A) (o : Option Piece) → option_and_then (λ p. f (seen text p)) o ≡ option_and_then f (option_map (seen text) o)
then_seen text f None = refl
then_seen text f (Some p) = refl

literal_seen : (text : List ℕ) (k : Kind) (ps : List Piece) → literal_in text k ps ≡ literal_in_seen k (all_seen text ps)
literal_seen text k ps =
    then_seen text (literal_by k (has_role role.MINUS ps)) (first_with role.LITERAL ps)
    ∙ (λ i. option_and_then (literal_by k (has_seen text role.MINUS ps i)) (first_seen text role.LITERAL ps i))

-- a piece of one of these roles
abbrev pub starts : List ℕ → Seen → Bool
starts roles s = list_any (λ r. r == s.role) roles

abbrev pub last_seen : List (List Seen) → Option (List Seen)
last_seen all = fold (λ last part. Some part) None all

last_map : {A B : Type 0} (f : A → B) (o : Option A) (xs : List A) → option_map f (fold (λ last part. Some part) o xs) ≡ fold (λ last part. Some part) (option_map f o) (map f xs)
last_map f o [] = refl
last_map f o (x ∷ xs) = last_map f (Some x) xs

abbrev pub last_default_seen : List Seen → Option (List Seen)
last_default_seen xs = last_seen (parts (starts (role.DEFAULT ∷ [])) xs)

default_parts_seen : (text : List ℕ) (ps : List Piece) → option_map (all_seen text) (last_default ps) ≡ last_default_seen (all_seen text ps)
default_parts_seen text ps = last_map (all_seen text) None (parts (begins (role.DEFAULT ∷ [])) ps) ∙ ap last_seen (parts_map (seen text) (starts (role.DEFAULT ∷ [])) ps)

abbrev pub rule_of : Kind → Bool → Option (List Seen) → Option DefaultRule
rule_of k nullable None = Some default.Nothing
rule_of k nullable (Some xs) = if has role.NOW xs then Some default.Now else rule_by nullable (literal_in_seen k xs)

rule_seen : (text : List ℕ) (k : Kind) (nullable : Bool) (o : Option (List Piece)) → rule_in text k nullable o ≡ rule_of k nullable (option_map (all_seen text) o)
rule_seen text k nullable None = refl
rule_seen text k nullable (Some ps) = λ i. cond (has_seen text role.NOW ps i) (Some default.Now) (rule_by nullable (literal_seen text k ps i))

abbrev pub nullable_by : Bool → Bool → Bool → Bool → Bool
nullable_by counts not_null null_written among = not counts && not not_null && (null_written || not among)

abbrev pub nullable_of : List (List ℕ) → List ℕ → List Seen → Bool
nullable_of primary name xs = nullable_by (has role.AUTO_INCREMENT xs) (has role.NOT_NULL xs) (has role.NULL_WRITTEN xs) (is_among primary name)

abbrev pub name_of_column : List Seen → List ℕ
name_of_column xs = folded_first role.COLUMN_NAME xs

nullable_seen : (text : List ℕ) (primary : List (List ℕ)) (ps : List Piece) → nullable_in primary (column_name text ps) ps ≡ nullable_of primary (name_of_column (all_seen text ps)) (all_seen text ps)
nullable_seen text primary ps = λ i.
    nullable_by (has_seen text role.AUTO_INCREMENT ps i) (has_seen text role.NOT_NULL ps i) (has_seen text role.NULL_WRITTEN ps i) (is_among primary (folded_with_seen text role.COLUMN_NAME ps i))

abbrev pub default_of : List (List ℕ) → List Seen → Option DefaultRule
default_of primary xs = rule_of (kind_of xs) (nullable_of primary (name_of_column xs) xs) (last_default_seen xs)

default_seen : (text : List ℕ) (primary : List (List ℕ)) (ps : List Piece) → default_in text primary ps ≡ default_of primary (all_seen text ps)
default_seen text primary ps =
    rule_seen text (kind_in text ps) (nullable_in primary (column_name text ps) ps) (last_default ps)
    ∙ (λ i. rule_of (kind_seen text ps i) (nullable_seen text primary ps i) (default_parts_seen text ps i))

abbrev pub unfit_of : List (List ℕ) → List Seen → Bool
unfit_of primary xs = has role.COLUMN_NAME xs && is_none (default_of primary xs)

unfit_seen : (text : List ℕ) (primary : List (List ℕ)) (ps : List Piece) → is_unfit text primary ps ≡ unfit_of primary (all_seen text ps)
unfit_seen text primary ps = λ i. has_seen text role.COLUMN_NAME ps i && is_none (default_seen text primary ps i)

abbrev column_by : List ℕ → Kind → Bool → Option DefaultRule → Column
column_by name k nullable rule = record { name = name; kind = k; nullable = nullable; default_rule = unwrap_or rule default.Nothing }

abbrev pub column_of : List (List ℕ) → List Seen → Column
column_of primary xs = column_by (name_of_column xs) (kind_of xs) (nullable_of primary (name_of_column xs) xs) (default_of primary xs)

column_seen : (text : List ℕ) (primary : List (List ℕ)) (ps : List Piece) → column_in text primary ps ≡ column_of primary (all_seen text ps)
column_seen text primary ps = λ i. column_by (folded_with_seen text role.COLUMN_NAME ps i) (kind_seen text ps i) (nullable_seen text primary ps i) (default_seen text primary ps i)

-- Keys.

abbrev pub key_from : Bool → List Seen → Bool
key_from behind_unique [] = false
key_from behind_unique (x ∷ xs) = x.role == role.KEY_COLUMN && not behind_unique || key_from (x.role == role.UNIQUE_COLUMN) xs

key_from_seen : (text : List ℕ) (behind : Bool) (ps : List Piece) → is_key_from behind ps ≡ key_from behind (all_seen text ps)
key_from_seen text behind [] = refl
key_from_seen text behind (p ∷ ps) = ap (λ b. p.role == role.KEY_COLUMN && not behind || b) (key_from_seen text (p.role == role.UNIQUE_COLUMN) ps)

abbrev pub over : List ℕ → Bool → List (List ℕ) → List WrittenKey
over name named [] = []
over name named (n ∷ ns) = (record { key = record { name = name; columns = n ∷ ns }; named = named }) ∷ []

over_seen : (text : List ℕ) (ps : List Piece) (columns : List (List ℕ)) → key_over text ps columns ≡ over (key_name text ps) (is_named ps) columns
over_seen text ps [] = refl
over_seen text ps (n ∷ ns) = refl

abbrev pub key_name_of : List Seen → List ℕ
key_name_of xs = if has role.KEY_NAME xs then folded_first role.KEY_NAME xs else folded_first role.CONSTRAINT_NAME xs

key_name_seen : (text : List ℕ) (ps : List Piece) → key_name text ps ≡ key_name_of (all_seen text ps)
key_name_seen text ps = λ i. cond (has_seen text role.KEY_NAME ps i) (folded_with_seen text role.KEY_NAME ps i) (folded_with_seen text role.CONSTRAINT_NAME ps i)

abbrev pub named_of : List Seen → Bool
named_of xs = has role.KEY_NAME xs || has role.CONSTRAINT_NAME xs

abbrev unique_by : Bool → Bool → List ℕ → List WrittenKey → List WrittenKey
unique_by of_column of_key name keys = if of_column then key_of_column name else if of_key then keys else []

abbrev pub uniques_of : List Seen → List WrittenKey
uniques_of xs =
    unique_by (has role.UNIQUE_COLUMN xs) (has role.UNIQUE_KEY xs || has role.UNIQUE_INDEX xs) (name_of_column xs) (over (key_name_of xs) (named_of xs) (all_folded role.KEY_PART xs))

unique_seen : (text : List ℕ) (ps : List Piece) → unique_keys text ps ≡ uniques_of (all_seen text ps)
unique_seen text ps =
    ap (unique_by (has_role role.UNIQUE_COLUMN ps) (has_role role.UNIQUE_KEY ps || has_role role.UNIQUE_INDEX ps) (column_name text ps)) (over_seen text ps (key_parts text ps))
    ∙ (λ i. unique_by (has_seen text role.UNIQUE_COLUMN ps i) (has_seen text role.UNIQUE_KEY ps i || has_seen text role.UNIQUE_INDEX ps i) (folded_with_seen text role.COLUMN_NAME ps i)
    (over (key_name_seen text ps i) (has_seen text role.KEY_NAME ps i || has_seen text role.CONSTRAINT_NAME ps i) (all_folded_seen text role.KEY_PART ps i)))

abbrev primary_by : Bool → Bool → Bool → List (List ℕ) → List ℕ → List (List (List ℕ))
primary_by of_key of_column makes columns name = if of_key then columns ∷ [] else if of_column && makes then (name ∷ []) ∷ [] else []

abbrev pub primaries_of : List Seen → List (List (List ℕ))
primaries_of xs = primary_by (has role.PRIMARY_KEY xs) (has role.COLUMN_NAME xs) (key_from false xs) (all_folded role.KEY_PART xs) (name_of_column xs)

primary_seen : (text : List ℕ) (ps : List Piece) → primary_keys text ps ≡ primaries_of (all_seen text ps)
primary_seen text ps = λ i.
    primary_by (has_seen text role.PRIMARY_KEY ps i) (has_seen text role.COLUMN_NAME ps i) (key_from_seen text false ps i) (all_folded_seen text role.KEY_PART ps i) (folded_with_seen text role.COLUMN_NAME ps i)

-- All definitions.

abbrev pub each_seen : List ℕ → List (List Piece) → List (List Seen)
each_seen text items = map (all_seen text) items

abbrev pub columns_of : List (List ℕ) → List (List Seen) → List Column
columns_of primary xss = map (column_of primary) (filter (has role.COLUMN_NAME) xss)

columns_seen : (text : List ℕ) (primary : List (List ℕ)) (items : List (List Piece)) → columns_in text primary items ≡ columns_of primary (each_seen text items)
columns_seen text primary [] = refl
columns_seen text primary (item ∷ items) = by (has_role role.COLUMN_NAME item) refl (columns_seen text primary items) where
  by : (b : Bool) → has_role role.COLUMN_NAME item ≡ b → columns_in text primary items ≡ columns_of primary (each_seen text items) → columns_in text primary (item ∷ items) ≡ columns_of primary (each_seen text (item ∷ items))
  by true e rest = let there : has role.COLUMN_NAME (all_seen text item) ≡ true = sym (has_seen text role.COLUMN_NAME item) ∙ e in rw (e, there) (λ i. column_seen text primary item i ∷ rest i)
  by false e rest = let there : has role.COLUMN_NAME (all_seen text item) ≡ false = sym (has_seen text role.COLUMN_NAME item) ∙ e in rw (e, there) rest

abbrev pub primaries : List (List Seen) → List (List (List ℕ))
primaries xss = flat_map primaries_of xss

primaries_seen : (text : List ℕ) (items : List (List Piece)) → primaries_in text items ≡ primaries (each_seen text items)
primaries_seen text [] = refl
primaries_seen text (item ∷ items) = λ i. primary_seen text item i ++ primaries_seen text items i

uniques_seen : (text : List ℕ) (items : List (List Piece)) → flat_map (unique_keys text) items ≡ flat_map uniques_of (each_seen text items)
uniques_seen text [] = refl
uniques_seen text (item ∷ items) = λ i. unique_seen text item i ++ uniques_seen text items i

any_unfit_seen : (text : List ℕ) (primary : List (List ℕ)) (items : List (List Piece)) → list_any (is_unfit text primary) items ≡ list_any (unfit_of primary) (each_seen text items)
any_unfit_seen text primary [] = refl
any_unfit_seen text primary (item ∷ items) = λ i. unfit_seen text primary item i || any_unfit_seen text primary items i

abbrev pub schema_of_seen : List (List Seen) → Result Layout SchemaFault
schema_of_seen xss =
    created (columns_of (all_columns_of (primaries xss)) xss) (primaries xss) (named_behind [] (flat_map uniques_of xss)) (list_any (unfit_of (all_columns_of (primaries xss))) xss)

pub schema_seen : (text : List ℕ) (items : List (List Piece)) → schema_in text items ≡ schema_of_seen (each_seen text items)
schema_seen text items =
    ap (schema_with text items) (primaries_seen text items)
    ∙ (λ i. created (columns_seen text (all_columns_of (primaries (each_seen text items))) items i) (primaries (each_seen text items)) (named_behind [] (uniques_seen text items i))
    (any_unfit_seen text (all_columns_of (primaries (each_seen text items))) items i))

-- Numbers out of range.

abbrev pub excess : ℕ → Seen → Bool
excess precision s = not (is_in_range precision s.role (number_seen s))

abbrev pub has_excess : List Seen → Bool
has_excess xs = list_any (excess (number role.PRECISION 10 xs)) xs

none_found : {A : Type 0} (test : A → Bool) (xs : List A) → list_any test xs ≡ false → find test xs ≡ None
none_found test [] none = refl
none_found test (x ∷ xs) none = by (test x) refl none (none_found test xs) where
  by : (b : Bool) → test x ≡ b → (b || list_any test xs) ≡ false → (list_any test xs ≡ false → find test xs ≡ None) → find test (x ∷ xs) ≡ None
  by true e none rest = absurd cc
  by false e none rest = rw e (rest none)

no_excess : (text : List ℕ) (ps : List Piece) → has_excess (all_seen text ps) ≡ false → excess_in text ps ≡ None
no_excess text ps h =
    let precise : precision_in text ps ≡ number role.PRECISION 10 (all_seen text ps) = number_or_seen text role.PRECISION 10 ps in
    let none : list_any (is_out_of_range text (precision_in text ps)) ps ≡ false =
    any_map (seen text) (excess (precision_in text ps)) ps ∙ ap (λ n. list_any (excess n) (all_seen text ps)) precise ∙ h in
    none_found (is_out_of_range text (precision_in text ps)) ps none

pub no_first_excess : (text : List ℕ) (items : List (List Piece)) → list_any has_excess (each_seen text items) ≡ false → first_excess text items ≡ None
no_first_excess text [] h = refl
no_first_excess text (item ∷ items) h = by (has_excess (all_seen text item)) refl h (no_first_excess text items) where
  by : (b : Bool) → has_excess (all_seen text item) ≡ b → (b || list_any has_excess (each_seen text items)) ≡ false → (list_any has_excess (each_seen text items) ≡ false → first_excess text items ≡ None) → first_excess text (item ∷ items) ≡ None
  by true e h rest = absurd cc
  by false e h rest = rw (no_excess text item e) (rest h)

pub items_seen : (text : List ℕ) (ps : List Piece) → each_seen text (items_of ps) ≡ parts (starts item_roles) (all_seen text ps)
items_seen text ps = parts_map (seen text) (starts item_roles) ps
