-- What is written is spelled, before each text that may follow.
use Rattle.std.proofs.Common.{◌≡◌, ℕ, suc, ◌/◌, ◌^◌, ◌≤◌, pos, negsuc, int_lt, unsigned_abs, Bool, true, false, cond, ◌==◌, List, [], ◌∷◌, ◌++◌, map, length, refl, sym, ap, ◌∙◌, subst, append-nil, append_assoc, codes, arith, eqb}
use Rattle.std.specs.List.{flat_map, list_all}
use Rattle.std.specs.Fmt.{decimal, digits}
use Rattle.std.proofs.lemmas.Bool.{and_parts, and_from}
use Rattle.dm_value.specs.declared.value.Value.{Value}
use Rattle.dm_value.specs.declared.value.Value.TheVariants as value
use Rattle.dm_schema.specs.declared.column.Kind.{Kind}
use Rattle.dm_schema.specs.declared.column.Kind.TheVariants as kind
use Rattle.dm_schema.specs.declared.column.Column.{Column}
use Rattle.dm_schema.specs.declared.column.UniqueKey.{UniqueKey}
use Rattle.dm_schema.specs.declared.column.DefaultRule.{DefaultRule}
use Rattle.dm_schema.specs.declared.column.DefaultRule.TheVariants as default
use Rattle.dm_schema.specs.declared.table_name.TableName.{TableName}
use Rattle.dm_schema.specs.Layout.{Layout}
use Rattle.dm_time.specs.Written.{digits_of, day_text, moment_text, stamp_text}
use Rattle.dm_text.specs.Names.{quoted}
use Rattle.dm_text.specs.Kinds.{integer_text, prefix_text, fraction_digits, is_binary}
use Rattle.dm_text.specs.Values.{in_quotes, string_text, hex_pair, places_text}
use Rattle.dm_lex.specs.declared.token.TokenKind.TheVariants as token
use Rattle.dm_lex.specs.Lexemes.{is_digit, starts, lexeme_of}
use Rattle.dm_reread.specs.Parts.{Part, Blank, Piece, text_of, is_piece, is_spelled_before, may_follow, word, mark, number, bracketed, behind_comma, comma_parts, name_part, name_item, name_list_parts, table_name_parts, signed_parts, text_part, bytes_part, value_parts, all_value_parts, tuple_parts, are_bytes, has_bytes, default_has_bytes, fraction_parts, kind_parts, nullable_parts, default_parts, column_parts, column_item, primary_parts, unique_item, layout_parts, create_parts}
use Rattle.dm_reread.proofs.Composing.{both_are_spelled}
use Rattle.dm_reread.proofs.Follows.{ends}
use Rattle.dm_reread.proofs.Lexing.{one_is_spelled, name_is_piece, string_is_piece, excludes, digit_below, number_is_piece, fraction_is_piece, is_capital_word, word_is_spelled, pairs_are_digits, hex_is_piece}
use Rattle.dm_reread.proofs.Plain.{day_plain, moment_plain, stamp_plain, plain_string}
use Rattle.dm_reread.proofs.Digits.{decimal_is_digits, decimal_some, digits_are_digits}

-- Lists of parts.

-- each item is spelled before each text that may follow
abbrev pub AreSpelled : List (List Part) → Type 0
AreSpelled [] = Unit {0}
AreSpelled (item ∷ items) = ((behind : List ℕ) → may_follow behind ≡ true → is_spelled_before behind item ≡ true) × AreSpelled items

further_follow : (items : List (List Part)) (behind : List ℕ) → may_follow behind ≡ true → may_follow (text_of (flat_map behind_comma items) ++ behind) ≡ true
further_follow [] behind follows = follows
further_follow (item ∷ items) behind follows = refl

further_are_spelled : (items : List (List Part)) (behind : List ℕ) → AreSpelled items → may_follow behind ≡ true → is_spelled_before behind (flat_map behind_comma items) ≡ true
further_are_spelled [] behind each follows = refl
further_are_spelled (item ∷ items) behind each follows =
    both_are_spelled item (flat_map behind_comma items) behind (each.0 (text_of (flat_map behind_comma items) ++ behind) (further_follow items behind follows)) (further_are_spelled items behind each.1 follows)

pub commas_are_spelled : (items : List (List Part)) (behind : List ℕ) → AreSpelled items → may_follow behind ≡ true → is_spelled_before behind (comma_parts items) ≡ true
commas_are_spelled [] behind each follows = refl
commas_are_spelled (item ∷ items) behind each follows =
    both_are_spelled item (flat_map behind_comma items) behind (each.0 (text_of (flat_map behind_comma items) ++ behind) (further_follow items behind follows)) (further_are_spelled items behind each.1 follows)

pub bracketed_is_spelled : (parts : List Part) (behind : List ℕ) → is_spelled_before (41 ∷ behind) parts ≡ true → is_spelled_before behind (bracketed parts) ≡ true
bracketed_is_spelled parts behind inner = both_are_spelled parts (mark 41 ∷ []) behind inner refl

-- items that pass a test and are spelled then
pub items_are_spelled : {A : Type 0} (f : A → List Part) (test : A → Bool) → ((x : A) (behind : List ℕ) → test x ≡ true → may_follow behind ≡ true → is_spelled_before behind (f x) ≡ true) → (xs : List A) → list_all test xs ≡ true → AreSpelled (map f xs)
items_are_spelled f test each [] all = tt
items_are_spelled f test each (x ∷ xs) all =
    let parts = and_parts (test x) (list_all test xs) all in
    (λ behind follows. each x behind parts.0 follows, items_are_spelled f test each xs parts.1)

-- items that are spelled before every text
pub all_are_spelled : {A : Type 0} (f : A → List Part) → ((x : A) (behind : List ℕ) → is_spelled_before behind (f x) ≡ true) → (xs : List A) (behind : List ℕ) → is_spelled_before behind (flat_map f xs) ≡ true
all_are_spelled f each [] behind = refl
all_are_spelled f each (x ∷ xs) behind = both_are_spelled (f x) (flat_map f xs) behind (each x (text_of (flat_map f xs) ++ behind)) (all_are_spelled f each xs behind)

-- Names.

pub name_is_spelled : (name behind : List ℕ) → starts 96 behind ≡ false → is_spelled_before behind (name_item name) ≡ true
name_is_spelled name behind ends = one_is_spelled token.Quoted (quoted name) behind (name_is_piece name behind ends)

-- a name before further parts
pub name_before : (name : List ℕ) (parts : List Part) (behind : List ℕ) → starts 96 (text_of parts ++ behind) ≡ false → is_spelled_before behind parts ≡ true → is_spelled_before behind (name_part name ∷ parts) ≡ true
name_before name parts behind ends rest = and_from (is_piece token.Quoted (length (quoted name)) (lexeme_of (quoted name ++ (text_of parts ++ behind)))) (is_spelled_before behind parts) (name_is_piece name (text_of parts ++ behind) ends) rest

names_are_spelled : (names : List (List ℕ)) → AreSpelled (map name_item names)
names_are_spelled [] = tt
names_are_spelled (name ∷ names) = (λ behind follows. name_is_spelled name behind (ends behind follows).backquote, names_are_spelled names)

pub name_list_is_spelled : (names : List (List ℕ)) (behind : List ℕ) → is_spelled_before behind (name_list_parts names) ≡ true
name_list_is_spelled names behind = bracketed_is_spelled (comma_parts (map name_item names)) behind (commas_are_spelled (map name_item names) (41 ∷ behind) (names_are_spelled names) refl)

pub table_name_is_spelled : (t : TableName) (behind : List ℕ) → starts 96 behind ≡ false → is_spelled_before behind (table_name_parts t) ≡ true
table_name_is_spelled t behind ends = name_before t.db (mark 46 ∷ name_part t.table ∷ []) behind refl (name_is_spelled t.table behind ends)

-- Values.

minus_is_piece : (digits behind : List ℕ) → 1 ≤ length digits → list_all is_digit digits ≡ true → is_piece token.Mark 1 (lexeme_of (45 ∷ (digits ++ behind))) ≡ true
minus_is_piece [] behind some all = absurd (omega arith)
minus_is_piece (d ∷ digits) behind some all =
    let is = (and_parts (is_digit d) (list_all is_digit digits) all).0 in
    let other : eqb d 45 ≡ false = excludes is_digit (λ n. eqb n 45) 58 d refl (digit_below d is) is in
    rw other refl

-- digits that perhaps a minus stands before
abbrev IsNumeral : List ℕ → List ℕ → Type 0
IsNumeral digits behind = is_piece token.Number (length digits) (lexeme_of (digits ++ behind)) ≡ true

signed_is_spelled : (minus : Bool) (digits behind : List ℕ) → IsNumeral digits behind → is_piece token.Mark 1 (lexeme_of (45 ∷ (digits ++ ([] ++ behind)))) ≡ true → is_spelled_before behind (signed_parts minus digits) ≡ true
signed_is_spelled false digits behind is dash = one_is_spelled token.Number digits behind is
signed_is_spelled true digits behind is dash =
    let text : text_of (Piece token.Number digits ∷ []) ++ behind ≡ digits ++ behind = ap (λ (xs : List ℕ). xs ++ behind) (append-nil digits) in
    and_from (is_piece token.Mark 1 (lexeme_of (45 ∷ (text_of (Piece token.Number digits ∷ []) ++ behind)))) (is_spelled_before behind (Piece token.Number digits ∷ []))
    (ap (λ (xs : List ℕ). is_piece token.Mark 1 (lexeme_of (45 ∷ xs))) text ∙ dash)
    (one_is_spelled token.Number digits behind is)

whole_is_spelled : (minus : Bool) (n : ℕ) (behind : List ℕ) → may_follow behind ≡ true → is_spelled_before behind (signed_parts minus (decimal n)) ≡ true
whole_is_spelled minus n behind follows =
    signed_is_spelled minus (decimal n) behind (number_is_piece (decimal n) behind (decimal_some n) (decimal_is_digits n) follows) (minus_is_piece (decimal n) behind (decimal_some n) (decimal_is_digits n))

-- digits with places behind the point, or without a point
decimal_is_spelled : (minus : Bool) (n scale m : ℕ) (behind : List ℕ) → may_follow behind ≡ true → is_spelled_before behind (signed_parts minus (decimal n ++ places_text scale m)) ≡ true
decimal_is_spelled minus n scale m behind follows = by (scale == 0) where
  by : (none : Bool) → is_spelled_before behind (signed_parts minus (decimal n ++ cond none [] (46 ∷ digits_of scale m))) ≡ true
  by true = subst (λ (digits : List ℕ). is_spelled_before behind (signed_parts minus digits) ≡ true) (sym (append-nil (decimal n))) (whole_is_spelled minus n behind follows)
  by false =
      let places = digits_are_digits scale m in
      let text : (decimal n ++ 46 ∷ digits_of scale m) ++ behind ≡ decimal n ++ (46 ∷ (digits_of scale m ++ behind)) = append_assoc (decimal n) (46 ∷ digits_of scale m) behind in
      signed_is_spelled minus (decimal n ++ 46 ∷ digits_of scale m) behind
      (fraction_is_piece (decimal n) (digits_of scale m) behind (decimal_some n) (decimal_is_digits n) places follows)
      (ap (λ (xs : List ℕ). is_piece token.Mark 1 (lexeme_of (45 ∷ xs))) text ∙ minus_is_piece (decimal n) (46 ∷ (digits_of scale m ++ behind)) (decimal_some n) (decimal_is_digits n))

string_is_spelled : (bytes behind : List ℕ) → may_follow behind ≡ true → is_spelled_before behind (Piece token.Text (string_text bytes) ∷ []) ≡ true
string_is_spelled bytes behind follows = one_is_spelled token.Text (string_text bytes) behind (string_is_piece bytes behind (ends behind follows).quote)

plain_is_spelled : (text behind : List ℕ) → string_text text ≡ in_quotes text → may_follow behind ≡ true → is_spelled_before behind (text_part text ∷ []) ≡ true
plain_is_spelled text behind same follows = subst (λ (bytes : List ℕ). is_spelled_before behind (Piece token.Text bytes ∷ []) ≡ true) same (string_is_spelled text behind follows)

bytes_are_spelled : (binary : Bool) (bytes behind : List ℕ) → are_bytes bytes ≡ true → may_follow behind ≡ true → is_spelled_before behind (bytes_part binary bytes ∷ []) ≡ true
bytes_are_spelled false bytes behind are follows = string_is_spelled bytes behind follows
bytes_are_spelled true [] behind are follows = string_is_spelled [] behind follows
bytes_are_spelled true (b ∷ bytes) behind are follows =
    one_is_spelled token.Hex (48 ∷ 120 ∷ flat_map hex_pair (b ∷ bytes)) behind (hex_is_piece (flat_map hex_pair (b ∷ bytes)) behind (omega arith) (pairs_are_digits (b ∷ bytes) are) follows)

pub value_is_spelled : (k : Kind) (v : Value) (behind : List ℕ) → has_bytes v ≡ true → may_follow behind ≡ true → is_spelled_before behind (value_parts k v) ≡ true
value_is_spelled k value.Null behind bytes follows = word_is_spelled (codes "NULL") behind refl follows
value_is_spelled k (value.Int (pos n)) behind bytes follows = whole_is_spelled false n behind follows
value_is_spelled k (value.Int (negsuc n)) behind bytes follows = whole_is_spelled true (suc n) behind follows
value_is_spelled k (value.Dec d) behind bytes follows = decimal_is_spelled (int_lt d.digits (pos 0)) (unsigned_abs d.digits / 10 ^ d.scale) d.scale (unsigned_abs d.digits) behind follows
value_is_spelled k (value.Bytes xs) behind bytes follows = bytes_are_spelled (is_binary k) xs behind bytes follows
value_is_spelled k (value.Date d) behind bytes follows = plain_is_spelled (day_text d) behind (plain_string (day_text d) (day_plain d)) follows
value_is_spelled k (value.Moment m) behind bytes follows = plain_is_spelled (moment_text (fraction_digits k) m) behind (plain_string (moment_text (fraction_digits k) m) (moment_plain (fraction_digits k) m)) follows
value_is_spelled k (value.Stamp s) behind bytes follows = plain_is_spelled (stamp_text (fraction_digits k) s) behind (plain_string (stamp_text (fraction_digits k) s) (stamp_plain (fraction_digits k) s)) follows

values_are_spelled : (columns : List Column) (row : List Value) → list_all has_bytes row ≡ true → AreSpelled (all_value_parts columns row)
values_are_spelled [] row bytes = tt
values_are_spelled (c ∷ cs) [] bytes = tt
values_are_spelled (c ∷ cs) (v ∷ vs) bytes =
    let parts = and_parts (has_bytes v) (list_all has_bytes vs) bytes in
    (λ behind follows. value_is_spelled c.kind v behind parts.0 follows, values_are_spelled cs vs parts.1)

pub tuple_is_spelled : (columns : List Column) (row : List Value) (behind : List ℕ) → list_all has_bytes row ≡ true → is_spelled_before behind (tuple_parts columns row) ≡ true
tuple_is_spelled columns row behind bytes = bracketed_is_spelled (comma_parts (all_value_parts columns row)) behind (commas_are_spelled (all_value_parts columns row) (41 ∷ behind) (values_are_spelled columns row bytes) refl)

-- Kinds.

number_is_spelled : (n : ℕ) (behind : List ℕ) → may_follow behind ≡ true → is_spelled_before behind (number n ∷ []) ≡ true
number_is_spelled n behind follows = whole_is_spelled false n behind follows

in_brackets_is_spelled : (n : ℕ) (behind : List ℕ) → is_spelled_before behind (bracketed (number n ∷ [])) ≡ true
in_brackets_is_spelled n behind = bracketed_is_spelled (number n ∷ []) behind (number_is_spelled n (41 ∷ behind) refl)

two_numbers_are_spelled : (m n : ℕ) (behind : List ℕ) → is_spelled_before behind (bracketed (number m ∷ mark 44 ∷ number n ∷ [])) ≡ true
two_numbers_are_spelled m n behind =
    bracketed_is_spelled (number m ∷ mark 44 ∷ number n ∷ []) behind
    (both_are_spelled (number m ∷ []) (mark 44 ∷ number n ∷ []) (41 ∷ behind) (number_is_spelled m (44 ∷ (text_of (number n ∷ []) ++ 41 ∷ behind)) refl) (number_is_spelled n (41 ∷ behind) refl))

integer_is_word : (size : ℕ) → is_capital_word (integer_text size) ≡ true
integer_is_word size = by (size == 1) (size == 2) (size == 3) (size == 4) where
  by : (s t u v : Bool) → is_capital_word (cond s (codes "TINYINT") (cond t (codes "SMALLINT") (cond u (codes "MEDIUMINT") (cond v (codes "INT") (codes "BIGINT"))))) ≡ true
  by true t u v = refl
  by false true u v = refl
  by false false true v = refl
  by false false false true = refl
  by false false false false = refl

prefixed_is_word : (size : ℕ) (binary : Bool) → is_capital_word (prefix_text size ++ cond binary (codes "BLOB") (codes "TEXT")) ≡ true
prefixed_is_word size binary = by (size == 1) (size == 2) (size == 3) binary where
  by : (s t u binary : Bool) → is_capital_word (cond s (codes "TINY") (cond t [] (cond u (codes "MEDIUM") (codes "LONG"))) ++ cond binary (codes "BLOB") (codes "TEXT")) ≡ true
  by true t u true = refl
  by true t u false = refl
  by false true u true = refl
  by false true u false = refl
  by false false true true = refl
  by false false true false = refl
  by false false false true = refl
  by false false false false = refl

-- a word that a fraction's digits may stand behind
datetime_is_spelled : (digits : ℕ) (behind : List ℕ) → may_follow behind ≡ true → is_spelled_before behind (word (codes "DATETIME") ∷ fraction_parts digits) ≡ true
datetime_is_spelled digits behind follows = by (digits == 0) where
  by : (none : Bool) → is_spelled_before behind (word (codes "DATETIME") ∷ cond none [] (bracketed (number digits ∷ []))) ≡ true
  by true = word_is_spelled (codes "DATETIME") behind refl follows
  by false = in_brackets_is_spelled digits behind

timestamp_is_spelled : (digits : ℕ) (behind : List ℕ) → may_follow behind ≡ true → is_spelled_before behind (word (codes "TIMESTAMP") ∷ fraction_parts digits) ≡ true
timestamp_is_spelled digits behind follows = by (digits == 0) where
  by : (none : Bool) → is_spelled_before behind (word (codes "TIMESTAMP") ∷ cond none [] (bracketed (number digits ∷ []))) ≡ true
  by true = word_is_spelled (codes "TIMESTAMP") behind refl follows
  by false = in_brackets_is_spelled digits behind

now_is_spelled : (digits : ℕ) (behind : List ℕ) → may_follow behind ≡ true → is_spelled_before behind (word (codes "CURRENT_TIMESTAMP") ∷ fraction_parts digits) ≡ true
now_is_spelled digits behind follows = by (digits == 0) where
  by : (none : Bool) → is_spelled_before behind (word (codes "CURRENT_TIMESTAMP") ∷ cond none [] (bracketed (number digits ∷ []))) ≡ true
  by true = word_is_spelled (codes "CURRENT_TIMESTAMP") behind refl follows
  by false = in_brackets_is_spelled digits behind

pub kind_is_spelled : (k : Kind) (behind : List ℕ) → may_follow behind ≡ true → is_spelled_before behind (kind_parts k) ≡ true
kind_is_spelled (kind.Signed size) behind follows = word_is_spelled (integer_text size) behind (integer_is_word size) follows
kind_is_spelled (kind.Unsigned size) behind follows =
    both_are_spelled (word (integer_text size) ∷ []) (Blank 32 ∷ word (codes "UNSIGNED") ∷ []) behind (word_is_spelled (integer_text size) (codes " UNSIGNED" ++ behind) (integer_is_word size) refl) (word_is_spelled (codes "UNSIGNED") behind refl follows)
kind_is_spelled (kind.Decimal precision scale) behind follows = two_numbers_are_spelled precision scale behind
kind_is_spelled (kind.Char most) behind follows = in_brackets_is_spelled most behind
kind_is_spelled (kind.Varchar most) behind follows = in_brackets_is_spelled most behind
kind_is_spelled (kind.Text prefix) behind follows = word_is_spelled (prefix_text prefix ++ codes "TEXT") behind (prefixed_is_word prefix false) follows
kind_is_spelled (kind.Binary size) behind follows = in_brackets_is_spelled size behind
kind_is_spelled (kind.Varbinary most) behind follows = in_brackets_is_spelled most behind
kind_is_spelled (kind.Blob prefix) behind follows = word_is_spelled (prefix_text prefix ++ codes "BLOB") behind (prefixed_is_word prefix true) follows
kind_is_spelled kind.Date behind follows = word_is_spelled (codes "DATE") behind refl follows
kind_is_spelled kind.Year behind follows = word_is_spelled (codes "YEAR") behind refl follows
kind_is_spelled (kind.Datetime digits) behind follows = datetime_is_spelled digits behind follows
kind_is_spelled (kind.Timestamp digits) behind follows = timestamp_is_spelled digits behind follows

-- Columns.

nullable_is_spelled : (nullable : Bool) (behind : List ℕ) → may_follow behind ≡ true → is_spelled_before behind (nullable_parts nullable) ≡ true
nullable_is_spelled true behind follows = word_is_spelled (codes "NULL") behind refl follows
nullable_is_spelled false behind follows = word_is_spelled (codes "NULL") behind refl follows

default_is_spelled : (k : Kind) (rule : DefaultRule) (behind : List ℕ) → ((v : Value) → rule ≡ default.Const v → has_bytes v ≡ true) → may_follow behind ≡ true → is_spelled_before behind (default_parts k rule) ≡ true
default_is_spelled k default.Nothing behind bytes follows = refl
default_is_spelled k (default.Const v) behind bytes follows = value_is_spelled k v behind (bytes v refl) follows
default_is_spelled k default.Now behind bytes follows = now_is_spelled (fraction_digits k) behind follows

default_follows : (k : Kind) (rule : DefaultRule) (behind : List ℕ) → may_follow behind ≡ true → may_follow (text_of (default_parts k rule) ++ behind) ≡ true
default_follows k default.Nothing behind follows = follows
default_follows k (default.Const v) behind follows = refl
default_follows k default.Now behind follows = refl

nullable_follows : (nullable : Bool) (rest : List Part) (behind : List ℕ) → may_follow (text_of (nullable_parts nullable ++ rest) ++ behind) ≡ true
nullable_follows true rest behind = refl
nullable_follows false rest behind = refl

constant_has_bytes : (c : Column) → default_has_bytes c ≡ true → (v : Value) → c.default_rule ≡ default.Const v → has_bytes v ≡ true
constant_has_bytes c bytes v is = by c.default_rule is bytes where
  by : (rule : DefaultRule) → rule ≡ default.Const v → default_has_bytes (record { name = c.name; kind = c.kind; nullable = c.nullable; default_rule = rule }) ≡ true → has_bytes v ≡ true
  by default.Nothing is bytes = absurd cc
  by (default.Const w) is bytes = cc
  by default.Now is bytes = absurd cc

pub column_is_spelled : (c : Column) (behind : List ℕ) → default_has_bytes c ≡ true → may_follow behind ≡ true → is_spelled_before behind (column_parts c) ≡ true
column_is_spelled c behind bytes follows =
    let rest : List Part = nullable_parts c.nullable ++ default_parts c.kind c.default_rule in
    let ending : is_spelled_before behind rest ≡ true =
    both_are_spelled (nullable_parts c.nullable) (default_parts c.kind c.default_rule) behind
    (nullable_is_spelled c.nullable (text_of (default_parts c.kind c.default_rule) ++ behind) (default_follows c.kind c.default_rule behind follows))
    (default_is_spelled c.kind c.default_rule behind (constant_has_bytes c bytes) follows) in
    name_before c.name (Blank 32 ∷ (kind_parts c.kind ++ rest)) behind refl
    (both_are_spelled (kind_parts c.kind) rest behind (kind_is_spelled c.kind (text_of rest ++ behind) (nullable_follows c.nullable (default_parts c.kind c.default_rule) behind)) ending)

column_item_is_spelled : (c : Column) (behind : List ℕ) → default_has_bytes c ≡ true → is_spelled_before behind (column_item c) ≡ true
column_item_is_spelled c behind bytes = both_are_spelled (column_parts c) (mark 44 ∷ Blank 32 ∷ []) behind (column_is_spelled c (44 ∷ 32 ∷ behind) bytes refl) refl

columns_are_spelled : (columns : List Column) (behind : List ℕ) → list_all default_has_bytes columns ≡ true → is_spelled_before behind (flat_map column_item columns) ≡ true
columns_are_spelled [] behind bytes = refl
columns_are_spelled (c ∷ cs) behind bytes =
    let parts = and_parts (default_has_bytes c) (list_all default_has_bytes cs) bytes in
    both_are_spelled (column_item c) (flat_map column_item cs) behind (column_item_is_spelled c (text_of (flat_map column_item cs) ++ behind) parts.0) (columns_are_spelled cs behind parts.1)

-- Tables.

primary_is_spelled : (names : List (List ℕ)) (behind : List ℕ) → is_spelled_before behind (primary_parts names) ≡ true
primary_is_spelled names behind = name_list_is_spelled names behind

unique_is_spelled : (k : UniqueKey) (behind : List ℕ) → is_spelled_before behind (unique_item k) ≡ true
unique_is_spelled k behind = name_before k.name (Blank 32 ∷ name_list_parts k.columns) behind refl (name_list_is_spelled k.columns behind)

pub layout_is_spelled : (layout : Layout) (behind : List ℕ) → list_all default_has_bytes layout.columns ≡ true → is_spelled_before behind (layout_parts layout) ≡ true
layout_is_spelled layout behind bytes =
    let keys : List Part = primary_parts layout.primary ++ flat_map unique_item layout.uniques in
    both_are_spelled (flat_map column_item layout.columns) keys behind (columns_are_spelled layout.columns (text_of keys ++ behind) bytes)
    (both_are_spelled (primary_parts layout.primary) (flat_map unique_item layout.uniques) behind (primary_is_spelled layout.primary (text_of (flat_map unique_item layout.uniques) ++ behind)) (all_are_spelled unique_item unique_is_spelled layout.uniques behind))

-- of a table whose name is spelled before a blank
pub create_is_spelled : (name : List Part) (layout : Layout) (behind : List ℕ) → ((more : List ℕ) → is_spelled_before (32 ∷ more) name ≡ true) → list_all default_has_bytes layout.columns ≡ true
    → is_spelled_before behind (create_parts name layout) ≡ true
create_is_spelled name layout behind named bytes =
    let tail : List Part = mark 41 ∷ mark 59 ∷ Blank 10 ∷ [] in
    let inner : List Part = layout_parts layout ++ tail in
    both_are_spelled name (Blank 32 ∷ mark 40 ∷ inner) behind (named (40 ∷ (text_of inner ++ behind)))
    (both_are_spelled (layout_parts layout) tail behind (layout_is_spelled layout (text_of tail ++ behind) bytes) refl)
