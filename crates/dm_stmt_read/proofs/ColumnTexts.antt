-- Names, columns, keys and tables are read as they were written.
use Rattle.std.proofs.Common.{◌≡◌, ℕ, ◌/◌, ◌^◌, ◌≤◌, pos, negsuc, int_lt, unsigned_abs, Bool, true, false, not, ◌&&◌, ◌||◌, ◌⊎◌, inl, inr, take, nat_eq, cond, List, [], ◌∷◌, ◌++◌, map, length, codes, Option, Some, None, is_none, refl, sym, ap, ◌∙◌, subst, append_assoc, arith, eqb, leb, eqb-true, leb-true, le-ltb, ◌==◌}
use Rattle.std.specs.List.{flat_map, list_all, starts_with}
use Rattle.std.specs.Cmp.Lexicographic.{pointwise}
use Rattle.std.specs.Fmt.{decimal}
use Rattle.std.proofs.lemmas.Bool.{and_parts, or_cases}
use Rattle.dm_value.specs.declared.value.Value.{Value}
use Rattle.dm_value.specs.declared.value.Value.TheVariants as variant
use Rattle.dm_schema.specs.declared.column.Kind.{Kind}
use Rattle.dm_schema.specs.declared.column.Kind.TheVariants as kind
use Rattle.dm_schema.specs.declared.column.Column.{Column}
use Rattle.dm_schema.specs.declared.column.UniqueKey.{UniqueKey}
use Rattle.dm_schema.specs.declared.column.DefaultRule.{DefaultRule}
use Rattle.dm_schema.specs.declared.column.DefaultRule.TheVariants as default
use Rattle.dm_schema.specs.declared.table_name.TableName.{TableName}
use Rattle.dm_schema.specs.Fits.{fits_by}
use Rattle.dm_schema.specs.Kinds.{is_kind, is_rule, is_folded, is_column, is_key}
use Rattle.dm_schema.specs.Layout.{Layout}
use Rattle.dm_schema.specs.Schemas.{is_formed, is_unfit_default, refusals}
use Rattle.dm_list.specs.Answer.{first_refusal}
use Rattle.dm_text.specs.Names.{quoted, behind_comma, name_list, table_name_text}
use Rattle.dm_text.specs.Kinds.{kind_text, fraction_digits, fraction_text, is_binary}
use Rattle.dm_text.specs.Values.{value_text, places_text, bytes_text}
use Rattle.dm_text.specs.Columns.{nullable_text, default_text, column_text, column_part, unique_part}
use Rattle.dm_lex.specs.Lexemes.{starts, is_digit}
use Rattle.dm_reread.specs.Parts.{may_follow, has_bytes, default_has_bytes}
use Rattle.dm_reread.proofs.Digits.{decimal_is_digits, decimal_some}
use Rattle.dm_stmt_read.specs.Reading.{has_length, is_typed_column}
use Rattle.dm_stmt_read.specs.Readers.{accept, next_name, names, table_name}
use Rattle.dm_stmt_read.specs.Columns.{read_kind, nullable, written_default, default_rule, column, unique_key, column_item, next_column, next_unique, layout_of}
use Rattle.dm_stmt_read.proofs.Taking.{takes_word, passes_word, Takes, takes_further, mapped}
use Rattle.dm_stmt_read.proofs.Tokens.{takes_name, takes_value}
use Rattle.dm_stmt_read.proofs.KindTexts.{takes_fraction, takes_kind}

-- Lists of names.

all_pass : {A : Type 0} (xs : List A) → list_all (λ _. true) xs ≡ true
all_pass [] = refl
all_pass (x ∷ xs) = all_pass xs

abbrev NoName : List ℕ → Type 0
NoName left = starts 96 left ≡ false

takes_next_name : (own behind : List ℕ) → NoName behind → next_name (44 ∷ (quoted own ++ behind)) ≡ Some (Some own, behind)
unfolding next_name
takes_next_name own behind ends = rw (takes_word (codes ",") (quoted own ++ behind), takes_name own behind ends) refl

no_name : (behind : List ℕ) → next_name (41 ∷ behind) ≡ Some (None, 41 ∷ behind)
unfolding next_name
no_name behind = rw (passes_word (codes ",") (41 ∷ behind) refl) refl

names_taken : (behind : List ℕ) → Takes next_name (λ own. 44 ∷ quoted own) (λ _. true) NoName (41 ∷ behind) (41 ∷ behind)
names_taken behind = record { ends = no_name behind; end_follows = refl; piece_follows = λ own rest. refl; some = λ own. omega arith; takes = λ own rest is follows. takes_next_name own rest follows }

-- at least one name, in brackets
pub takes_names : (own : List (List ℕ)) (behind : List ℕ) → not (length own == 0) ≡ true → names (name_list own ++ behind) ≡ Some (own, behind)
unfolding names
takes_names [] behind some = absurd cc
takes_names (first ∷ own) behind some =
    let rest : List ℕ = flat_map (λ n. 44 ∷ quoted n) own in
    let shape : ((quoted first ++ flat_map behind_comma (map quoted own)) ++ 41 ∷ []) ++ behind ≡ quoted first ++ (rest ++ 41 ∷ behind) =
    append_assoc (quoted first ++ flat_map behind_comma (map quoted own)) (41 ∷ []) behind
    ∙ append_assoc (quoted first) (flat_map behind_comma (map quoted own)) (41 ∷ behind)
    ∙ ap (λ xs. quoted first ++ (xs ++ 41 ∷ behind)) (mapped behind_comma quoted own) in
    let ends : starts 96 (rest ++ 41 ∷ behind) ≡ false = no_quote own in
    ap (λ xs. names (40 ∷ xs)) shape
    ∙ (rw (
      takes_word (codes "(") (quoted first ++ (rest ++ 41 ∷ behind)),
      takes_name first (rest ++ 41 ∷ behind) ends,
      takes_further next_name (λ n. 44 ∷ quoted n) (λ _. true) NoName (41 ∷ behind) (41 ∷ behind) (names_taken behind) (omega arith) (first ∷ []) own (all_pass own),
      takes_word (codes ")") behind,
    ) refl) where
      no_quote : (own : List (List ℕ)) → starts 96 (flat_map (λ n. 44 ∷ quoted n) own ++ 41 ∷ behind) ≡ false
      no_quote [] = refl
      no_quote (n ∷ own) = refl

pub takes_table_name : (t : TableName) (behind : List ℕ) → starts 96 behind ≡ false → table_name (table_name_text t ++ behind) ≡ Some (t, behind)
unfolding table_name
takes_table_name t behind ends =
    ap table_name (append_assoc (quoted t.db) (46 ∷ quoted t.table) behind)
    ∙ (rw (takes_name t.db (46 ∷ (quoted t.table ++ behind)) refl, takes_word (codes ".") (quoted t.table ++ behind), takes_name t.table behind ends) refl)

-- Defaults.

fraction_few : (k : Kind) → is_kind k ≡ true → fraction_digits k ≤ 6
fraction_few (kind.Signed size) is = omega arith
fraction_few (kind.Unsigned size) is = omega arith
fraction_few (kind.Decimal precision scale) is = omega arith
fraction_few (kind.Char most) is = omega arith
fraction_few (kind.Varchar most) is = omega arith
fraction_few (kind.Text prefix) is = omega arith
fraction_few (kind.Binary size) is = omega arith
fraction_few (kind.Varbinary most) is = omega arith
fraction_few (kind.Blob prefix) is = omega arith
fraction_few kind.Date is = omega arith
fraction_few kind.Year is = omega arith
fraction_few (kind.Datetime digits) is = leb-true digits 6 is
fraction_few (kind.Timestamp digits) is = leb-true digits 6 is

abbrev IsNoClock : List ℕ → Type 0
IsNoClock left = starts_with nat_eq left (codes "CURRENT_TIMESTAMP") ≡ false

digits_no_clock : (digits behind : List ℕ) → 1 ≤ length digits → list_all is_digit digits ≡ true → IsNoClock (digits ++ behind)
digits_no_clock [] behind some all = absurd (omega (arith, some))
digits_no_clock (d ∷ digits) behind some all = by (eqb 67 d) (pointwise nat_eq (codes "URRENT_TIMESTAMP") (take 16 (digits ++ behind))) refl where
  by : (same rest : Bool) → eqb 67 d ≡ same → (same && rest) ≡ false
  by true rest e = absurd (let h : is_digit 67 ≡ true = subst (λ m. is_digit m ≡ true) (sym (eqb-true 67 d e)) (and_parts (is_digit d) (list_all is_digit digits) all).0 in cc)
  by false rest e = refl

number_no_clock : (n : ℕ) (behind : List ℕ) → IsNoClock (decimal n ++ behind)
number_no_clock n behind = digits_no_clock (decimal n) behind (decimal_some n) (decimal_is_digits n)

value_no_clock : (k : Kind) (v : Value) (behind : List ℕ) → IsNoClock (value_text k v ++ behind)
value_no_clock k variant.Null behind = refl
value_no_clock k (variant.Int (pos n)) behind = number_no_clock n behind
value_no_clock k (variant.Int (negsuc n)) behind = refl
value_no_clock k (variant.Dec d) behind = by (int_lt d.digits (pos 0)) where
  by : (minus : Bool) → IsNoClock (((cond minus (45 ∷ []) [] ++ decimal (unsigned_abs d.digits / 10 ^ d.scale)) ++ places_text d.scale (unsigned_abs d.digits)) ++ behind)
  by true = refl
  by false =
      subst IsNoClock (sym (append_assoc (decimal (unsigned_abs d.digits / 10 ^ d.scale)) (places_text d.scale (unsigned_abs d.digits)) behind))
      (number_no_clock (unsigned_abs d.digits / 10 ^ d.scale) (places_text d.scale (unsigned_abs d.digits) ++ behind))
value_no_clock k (variant.Bytes bytes) behind = by (is_binary k) bytes where
  by : (binary : Bool) (bytes : List ℕ) → IsNoClock (bytes_text binary bytes ++ behind)
  by false bytes = refl
  by true [] = refl
  by true (b ∷ bytes) = refl
value_no_clock k (variant.Date d) behind = refl
value_no_clock k (variant.Moment m) behind = refl
value_no_clock k (variant.Stamp s) behind = refl

-- what may stand behind a column
pub record EndsColumn (left : List ℕ) : Type 0 where
  pub follows : may_follow left ≡ true
  pub no_bracket : starts_with nat_eq left (codes "(") ≡ false
  pub no_default : starts_with nat_eq left (codes " DEFAULT ") ≡ false

abbrev pub ends_column : List ℕ → Bool
ends_column [] = false
ends_column (b ∷ left) = b == 44 || b == 59

pub column_ends : (left : List ℕ) → ends_column left ≡ true → EndsColumn left
column_ends [] ends = absurd cc
column_ends (b ∷ left) ends = by (or_cases (b == 44) (b == 59) ends) where
  by : ((b == 44) ≡ true) ⊎ ((b == 59) ≡ true) → EndsColumn (b ∷ left)
  by (inl e) = subst (λ m. EndsColumn (m ∷ left)) (sym (eqb-true b 44 e)) (record { follows = refl; no_bracket = refl; no_default = refl })
  by (inr e) = subst (λ m. EndsColumn (m ∷ left)) (sym (eqb-true b 59 e)) (record { follows = refl; no_bracket = refl; no_default = refl })

takes_constant : (k : Kind) (nulls : Bool) (v : Value) (behind : List ℕ) → is_kind k ≡ true → fits_by k nulls v ≡ true → has_bytes v ≡ true → EndsColumn behind → written_default k (value_text k v ++ behind) ≡ Some (default.Const v, behind)
unfolding written_default
takes_constant k nulls v behind is fits bytes ends =
    rw (passes_word (codes "CURRENT_TIMESTAMP") (value_text k v ++ behind) (value_no_clock k v behind), takes_value k nulls v behind is fits bytes ends.follows) refl

-- a default that fits, of bytes
abbrev IsGoodRule : Kind → Bool → DefaultRule → Type 0
IsGoodRule k nulls default.Nothing = Unit {0}
IsGoodRule k nulls (default.Const v) = (fits_by k nulls v ≡ true) × (has_bytes v ≡ true)
IsGoodRule k nulls default.Now = Unit {0}

takes_default : (k : Kind) (nulls : Bool) (rule : DefaultRule) (behind : List ℕ) → is_kind k ≡ true → IsGoodRule k nulls rule → EndsColumn behind → default_rule k (default_text k rule ++ behind) ≡ Some (rule, behind)
unfolding default_rule written_default
takes_default k nulls default.Nothing behind is good ends = rw (passes_word (codes " DEFAULT ") behind ends.no_default) refl
takes_default k nulls (default.Const v) behind is good ends =
    rw (takes_word (codes " DEFAULT ") (value_text k v ++ behind), takes_constant k nulls v behind is good.0 good.1 ends) refl
takes_default k nulls default.Now behind is good ends =
    rw (
      takes_word (codes " DEFAULT ") (codes "CURRENT_TIMESTAMP" ++ (fraction_text (fraction_digits k) ++ behind)),
      takes_word (codes "CURRENT_TIMESTAMP") (fraction_text (fraction_digits k) ++ behind),
      takes_fraction (fraction_digits k) behind (fraction_few k is) ends.no_bracket,
    ) refl

-- Columns.

takes_nullable : (nulls : Bool) (behind : List ℕ) → nullable (nullable_text nulls ++ behind) ≡ Some (nulls, behind)
unfolding nullable accept
takes_nullable true behind = refl
takes_nullable false behind = refl

kind_before : (k : Kind) (nulls : Bool) (behind : List ℕ) → is_kind k ≡ true → has_length k ≡ true → read_kind (kind_text k ++ (nullable_text nulls ++ behind)) ≡ Some (k, nullable_text nulls ++ behind)
kind_before k true behind is fits = takes_kind k (codes "ULL" ++ behind) is fits
kind_before k false behind is fits = takes_kind k (codes "OT NULL" ++ behind) is fits

good_rule : (c : Column) → not (is_unfit_default c) ≡ true → default_has_bytes c ≡ true → IsGoodRule c.kind c.nullable c.default_rule
good_rule c fits bytes = by c.default_rule fits bytes where
  by : (rule : DefaultRule) → not (is_unfit_default (record c { default_rule = rule })) ≡ true → default_has_bytes (record c { default_rule = rule }) ≡ true → IsGoodRule c.kind c.nullable rule
  by default.Nothing fits bytes = tt
  by (default.Const v) fits bytes = (double (fits_by c.kind c.nullable v) fits, bytes) where
    double : (b : Bool) → not (not b) ≡ true → b ≡ true
    double true h = refl
    double false h = h
  by default.Now fits bytes = tt

-- a column that is read as it was written
abbrev pub is_good : Column → Bool
is_good c = is_column c && not (is_unfit_default c) && is_typed_column c

four_texts : (a b c d e : List ℕ) → (((a ++ b) ++ c) ++ d) ++ e ≡ a ++ (b ++ (c ++ (d ++ e)))
four_texts a b c d e = append_assoc ((a ++ b) ++ c) d e ∙ append_assoc (a ++ b) c (d ++ e) ∙ append_assoc a b (c ++ (d ++ e))

pub takes_column : (c : Column) (behind : List ℕ) → is_good c ≡ true → EndsColumn behind → column (column_text c ++ behind) ≡ Some (c, behind)
unfolding column
takes_column c behind good ends =
    let last = and_parts (is_column c && not (is_unfit_default c)) (is_typed_column c) good in
    let first = and_parts (is_column c) (not (is_unfit_default c)) last.0 in
    let parts = and_parts (is_folded c.name && is_kind c.kind) (is_rule c.default_rule) first.0 in
    let is = (and_parts (is_folded c.name) (is_kind c.kind) parts.0).1 in
    let typed = and_parts (has_length c.kind) (default_has_bytes c) last.1 in
    let rule = good_rule c first.1 typed.1 in
    let tail : List ℕ = default_text c.kind c.default_rule ++ behind in
    ap column (four_texts (quoted c.name) (32 ∷ kind_text c.kind) (nullable_text c.nullable) (default_text c.kind c.default_rule) behind)
    ∙ (rw (
      takes_name c.name (32 ∷ (kind_text c.kind ++ (nullable_text c.nullable ++ tail))) refl,
      takes_word (codes " ") (kind_text c.kind ++ (nullable_text c.nullable ++ tail)),
      kind_before c.kind c.nullable tail is typed.0,
      takes_nullable c.nullable tail,
      takes_default c.kind c.nullable c.default_rule behind is rule ends,
    ) refl)

-- Keys.

pub takes_unique : (key : UniqueKey) (behind : List ℕ) → is_key key ≡ true → unique_key (quoted key.name ++ (32 ∷ (name_list key.columns ++ behind))) ≡ Some (key, behind)
unfolding unique_key
takes_unique key behind is =
    let some = (and_parts (is_folded key.name) (not (length key.columns == 0)) is).1 in
    rw (takes_name key.name (32 ∷ (name_list key.columns ++ behind)) refl, takes_word (codes " ") (name_list key.columns ++ behind), takes_names key.columns behind some) refl

-- Tables.

abbrev pub Always : List ℕ → Type 0
Always left = Unit {0}

takes_next_column : (c : Column) (behind : List ℕ) → is_good c ≡ true → next_column (column_part c ++ behind) ≡ Some (Some c, behind)
unfolding next_column column_item
takes_next_column c behind good =
    let shape : column_part c ++ behind ≡ column_text c ++ (44 ∷ 32 ∷ behind) = append_assoc (column_text c) (codes ", ") behind in
    ap next_column shape
    ∙ (rw (passes_word (codes "PRIMARY KEY ") (column_text c ++ (44 ∷ 32 ∷ behind)) refl, takes_column c (44 ∷ 32 ∷ behind) good (column_ends (44 ∷ 32 ∷ behind) refl), takes_word (codes ", ") behind) refl)

no_column : (behind : List ℕ) → next_column (codes "PRIMARY KEY " ++ behind) ≡ Some (None, behind)
unfolding next_column
no_column behind = rw (takes_word (codes "PRIMARY KEY ") behind) refl

part_some : (c : Column) → 1 ≤ length (column_part c)
part_some c = omega arith

pub columns_taken : (behind : List ℕ) → Takes next_column column_part is_good Always (codes "PRIMARY KEY " ++ behind) behind
columns_taken behind = record { ends = no_column behind; end_follows = tt; piece_follows = λ c rest. tt; some = part_some; takes = λ c rest good follows. takes_next_column c rest good }

takes_next_unique : (key : UniqueKey) (behind : List ℕ) → is_key key ≡ true → next_unique (unique_part key ++ behind) ≡ Some (Some key, behind)
unfolding next_unique
takes_next_unique key behind is =
    let inner : (quoted key.name ++ 32 ∷ name_list key.columns) ++ behind ≡ quoted key.name ++ (32 ∷ (name_list key.columns ++ behind)) = append_assoc (quoted key.name) (32 ∷ name_list key.columns) behind in
    ap (λ xs. next_unique (codes ", UNIQUE KEY " ++ xs)) inner
    ∙ (rw (takes_word (codes ", UNIQUE KEY ") (quoted key.name ++ (32 ∷ (name_list key.columns ++ behind))), takes_unique key behind is) refl)

no_unique : (behind : List ℕ) → next_unique (codes ");\n" ++ behind) ≡ Some (None, codes ");\n" ++ behind)
unfolding next_unique
no_unique behind = rw (passes_word (codes ", UNIQUE KEY ") (codes ");\n" ++ behind) refl) refl

pub uniques_taken : (behind : List ℕ) → Takes next_unique unique_part is_key Always (codes ");\n" ++ behind) (codes ");\n" ++ behind)
uniques_taken behind = record { ends = no_unique behind; end_follows = tt; piece_follows = λ key rest. tt; some = λ key. omega arith; takes = λ key rest is follows. takes_next_unique key rest is }

none_is : {A : Type 0} (o : Option A) → is_none o ≡ true → o ≡ None
none_is None h = refl
none_is (Some x) h = absurd cc

pub formed_is_joined : (layout : Layout) → is_formed layout ≡ true → layout_of layout.columns layout.primary layout.uniques ≡ Some layout
unfolding layout_of
formed_is_joined layout formed =
    let last = and_parts (list_all is_column layout.columns && list_all is_key layout.uniques && leb (length layout.uniques) 16) (is_none (first_refusal (refusals layout.columns layout.primary layout.uniques))) formed in
    let parts = and_parts (list_all is_column layout.columns && list_all is_key layout.uniques) (leb (length layout.uniques) 16) last.0 in
    let few = le-ltb 16 (length layout.uniques) (leb-true (length layout.uniques) 16 parts.1) in
    let none = none_is (first_refusal (refusals layout.columns layout.primary layout.uniques)) last.1 in
    rw (parts.0, few, none) refl
