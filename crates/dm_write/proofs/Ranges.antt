-- No number of a written definition is out of range.
use Rattle.std.proofs.Common.{◌≡◌, ◌==◌, ◌||◌, ◌<◌, ℕ, Bool, true, false, not, cond, leb, List, [], ◌∷◌, ◌++◌, map, refl, sym, ap, ◌∙◌, subst, arith}
use Rattle.std.specs.List.{list_any, flat_map}
use Rattle.std.proofs.lemmas.Bool.{and_parts, eqb-true, leb-true}
use Rattle.std.proofs.lemmas.List.{map-append}
use Rattle.dm_schema.specs.declared.column.Kind.{Kind}
use Rattle.dm_schema.specs.declared.column.Kind.TheVariants as kind
use Rattle.dm_schema.specs.declared.column.Column.{Column}
use Rattle.dm_schema.specs.declared.column.UniqueKey.{UniqueKey}
use Rattle.dm_schema.specs.declared.column.DefaultRule.{DefaultRule}
use Rattle.dm_schema.specs.declared.column.DefaultRule.TheVariants as default
use Rattle.dm_schema.specs.Kinds.{is_between, is_kind}
use Rattle.dm_text.specs.Kinds.{fraction_digits}
use Rattle.dm_syntax.specs.declared.role.TheConstants as role
use Rattle.dm_ddl.specs.Bounds.{is_in_range}
use Rattle.dm_reread.specs.Parts.{Spelling, spelled, value_parts}
use Rattle.dm_write.specs.Lengths.{has_length}
use Rattle.dm_write.proofs.Splitting.{any_both}
use Rattle.dm_write.proofs.Signs as sign
use Rattle.dm_write.proofs.Signs.{Sign}
use Rattle.dm_write.proofs.Seen.{Seen, shown, number_seen, number}
use Rattle.dm_write.proofs.Meaning.{excess, has_excess}
use Rattle.dm_write.proofs.ColumnItems.{all_shown, only, small_number, head_of, column_parts, IsWritten}
use Rattle.dm_write.proofs.KeyItems.{is_filler, names_before, primary_item, unique_item}

abbrev AreIn : ℕ → List Sign → Type 0
AreIn precision signs = list_any (excess precision) (all_shown signs) ≡ false

both_in : (precision : ℕ) (xs ys : List Sign) → AreIn precision xs → AreIn precision ys → AreIn precision (xs ++ ys)
both_in precision xs ys p q = ap (list_any (excess precision)) (map-append shown xs ys) ∙ any_both (excess precision) (all_shown xs) (all_shown ys) ∙ (λ i. p i || q i)

-- a number within its range
in_range : (precision n its_role : ℕ) → n < 65536 → is_in_range precision its_role n ≡ true → excess precision (shown (sign.number n its_role)) ≡ false
in_range precision n its_role small h = ap (λ m. not (is_in_range precision its_role m)) (small_number n its_role small) ∙ ap not h

at_most : (n most : ℕ) → leb n most ≡ true → most < 65536 → n < 65536
at_most n most h small = let le = leb-true n most h in omega (arith, le, small)

bracketed : (precision n its_role : ℕ) → n < 65536 → is_in_range precision its_role n ≡ true → AreIn precision (sign.in_brackets n its_role)
bracketed precision n its_role small h = ap (λ b. b || false) (in_range precision n its_role small h)

fraction : (precision digits its_role : ℕ) → leb digits 6 ≡ true → is_in_range precision its_role digits ≡ true → AreIn precision (sign.fraction_signs its_role digits)
fraction precision digits its_role h r = by (digits == 0) where
  by : (b : Bool) → AreIn precision (cond b [] (sign.in_brackets digits its_role))
  by true = refl
  by false = bracketed precision digits its_role (at_most digits 6 h (omega arith)) r

-- the precision that a kind has, or that of one without
abbrev precision_of : Kind → ℕ → ℕ
precision_of (kind.Decimal precision scale) other = precision
precision_of _ other = other

kind_in_range : (k : Kind) (other : ℕ) → is_kind k ≡ true → has_length k ≡ true → AreIn (precision_of k other) (sign.kind_signs k)
kind_in_range (kind.Signed size) other h l = refl
kind_in_range (kind.Unsigned size) other h l = refl
kind_in_range (kind.Decimal precision scale) other h l =
    let range = and_parts (is_between 1 38 precision) (leb scale precision) h in
    let most = and_parts (leb 1 precision) (leb precision 38) range.0 in
    let small = at_most precision 38 most.1 (omega arith) in
    let below = leb-true scale precision range.1 in
    let tiny : scale < 65536 = omega (arith, below, small) in
    λ i. in_range precision precision role.PRECISION small range.0 i || (in_range precision scale role.SCALE tiny range.1 i || false)
kind_in_range (kind.Char most) other h l = bracketed other most role.CHAR_LENGTH (at_most most 255 h (omega arith)) h
kind_in_range (kind.Varchar most) other h l = bracketed other most role.STRING_LENGTH (at_most most 65535 l (omega arith)) l
kind_in_range (kind.Text prefix) other h l = refl
kind_in_range (kind.Binary size) other h l = bracketed other size role.CHAR_LENGTH (at_most size 255 h (omega arith)) h
kind_in_range (kind.Varbinary most) other h l = bracketed other most role.STRING_LENGTH (at_most most 65535 l (omega arith)) l
kind_in_range (kind.Blob prefix) other h l = refl
kind_in_range kind.Date other h l = refl
kind_in_range kind.Year other h l = refl
kind_in_range (kind.Datetime digits) other h l = fraction other digits role.FRACTION h h
kind_in_range (kind.Timestamp digits) other h l = fraction other digits role.FRACTION h h

fill_in : (precision : ℕ) (ss : List Spelling) → AreIn precision (map (λ z. let s : Sign = record { spelling = z; role = role.FILLER } in s) ss)
fill_in precision [] = refl
fill_in precision (s ∷ ss) = fill_in precision ss

value_in : (precision : ℕ) (ss : List Spelling) → AreIn precision (sign.value_signs ss)
value_in precision [] = refl
value_in precision (s ∷ []) = refl
value_in precision (m ∷ s ∷ ss) = fill_in precision ss

digits_small : (k : Kind) → is_kind k ≡ true → leb (fraction_digits k) 6 ≡ true
digits_small (kind.Signed size) h = refl
digits_small (kind.Unsigned size) h = refl
digits_small (kind.Decimal precision scale) h = refl
digits_small (kind.Char most) h = refl
digits_small (kind.Varchar most) h = refl
digits_small (kind.Text prefix) h = refl
digits_small (kind.Binary size) h = refl
digits_small (kind.Varbinary most) h = refl
digits_small (kind.Blob prefix) h = refl
digits_small kind.Date h = refl
digits_small kind.Year h = refl
digits_small (kind.Datetime digits) h = h
digits_small (kind.Timestamp digits) h = h

default_in_range : (precision : ℕ) (k : Kind) (r : DefaultRule) → is_kind k ≡ true → AreIn precision (sign.default_signs k r)
default_in_range precision k default.Nothing h = refl
default_in_range precision k (default.Const v) h = value_in precision (spelled (value_parts k v))
default_in_range precision k default.Now h = fraction precision (fraction_digits k) role.NOW_FRACTION (digits_small k h) (digits_small k h)

null_in_range : (precision : ℕ) (nullable : Bool) → AreIn precision (sign.nullable_signs nullable)
null_in_range precision true = refl
null_in_range precision false = refl

abbrev PrecisionIs : Sign → List ℕ → List Seen → Kind → Type 0
PrecisionIs d name xs k = precision_of k (number role.PRECISION 10 (head_of d name (all_shown (sign.kind_signs k) ++ xs))) ≡ number role.PRECISION 10 (head_of d name (all_shown (sign.kind_signs k) ++ xs))

precision_is : (d : Sign) (name : List ℕ) (xs : List Seen) (k : Kind) → is_kind k ≡ true → PrecisionIs d name xs k
precision_is d name xs (kind.Signed size) h = refl
precision_is d name xs (kind.Unsigned size) h = refl
precision_is d name xs (kind.Decimal precision scale) h =
    let range = and_parts (is_between 1 38 precision) (leb scale precision) h in
    let most = and_parts (leb 1 precision) (leb precision 38) range.0 in
    sym (small_number precision role.PRECISION (at_most precision 38 most.1 (omega arith)))
precision_is d name xs (kind.Char most) h = refl
precision_is d name xs (kind.Varchar most) h = refl
precision_is d name xs (kind.Text prefix) h = refl
precision_is d name xs (kind.Binary size) h = refl
precision_is d name xs (kind.Varbinary most) h = refl
precision_is d name xs (kind.Blob prefix) h = refl
precision_is d name xs kind.Date h = refl
precision_is d name xs kind.Year h = refl
precision_is d name xs (kind.Datetime digits) h = refl
precision_is d name xs (kind.Timestamp digits) h = refl

pub column_in_range : (d : Sign) (c : Column) → IsWritten c → has_excess (column_parts d c) ≡ false
column_in_range d c w =
    let attributes : List Seen = all_shown (sign.nullable_signs c.nullable) ++ all_shown (sign.default_signs c.kind c.default_rule) in
    let precise : ℕ = number role.PRECISION 10 (column_parts d c) in
    let kinds : list_any (excess precise) (all_shown (sign.kind_signs c.kind)) ≡ false =
    subst (λ n. AreIn n (sign.kind_signs c.kind)) (precision_is d c.name attributes c.kind w.kind) (kind_in_range c.kind precise w.kind w.length) in
    any_both (excess precise) (all_shown (sign.kind_signs c.kind)) attributes
    ∙ (λ i. kinds i || any_both (excess precise) (all_shown (sign.nullable_signs c.nullable)) (all_shown (sign.default_signs c.kind c.default_rule)) i)
    ∙ (λ i. null_in_range precise c.nullable i || default_in_range precise c.kind c.default_rule w.kind i)

-- Keys.

more_in : (precision : ℕ) (ns : List (List ℕ)) → AreIn precision (flat_map sign.more_part ns)
more_in precision [] = refl
more_in precision (n ∷ ns) = more_in precision ns

part_in : (precision : ℕ) (ns : List (List ℕ)) → AreIn precision (sign.part_signs ns)
part_in precision [] = refl
part_in precision (n ∷ ns) = more_in precision ns

tail_in : (precision : ℕ) (tail : List Sign) → only is_filler tail ≡ true → AreIn precision tail
tail_in precision [] h = refl
tail_in precision (s ∷ ss) h =
    let parts = and_parts (is_filler s.role) (only is_filler ss) h in
    let here : excess precision (shown s) ≡ false = ap (λ r. not (is_in_range precision r (number_seen (shown s)))) (eqb-true s.role role.FILLER parts.0) in
    λ i. here i || tail_in precision ss parts.1 i

names_in : (precision : ℕ) (names : List (List ℕ)) (tail : List Sign) → only is_filler tail ≡ true → AreIn precision (names_before names tail)
names_in precision names tail h = both_in precision (sign.part_signs names) (sign.mark 41 role.FILLER ∷ tail) (part_in precision names) (tail_in precision tail h)

pub primary_in_range : (d : Sign) (names : List (List ℕ)) (tail : List Sign) → only is_filler tail ≡ true → has_excess (all_shown (primary_item d names tail)) ≡ false
primary_in_range d names tail h = names_in (number role.PRECISION 10 (all_shown (primary_item d names tail))) names tail h

pub unique_in_range : (d : Sign) (k : UniqueKey) (tail : List Sign) → only is_filler tail ≡ true → has_excess (all_shown (unique_item d k tail)) ≡ false
unique_in_range d k tail h = names_in (number role.PRECISION 10 (all_shown (unique_item d k tail))) k.columns tail h
