-- Kinds are read as they were written.
use Rattle.std.proofs.Common.{◌≡◌, ℕ, ◌<◌, ◌≤◌, Bool, true, false, ◌||◌, nat_eq, cond, List, [], ◌∷◌, ◌++◌, codes, Some, refl, sym, ap, ◌∙◌, append_assoc, arith, eqb, leb, eqb-true, leb-true}
use Rattle.std.specs.List.{starts_with}
use Rattle.std.specs.Fmt.{decimal}
use Rattle.std.proofs.lemmas.Bool.{and_parts}
use Rattle.dm_schema.specs.declared.column.Kind.{Kind}
use Rattle.dm_schema.specs.declared.column.Kind.TheVariants as kind
use Rattle.dm_schema.specs.Kinds.{is_between, is_integer_size, is_kind}
use Rattle.dm_text.specs.Kinds.{integer_text, prefix_text, fraction_text, kind_text}
use Rattle.dm_stmt_read.specs.Readers.{and_then, just, accept}
use Rattle.dm_stmt_read.specs.Reading.{has_length}
use Rattle.dm_stmt_read.specs.Columns.{in_brackets, fraction, integer_size, integer_kind, text_kind, blob_kind, decimal_kind, sized_kind, other_kind, or_else, any_kind, read_kind}
use Rattle.dm_stmt_read.proofs.Taking.{takes_word, passes_word}
use Rattle.dm_stmt_read.proofs.Tokens.{takes_number, takes_small}

takes_brackets : (n : ℕ) (behind : List ℕ) → n < 65536 → in_brackets ((40 ∷ decimal n ++ 41 ∷ []) ++ behind) ≡ Some (n, behind)
unfolding in_brackets
takes_brackets n behind fits =
    ap (λ xs. in_brackets (40 ∷ xs)) (append_assoc (decimal n) (41 ∷ []) behind)
    ∙ (rw (takes_word (codes "(") (decimal n ++ 41 ∷ behind), takes_number n (41 ∷ behind) fits refl, takes_word (codes ")") behind) refl)

pub takes_fraction : (digits : ℕ) (behind : List ℕ) → digits ≤ 6 → starts_with nat_eq behind (codes "(") ≡ false → fraction (fraction_text digits ++ behind) ≡ Some (digits, behind)
unfolding fraction
takes_fraction digits behind few none = by (eqb digits 0) refl where
  by : (is : Bool) → eqb digits 0 ≡ is → fraction (cond is [] (40 ∷ decimal digits ++ 41 ∷ []) ++ behind) ≡ Some (digits, behind)
  by true is = (rw (passes_word (codes "(") behind none) refl) ∙ ap (λ n. Some (n, behind)) (sym (eqb-true digits 0 is))
  by false is =
      ap (λ xs. fraction (40 ∷ xs)) (append_assoc (decimal digits) (41 ∷ []) behind)
      ∙ (rw (takes_word (codes "(") (decimal digits ++ 41 ∷ behind), takes_small digits (41 ∷ behind) (omega (arith, few)) refl, takes_word (codes ")") behind) refl)

takes_decimal : (precision scale : ℕ) (behind : List ℕ) → precision < 256 → scale < 256 → decimal_kind (decimal precision ++ (44 ∷ (decimal scale ++ 41 ∷ behind))) ≡ Some (kind.Decimal precision scale, behind)
unfolding decimal_kind
takes_decimal precision scale behind fits fits_too =
    rw (takes_small precision (44 ∷ (decimal scale ++ 41 ∷ behind)) fits refl, takes_word (codes ",") (decimal scale ++ 41 ∷ behind), takes_small scale (41 ∷ behind) fits_too refl, takes_word (codes ")") behind) refl

-- what stands behind a kind: a blank, and the first letter of NULL and NOT NULL
abbrev pub null_word : List ℕ → List ℕ
null_word rest = 32 ∷ 78 ∷ rest

signed : (size : ℕ) (rest : List ℕ) → is_integer_size size ≡ true → any_kind (integer_text size ++ null_word rest) ≡ Some (kind.Signed size, null_word rest)
unfolding any_kind integer_size integer_kind accept
signed size rest ok = by (eqb size 1) (eqb size 2) (eqb size 3) (eqb size 4) (eqb size 8) refl refl refl refl refl ok where
  by : (a b d e f : Bool) → eqb size 1 ≡ a → eqb size 2 ≡ b → eqb size 3 ≡ d → eqb size 4 ≡ e → eqb size 8 ≡ f → (a || b || d || e || f) ≡ true
      → any_kind (cond a (codes "TINYINT") (cond b (codes "SMALLINT") (cond d (codes "MEDIUMINT") (cond e (codes "INT") (codes "BIGINT")))) ++ null_word rest) ≡ Some (kind.Signed size, null_word rest)
  by true b d e f p q r s t h = ap (λ n. Some (kind.Signed n, null_word rest)) (sym (eqb-true size 1 p))
  by false true d e f p q r s t h = ap (λ n. Some (kind.Signed n, null_word rest)) (sym (eqb-true size 2 q))
  by false false true e f p q r s t h = ap (λ n. Some (kind.Signed n, null_word rest)) (sym (eqb-true size 3 r))
  by false false false true f p q r s t h = ap (λ n. Some (kind.Signed n, null_word rest)) (sym (eqb-true size 4 s))
  by false false false false true p q r s t h = ap (λ n. Some (kind.Signed n, null_word rest)) (sym (eqb-true size 8 t))
  by false false false false false p q r s t h = absurd cc

unsigned : (size : ℕ) (rest : List ℕ) → is_integer_size size ≡ true → any_kind ((integer_text size ++ codes " UNSIGNED") ++ null_word rest) ≡ Some (kind.Unsigned size, null_word rest)
unfolding any_kind integer_size integer_kind accept
unsigned size rest ok = by (eqb size 1) (eqb size 2) (eqb size 3) (eqb size 4) (eqb size 8) refl refl refl refl refl ok where
  by : (a b d e f : Bool) → eqb size 1 ≡ a → eqb size 2 ≡ b → eqb size 3 ≡ d → eqb size 4 ≡ e → eqb size 8 ≡ f → (a || b || d || e || f) ≡ true
      → any_kind ((cond a (codes "TINYINT") (cond b (codes "SMALLINT") (cond d (codes "MEDIUMINT") (cond e (codes "INT") (codes "BIGINT")))) ++ codes " UNSIGNED") ++ null_word rest) ≡ Some (kind.Unsigned size, null_word rest)
  by true b d e f p q r s t h = ap (λ n. Some (kind.Unsigned n, null_word rest)) (sym (eqb-true size 1 p))
  by false true d e f p q r s t h = ap (λ n. Some (kind.Unsigned n, null_word rest)) (sym (eqb-true size 2 q))
  by false false true e f p q r s t h = ap (λ n. Some (kind.Unsigned n, null_word rest)) (sym (eqb-true size 3 r))
  by false false false true f p q r s t h = ap (λ n. Some (kind.Unsigned n, null_word rest)) (sym (eqb-true size 4 s))
  by false false false false true p q r s t h = ap (λ n. Some (kind.Unsigned n, null_word rest)) (sym (eqb-true size 8 t))
  by false false false false false p q r s t h = absurd cc

-- the last of the four prefixes
is_four : (prefix : ℕ) → is_between 1 4 prefix ≡ true → eqb prefix 1 ≡ false → eqb prefix 2 ≡ false → eqb prefix 3 ≡ false → 4 ≡ prefix
is_four prefix ok p q r =
    let parts = and_parts (leb 1 prefix) (leb prefix 4) ok in
    let low = leb-true 1 prefix parts.0 in
    let high = leb-true prefix 4 parts.1 in
    let not_one : prefix ≡ 1 → ⊥ = λ e. (let h : eqb prefix 1 ≡ true = ap (λ n. eqb n 1) e in cc) in
    let not_two : prefix ≡ 2 → ⊥ = λ e. (let h : eqb prefix 2 ≡ true = ap (λ n. eqb n 2) e in cc) in
    let not_three : prefix ≡ 3 → ⊥ = λ e. (let h : eqb prefix 3 ≡ true = ap (λ n. eqb n 3) e in cc) in
    omega (arith, low, high, not_one, not_two, not_three)

text_taken : (prefix : ℕ) (rest : List ℕ) → is_between 1 4 prefix ≡ true → any_kind ((prefix_text prefix ++ codes "TEXT") ++ rest) ≡ Some (kind.Text prefix, rest)
unfolding any_kind integer_size text_kind accept
text_taken prefix rest ok = by (eqb prefix 1) (eqb prefix 2) (eqb prefix 3) refl refl refl where
  by : (a b d : Bool) → eqb prefix 1 ≡ a → eqb prefix 2 ≡ b → eqb prefix 3 ≡ d → any_kind ((cond a (codes "TINY") (cond b [] (cond d (codes "MEDIUM") (codes "LONG"))) ++ codes "TEXT") ++ rest) ≡ Some (kind.Text prefix, rest)
  by true b d p q r = ap (λ n. Some (kind.Text n, rest)) (sym (eqb-true prefix 1 p))
  by false true d p q r = ap (λ n. Some (kind.Text n, rest)) (sym (eqb-true prefix 2 q))
  by false false true p q r = ap (λ n. Some (kind.Text n, rest)) (sym (eqb-true prefix 3 r))
  by false false false p q r = ap (λ n. Some (kind.Text n, rest)) (is_four prefix ok p q r)

blob_taken : (prefix : ℕ) (rest : List ℕ) → is_between 1 4 prefix ≡ true → any_kind ((prefix_text prefix ++ codes "BLOB") ++ rest) ≡ Some (kind.Blob prefix, rest)
unfolding any_kind integer_size text_kind blob_kind accept
blob_taken prefix rest ok = by (eqb prefix 1) (eqb prefix 2) (eqb prefix 3) refl refl refl where
  by : (a b d : Bool) → eqb prefix 1 ≡ a → eqb prefix 2 ≡ b → eqb prefix 3 ≡ d → any_kind ((cond a (codes "TINY") (cond b [] (cond d (codes "MEDIUM") (codes "LONG"))) ++ codes "BLOB") ++ rest) ≡ Some (kind.Blob prefix, rest)
  by true b d p q r = ap (λ n. Some (kind.Blob n, rest)) (sym (eqb-true prefix 1 p))
  by false true d p q r = ap (λ n. Some (kind.Blob n, rest)) (sym (eqb-true prefix 2 q))
  by false false true p q r = ap (λ n. Some (kind.Blob n, rest)) (sym (eqb-true prefix 3 r))
  by false false false p q r = ap (λ n. Some (kind.Blob n, rest)) (is_four prefix ok p q r)

-- Kinds with numbers.

sized_as : (left : List ℕ) (n : ℕ) (behind : List ℕ) → (k : ℕ → Kind) → any_kind left ≡ and_then (and_then (in_brackets ((40 ∷ decimal n ++ 41 ∷ []) ++ behind)) (λ most. just (Some (k most)))) (or_else other_kind) → n < 65536 → any_kind left ≡ Some (k n, behind)
sized_as left n behind k is fits =
    is ∙ ap (λ o. and_then (and_then o (λ most. just (Some (k most)))) (or_else other_kind)) (takes_brackets n behind fits)

timed_as : (left : List ℕ) (digits : ℕ) (behind : List ℕ) → (k : ℕ → Kind) → any_kind left ≡ and_then (fraction (fraction_text digits ++ behind)) (λ n. just (k n)) → digits ≤ 6 → starts_with nat_eq behind (codes "(") ≡ false → any_kind left ≡ Some (k digits, behind)
timed_as left digits behind k is few none = is ∙ ap (λ o. and_then o (λ n. just (k n))) (takes_fraction digits behind few none)

takes_any : (k : Kind) (rest : List ℕ) → is_kind k ≡ true → has_length k ≡ true → any_kind (kind_text k ++ null_word rest) ≡ Some (k, null_word rest)
unfolding any_kind integer_size text_kind blob_kind sized_kind other_kind accept
takes_any (kind.Signed size) rest is fits = signed size rest is
takes_any (kind.Unsigned size) rest is fits = unsigned size rest is
takes_any (kind.Decimal precision scale) rest is fits =
    let parts = and_parts (is_between 1 38 precision) (leb scale precision) is in
    let most = leb-true precision 38 (and_parts (leb 1 precision) (leb precision 38) parts.0).1 in
    let less = leb-true scale precision parts.1 in
    let shape : ((decimal precision ++ 44 ∷ decimal scale) ++ 41 ∷ []) ++ null_word rest ≡ decimal precision ++ (44 ∷ (decimal scale ++ 41 ∷ null_word rest)) =
    append_assoc (decimal precision ++ 44 ∷ decimal scale) (41 ∷ []) (null_word rest) ∙ append_assoc (decimal precision) (44 ∷ decimal scale) (41 ∷ null_word rest) in
    ap (λ xs. any_kind (codes "DECIMAL(" ++ xs)) shape ∙ takes_decimal precision scale (null_word rest) (omega (arith, most)) (omega (arith, most, less))
takes_any (kind.Char most) rest is fits = sized_as (codes "CHAR" ++ ((40 ∷ decimal most ++ 41 ∷ []) ++ null_word rest)) most (null_word rest) kind.Char refl (let h = leb-true most 255 is in omega (arith, h))
takes_any (kind.Varchar most) rest is fits = sized_as (codes "VARCHAR" ++ ((40 ∷ decimal most ++ 41 ∷ []) ++ null_word rest)) most (null_word rest) kind.Varchar refl (let h = leb-true most 65535 fits in omega (arith, h))
takes_any (kind.Text prefix) rest is fits = text_taken prefix (null_word rest) is
takes_any (kind.Binary size) rest is fits = sized_as (codes "BINARY" ++ ((40 ∷ decimal size ++ 41 ∷ []) ++ null_word rest)) size (null_word rest) kind.Binary refl (let h = leb-true size 255 is in omega (arith, h))
takes_any (kind.Varbinary most) rest is fits = sized_as (codes "VARBINARY" ++ ((40 ∷ decimal most ++ 41 ∷ []) ++ null_word rest)) most (null_word rest) kind.Varbinary refl (let h = leb-true most 65535 fits in omega (arith, h))
takes_any (kind.Blob prefix) rest is fits = blob_taken prefix (null_word rest) is
takes_any kind.Date rest is fits = refl
takes_any kind.Year rest is fits = refl
takes_any (kind.Datetime digits) rest is fits = timed_as (codes "DATETIME" ++ (fraction_text digits ++ null_word rest)) digits (null_word rest) kind.Datetime refl (leb-true digits 6 is) refl
takes_any (kind.Timestamp digits) rest is fits = timed_as (codes "TIMESTAMP" ++ (fraction_text digits ++ null_word rest)) digits (null_word rest) kind.Timestamp refl (leb-true digits 6 is) refl

pub takes_kind : (k : Kind) (rest : List ℕ) → is_kind k ≡ true → has_length k ≡ true → read_kind (kind_text k ++ null_word rest) ≡ Some (k, null_word rest)
unfolding read_kind
takes_kind k rest is fits = rw (takes_any k rest is fits, is) refl
