-- Of three kinds, if the first two are comparable and the last two are, the outer two are: kinds are comparable where they
-- are equal without their sizes.
use Rattle.std.proofs.Common.{◌≡◌, ℕ, true, false, ◌&&◌, ◌||◌, nat_le, nat_eq, arith, refl, sym, ap, ◌∙◌}
use Rattle.std.proofs.lemmas.Bool.{false≢true}
use Rattle.std.proofs.lemmas.Bool.Decides.{nat_tests}
use Rattle.dm_schema.specs.declared.column.Kind.{Kind}
use Rattle.dm_schema.specs.declared.column.Kind.TheVariants as kind
use Rattle.dm_schema.specs.KindOrder.{comparable}

-- a kind without its size, where its family is ordered by size
abbrev sizeless : Kind → Kind
sizeless (kind.Signed size) = kind.Signed 0
sizeless (kind.Unsigned size) = kind.Unsigned 0
sizeless (kind.Decimal precision scale) = kind.Decimal precision scale
sizeless (kind.Char most) = kind.Char 0
sizeless (kind.Varchar most) = kind.Varchar 0
sizeless (kind.Text prefix) = kind.Text 0
sizeless (kind.Binary size) = kind.Binary size
sizeless (kind.Varbinary most) = kind.Varbinary 0
sizeless (kind.Blob prefix) = kind.Blob 0
sizeless kind.Date = kind.Date
sizeless kind.Year = kind.Year
sizeless (kind.Datetime digits) = kind.Datetime digits
sizeless (kind.Timestamp digits) = kind.Timestamp digits

any_two_sizes : (s t : ℕ) → ((nat_eq s t || nat_le s t) || (nat_eq t s || nat_le t s)) ≡ true
any_two_sizes s t = grind (arith, nat_tests)

equal_sizes : (s t : ℕ) → ((nat_eq s t || false) || (nat_eq t s || false)) ≡ true → s ≡ t
equal_sizes s t h = grind (arith, nat_tests)

one_size : (s : ℕ) → ((nat_eq s s || false) || (nat_eq s s || false)) ≡ true
one_size s = grind (arith, nat_tests)

equal_precisions : (p s q t : ℕ) → ((nat_eq p q && nat_eq s t || false) || (nat_eq q p && nat_eq t s || false)) ≡ true → p ≡ q
equal_precisions p s q t h = grind (arith, nat_tests)

equal_scales : (p s q t : ℕ) → ((nat_eq p q && nat_eq s t || false) || (nat_eq q p && nat_eq t s || false)) ≡ true → s ≡ t
equal_scales p s q t h = grind (arith, nat_tests)

one_decimal : (p s : ℕ) → ((nat_eq p p && nat_eq s s || false) || (nat_eq p p && nat_eq s s || false)) ≡ true
one_decimal p s = grind (arith, nat_tests)

sizeless_if_comparable : (a b : Kind) → comparable a b ≡ true → sizeless a ≡ sizeless b
sizeless_if_comparable (kind.Signed s) (kind.Signed t) h = refl
sizeless_if_comparable (kind.Unsigned s) (kind.Unsigned t) h = refl
sizeless_if_comparable (kind.Decimal p s) (kind.Decimal q t) h = let precision : p ≡ q = equal_precisions p s q t h in let scale : s ≡ t = equal_scales p s q t h in rw (precision, scale) refl
sizeless_if_comparable (kind.Char s) (kind.Char t) h = refl
sizeless_if_comparable (kind.Varchar s) (kind.Varchar t) h = refl
sizeless_if_comparable (kind.Text s) (kind.Text t) h = refl
sizeless_if_comparable (kind.Binary s) (kind.Binary t) h = rw (equal_sizes s t h) refl
sizeless_if_comparable (kind.Varbinary s) (kind.Varbinary t) h = refl
sizeless_if_comparable (kind.Blob s) (kind.Blob t) h = refl
sizeless_if_comparable kind.Date kind.Date h = refl
sizeless_if_comparable kind.Year kind.Year h = refl
sizeless_if_comparable (kind.Datetime s) (kind.Datetime t) h = rw (equal_sizes s t h) refl
sizeless_if_comparable (kind.Timestamp s) (kind.Timestamp t) h = rw (equal_sizes s t h) refl
sizeless_if_comparable a b h = absurd (false≢true h)

pub comparable_self : (a : Kind) → comparable a a ≡ true
comparable_self (kind.Signed s) = any_two_sizes s s
comparable_self (kind.Unsigned s) = any_two_sizes s s
comparable_self (kind.Decimal p s) = one_decimal p s
comparable_self (kind.Char s) = any_two_sizes s s
comparable_self (kind.Varchar s) = any_two_sizes s s
comparable_self (kind.Text s) = any_two_sizes s s
comparable_self (kind.Binary s) = one_size s
comparable_self (kind.Varbinary s) = any_two_sizes s s
comparable_self (kind.Blob s) = any_two_sizes s s
comparable_self kind.Date = refl
comparable_self kind.Year = refl
comparable_self (kind.Datetime s) = one_size s
comparable_self (kind.Timestamp s) = one_size s

-- kinds of two families are told apart by comparing them, without their sizes too
comparable_if_sizeless : (a b : Kind) → sizeless a ≡ sizeless b → comparable a b ≡ true
comparable_if_sizeless (kind.Signed s) (kind.Signed t) h = any_two_sizes s t
comparable_if_sizeless (kind.Unsigned s) (kind.Unsigned t) h = any_two_sizes s t
comparable_if_sizeless (kind.Decimal p s) (kind.Decimal q t) h = let precision : p ≡ q = cc in let scale : s ≡ t = cc in rw (precision, scale) (one_decimal q t)
comparable_if_sizeless (kind.Char s) (kind.Char t) h = any_two_sizes s t
comparable_if_sizeless (kind.Varchar s) (kind.Varchar t) h = any_two_sizes s t
comparable_if_sizeless (kind.Text s) (kind.Text t) h = any_two_sizes s t
comparable_if_sizeless (kind.Binary s) (kind.Binary t) h = let same : s ≡ t = cc in rw same (one_size t)
comparable_if_sizeless (kind.Varbinary s) (kind.Varbinary t) h = any_two_sizes s t
comparable_if_sizeless (kind.Blob s) (kind.Blob t) h = any_two_sizes s t
comparable_if_sizeless kind.Date kind.Date h = refl
comparable_if_sizeless kind.Year kind.Year h = refl
comparable_if_sizeless (kind.Datetime s) (kind.Datetime t) h = let same : s ≡ t = cc in rw same (one_size t)
comparable_if_sizeless (kind.Timestamp s) (kind.Timestamp t) h = let same : s ≡ t = cc in rw same (one_size t)
comparable_if_sizeless a b h = absurd (false≢true (ap (comparable (sizeless a)) (sym h) ∙ comparable_self (sizeless a)))

pub comparable_trans : (a b c : Kind) → comparable a b ≡ true → comparable b c ≡ true → comparable a c ≡ true
comparable_trans a b c p q = comparable_if_sizeless a c (sizeless_if_comparable a b p ∙ sizeless_if_comparable b c q)
