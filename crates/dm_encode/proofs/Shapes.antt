-- Numbers, days, moments and texts: what was written of them is read.
use Rattle.std.proofs.Common.{◌≡◌, ℕ, zero, suc, ◌+◌, ◌-◌, ◌*◌, ◌/◌, ◌%◌, ◌^◌, ◌<◌, ◌≤◌, Bool, true, false, ◌&&◌, ◌||◌, cond, ltb, eqb, List, ◌++◌, length, ℤ, pos, negsuc, neg_ℤ, ◌⊎◌, inl, inr, ⊎_elim, Some, leb, refl, sym, ap, ◌∙◌, arith, lit<, length-append}
use Rattle.std.specs.Prelude.{IsTrue, int_lt, int_le, unsigned_abs}
use Rattle.std.proofs.Math.Nat.{pow-succ', pow-le-pow_right, zero-mod}
use Rattle.std.proofs.lemmas.Nat.{pow-add, div-add-mod'}
use Rattle.std.proofs.lemmas.List.{drop_at, take_at}
use Rattle.std.proofs.lemmas.Bool.{ltb-true, leb-true, eqb-true}
use Rattle.std.proofs.lemmas.Bool.Decides.{nat_tests}
use Rattle.dm_value.specs.declared.value.Day.{Day}
use Rattle.dm_value.specs.declared.value.Moment.{Moment}
use Rattle.dm_value.specs.declared.value.Stamp.{Stamp}
use Rattle.dm_schema.specs.Fits.{fits_day, fits_micros, fits_moment, fits_signed, fits_stamp, fits_unsigned, fits_year}
use Rattle.dm_schema.specs.Kinds.{is_integer_size}
use Rattle.dm_base.specs.Reading.{be_value}
use Rattle.dm_decode.specs.Values.{day_of, fraction_width, micros_of, moment_at, moment_of, moment_offset, signed_of, stamp_of, year_of}
use Rattle.dm_encode.specs.Numbers.{be_bytes}
use Rattle.dm_encode.specs.Values.{day_number, fraction, moment_number, twos_complement, year_number}
use Rattle.dm_encode.proofs.Digits.{be_back, length-be}
use Rattle.dm_encode.proofs.Rests.{both}

-- Integers.

pub bytes_of_bits : (size : ℕ) → 256 ^ size ≡ 2 ^ (8 * size)
bytes_of_bits zero = refl
bytes_of_bits (suc size) =
    let eight : 8 * suc size ≡ 8 + 8 * size = omega arith in
    rw (pow-succ' 256 size, bytes_of_bits size, eight, pow-add 2 8 (8 * size)) refl

halves : (size : ℕ) → 1 ≤ size → 2 ^ (8 * size) ≡ 2 * 2 ^ (8 * size - 1)
halves size some =
    let one : 8 * size ≡ suc (8 * size - 1) = omega arith in
    let step = pow-succ' 2 (8 * size - 1) in
    ap (λ n. 2 ^ n) one ∙ step

not_below : (m : ℕ) → ltb m 0 ≡ false
not_below m = search (nat_tests, arith)

-- how small a negative number is
low_is : (half m : ℕ) → IsTrue (int_le (neg_ℤ (pos half)) (negsuc m)) → suc m ≤ half
low_is zero m fits = absurd cc
low_is (suc half) m fits = let h = leb-true m half fits in omega (arith, h)

signed_parts : (size : ℕ) (n : ℤ) → IsTrue (fits_signed size n) → IsTrue (int_le (neg_ℤ (pos (2 ^ (8 * size - 1)))) n) × IsTrue (int_lt n (pos (2 ^ (8 * size - 1))))
signed_parts size n fits = both (int_le (neg_ℤ (pos (2 ^ (8 * size - 1)))) n) (int_lt n (pos (2 ^ (8 * size - 1)))) fits

pub twos_below : (size : ℕ) (n : ℤ) → 1 ≤ size → IsTrue (fits_signed size n) → twos_complement size n < 256 ^ size
twos_below size (pos m) some fits =
    let high = ltb-true m (2 ^ (8 * size - 1)) (signed_parts size (pos m) fits).1 in
    let double = halves size some in
    rw (not_below m, bytes_of_bits size) (omega (arith, high, double))
twos_below size (negsuc m) some fits =
    let low = low_is (2 ^ (8 * size - 1)) m (signed_parts size (negsuc m) fits).0 in
    let double = halves size some in
    rw (bytes_of_bits size) (omega (arith, low, double))

twice_back : (whole half m : ℕ) → whole ≡ 2 * half → suc m ≤ half → cond {A = ℤ} (ltb (whole - suc m) half) (pos (whole - suc m)) (neg_ℤ (pos (whole - (whole - suc m)))) ≡ negsuc m
twice_back whole half m double low =
    let test : ltb (whole - suc m) half ≡ false = search (nat_tests, arith) in
    let same : whole - (whole - suc m) ≡ suc m = omega arith in
    rw (test, same) refl

pub twos_back : (size : ℕ) (n : ℤ) → 1 ≤ size → IsTrue (fits_signed size n) → signed_of size (twos_complement size n) ≡ n
twos_back size (pos m) some fits =
    let high : ltb m (2 ^ (8 * size - 1)) ≡ true = (signed_parts size (pos m) fits).1 in
    rw (not_below m, high) refl
twos_back size (negsuc m) some fits = twice_back (2 ^ (8 * size)) (2 ^ (8 * size - 1)) m (halves size some) (low_is (2 ^ (8 * size - 1)) m (signed_parts size (negsuc m) fits).0)

pub unsigned_below : (size : ℕ) (n : ℤ) → IsTrue (fits_unsigned size n) → unsigned_abs n < 256 ^ size
unsigned_below size (pos m) fits = rw (bytes_of_bits size) (ltb-true m (2 ^ (8 * size)) (both (int_le (pos 0) (pos m)) (int_lt (pos m) (pos (2 ^ (8 * size)))) fits).1)
unsigned_below size (negsuc m) fits = absurd cc

pub unsigned_back : (size : ℕ) (n : ℤ) → IsTrue (fits_unsigned size n) → pos (unsigned_abs n) ≡ n
unsigned_back size (pos m) fits = refl
unsigned_back size (negsuc m) fits = absurd cc

-- YEAR

either : (a b : Bool) → IsTrue (a || b) → IsTrue a ⊎ IsTrue b
either true b h = inl refl
either false b h = inr h

abbrev IsYear : ℕ → Type 0
IsYear m = (m ≡ 0) ⊎ ((1901 ≤ m) × (m ≤ 2155))

year_is : (m : ℕ) → IsTrue (fits_year (pos m)) → IsYear m
year_is m fits =
    ⊎_elim (λ h. inl (let most = leb-true m 0 (both (int_le (pos 0) (pos m)) (int_le (pos m) (pos 0)) h).1 in omega (arith, most)))
    (λ h. inr (let p = both (int_le (pos 1901) (pos m)) (int_le (pos m) (pos 2155)) h in (leb-true 1901 m p.0, leb-true m 2155 p.1)))
    (either (int_le (pos 0) (pos m) && int_le (pos m) (pos 0)) (int_le (pos 1901) (pos m) && int_le (pos m) (pos 2155)) fits)

not_zero : (m : ℕ) → 0 < m → eqb m 0 ≡ false
not_zero m some = search (nat_tests, arith)

year_small : (m : ℕ) → IsYear m → year_number m < 256
year_small m (inl e) = rw e (lit< tt)
year_small m (inr h) = let test = not_zero m (omega (arith, h.0)) in rw test (omega (arith, h.0, h.1))

year_same : (m : ℕ) → IsYear m → year_of (year_number m) ≡ m
year_same m (inl e) = rw e refl
year_same m (inr h) =
    let test = not_zero m (omega (arith, h.0)) in
    let behind = not_zero (m - 1900) (omega (arith, h.0)) in
    rw (test, behind) (omega (arith, h.0))

pub year_below : (n : ℤ) → IsTrue (fits_year n) → year_number (unsigned_abs n) < 256
year_below (pos m) fits = year_small m (year_is m fits)
year_below (negsuc m) fits = absurd cc

pub year_back : (n : ℤ) → IsTrue (fits_year n) → pos (year_of (year_number (unsigned_abs n))) ≡ n
year_back (pos m) fits = ap pos (year_same m (year_is m fits))
year_back (negsuc m) fits = absurd cc

-- DATE

day_is : (d : Day) → IsTrue (fits_day d) → (d.year ≤ 9999) × (d.month ≤ 12) × (d.day ≤ 31)
day_is d fits =
    let p = both (leb d.year 9999 && leb d.month 12) (leb d.day 31) fits in
    let q = both (leb d.year 9999) (leb d.month 12) p.0 in
    (leb-true _ _ q.0, leb-true _ _ q.1, leb-true _ _ p.1)

same_day : (a b : Day) → a.year ≡ b.year → a.month ≡ b.month → a.day ≡ b.day → a ≡ b
same_day a b year month day =
    ap (λ v. record { year = v; month = a.month; day = a.day }) year
    ∙ ap (λ v. record { year = b.year; month = v; day = a.day }) month
    ∙ ap (λ v. record { year = b.year; month = b.month; day = v }) day

pub day_below : (d : Day) → IsTrue (fits_day d) → day_number d < 256 ^ 3
day_below d fits = let p = day_is d fits in omega (arith, p.0, p.1, p.2)

pub day_back : (d : Day) → IsTrue (fits_day d) → day_of (day_number d) ≡ d
day_back d fits =
    let p = day_is d fits in
    same_day (day_of (day_number d)) d (omega (arith, p.0, p.1, p.2)) (omega (arith, p.0, p.1, p.2)) (omega (arith, p.0, p.1, p.2))

-- Fractions

whole_units : (width unit micros : ℕ) → micros / unit < 256 ^ width → micros % unit ≡ 0 → be_value (be_bytes width (micros / unit)) * unit ≡ micros
whole_units width unit micros small whole = let split = div-add-mod' micros unit in rw (be_back width (micros / unit) small) (omega (arith, split))

pub fraction_back : (digits micros : ℕ) → digits ≤ 6 → (micros ≤ 999999) × (micros % 10 ^ (6 - digits) ≡ 0) → micros_of digits (fraction digits micros) ≡ micros
unfolding fraction
fraction_back zero micros few h = whole_units 0 1000000 micros (omega (arith, h.0)) (omega (arith, h.1))
fraction_back (suc zero) micros few h = whole_units 1 10000 micros (omega (arith, h.0)) (omega (arith, h.1))
fraction_back (suc (suc zero)) micros few h = whole_units 1 10000 micros (omega (arith, h.0)) (omega (arith, h.1))
fraction_back (suc (suc (suc zero))) micros few h = whole_units 2 100 micros (omega (arith, h.0)) (omega (arith, h.1))
fraction_back (suc (suc (suc (suc zero)))) micros few h = whole_units 2 100 micros (omega (arith, h.0)) (omega (arith, h.1))
fraction_back (suc (suc (suc (suc (suc zero))))) micros few h = whole_units 3 1 micros (omega (arith, h.0)) (omega (arith, h.1))
fraction_back (suc (suc (suc (suc (suc (suc zero)))))) micros few h = whole_units 3 1 micros (omega (arith, h.0)) (omega (arith, h.1))
fraction_back (suc (suc (suc (suc (suc (suc (suc n))))))) micros few h = absurd (omega arith)

pub length-fraction : (digits micros : ℕ) → length (fraction digits micros) ≡ fraction_width digits
unfolding fraction
length-fraction digits micros = length-be (fraction_width digits) (micros / 100 ^ (3 - fraction_width digits))

micros_are : (digits micros : ℕ) → IsTrue (fits_micros digits micros) → (micros ≤ 999999) × (micros % 10 ^ (6 - digits) ≡ 0)
micros_are digits micros fits = let p = both (leb micros 999999) (eqb (micros % 10 ^ (6 - digits)) 0) fits in (leb-true _ _ p.0, eqb-true _ _ p.1)

-- DATETIME

abbrev IsMoment : ℕ → Moment → Type 0
IsMoment digits m = IsTrue (fits_day m.day) × (m.hour ≤ 23) × (m.minute ≤ 59) × (m.second ≤ 59) × IsTrue (fits_micros digits m.micros)

moment_is : (digits : ℕ) (m : Moment) → IsTrue (fits_moment digits m) → IsMoment digits m
moment_is digits m fits =
    let p = both (fits_day m.day && leb m.hour 23 && leb m.minute 59 && leb m.second 59) (fits_micros digits m.micros) fits in
    let q = both (fits_day m.day && leb m.hour 23 && leb m.minute 59) (leb m.second 59) p.0 in
    let r = both (fits_day m.day && leb m.hour 23) (leb m.minute 59) q.0 in
    let s = both (fits_day m.day) (leb m.hour 23) r.0 in
    (s.0, leb-true _ _ s.1, leb-true _ _ r.1, leb-true _ _ q.1, p.1)

-- the fields of a number, from the lowest
fields : (second minute hour day months : ℕ) → second ≤ 59 → minute ≤ 59 → hour ≤ 23 → day ≤ 31
    → ((second + 2 ^ 6 * minute + 2 ^ 12 * hour + 2 ^ 17 * day + 2 ^ 22 * months) / 2 ^ 22 ≡ months)
    × ((second + 2 ^ 6 * minute + 2 ^ 12 * hour + 2 ^ 17 * day + 2 ^ 22 * months) / 2 ^ 17 % 32 ≡ day)
    × ((second + 2 ^ 6 * minute + 2 ^ 12 * hour + 2 ^ 17 * day + 2 ^ 22 * months) / 2 ^ 12 % 32 ≡ hour)
    × ((second + 2 ^ 6 * minute + 2 ^ 12 * hour + 2 ^ 17 * day + 2 ^ 22 * months) / 2 ^ 6 % 64 ≡ minute)
    × ((second + 2 ^ 6 * minute + 2 ^ 12 * hour + 2 ^ 17 * day + 2 ^ 22 * months) % 64 ≡ second)
fields second minute hour day months s m h d = (omega arith, omega arith, omega arith, omega arith, omega arith)

moment_same : (a b : Moment) → a.day ≡ b.day → a.hour ≡ b.hour → a.minute ≡ b.minute → a.second ≡ b.second → a.micros ≡ b.micros → a ≡ b
moment_same a b day hour minute second micros =
    ap (λ v. record { day = v; hour = a.hour; minute = a.minute; second = a.second; micros = a.micros }) day
    ∙ ap (λ v. record { day = b.day; hour = v; minute = a.minute; second = a.second; micros = a.micros }) hour
    ∙ ap (λ v. record { day = b.day; hour = b.hour; minute = v; second = a.second; micros = a.micros }) minute
    ∙ ap (λ v. record { day = b.day; hour = b.hour; minute = b.minute; second = v; micros = a.micros }) second
    ∙ ap (λ v. record { day = b.day; hour = b.hour; minute = b.minute; second = b.second; micros = v }) micros

moment_below : (digits : ℕ) (m : Moment) → IsMoment digits m → moment_number m < 2 ^ 39
moment_below digits m h = let d = day_is m.day h.0 in omega (arith, d.0, d.1, d.2, h.1, h.2, h.3)

moment_fields : (digits : ℕ) (m : Moment) → IsMoment digits m → moment_at (moment_number m) m.micros ≡ m
moment_fields digits m h =
    let d = day_is m.day h.0 in
    let f = fields m.second m.minute m.hour m.day.day (13 * m.day.year + m.day.month) h.3 h.2 h.1 d.2 in
    let year : moment_number m / 2 ^ 22 / 13 ≡ m.day.year = rw f.0 (omega (arith, d.1)) in
    let month : moment_number m / 2 ^ 22 % 13 ≡ m.day.month = rw f.0 (omega (arith, d.1)) in
    moment_same (moment_at (moment_number m) m.micros) m (same_day _ m.day year month f.1) f.2 f.3 f.4 refl

pub moment_back : (digits : ℕ) (m : Moment) → digits ≤ 6 → IsTrue (fits_moment digits m) → moment_of digits (be_bytes 5 (moment_offset + moment_number m) ++ fraction digits m.micros) ≡ Some m
moment_back digits m few fits =
    let h = moment_is digits m fits in
    let below = moment_below digits m h in
    let long = length-be 5 (moment_offset + moment_number m) in
    let number : be_value (be_bytes 5 (moment_offset + moment_number m)) ≡ moment_offset + moment_number m = be_back 5 (moment_offset + moment_number m) (omega (arith, below)) in
    let test : ltb (moment_offset + moment_number m) moment_offset ≡ false = search (nat_tests, arith) in
    let rest : moment_offset + moment_number m - moment_offset ≡ moment_number m = omega arith in
    rw (take_at (be_bytes 5 (moment_offset + moment_number m)) (fraction digits m.micros) 5 long, drop_at (be_bytes 5 (moment_offset + moment_number m)) (fraction digits m.micros) 5 long, number, test, rest, fraction_back digits m.micros few (micros_are digits m.micros h.4), moment_fields digits m h) refl

pub length-moment : (digits : ℕ) (m : Moment) → length (be_bytes 5 (moment_offset + moment_number m) ++ fraction digits m.micros) ≡ 5 + fraction_width digits
length-moment digits m = rw (length-append, length-be 5 (moment_offset + moment_number m), length-fraction digits m.micros) refl

-- TIMESTAMP

stamp_is : (digits : ℕ) (s : Stamp) → IsTrue (fits_stamp digits s) → (s.seconds < 2 ^ 32) × (s.micros ≤ 999999) × (s.micros % 10 ^ (6 - digits) ≡ 0)
stamp_is digits s fits = by (eqb s.seconds 0) refl fits where
  by : (zero : Bool) → eqb s.seconds 0 ≡ zero → IsTrue (cond zero (eqb s.micros 0) (leb s.seconds 2147483647 && fits_micros digits s.micros)) → (s.seconds < 2 ^ 32) × (s.micros ≤ 999999) × (s.micros % 10 ^ (6 - digits) ≡ 0)
  by true e h =
      let none = eqb-true s.seconds 0 e in
      let whole = eqb-true s.micros 0 h in
      (omega (arith, none), omega (arith, whole), rw whole (zero-mod (10 ^ (6 - digits))))
  by false e h =
      let p = both (leb s.seconds 2147483647) (fits_micros digits s.micros) h in
      let most = leb-true s.seconds 2147483647 p.0 in
      let m = micros_are digits s.micros p.1 in
      (omega (arith, most), m.0, m.1)

pub stamp_back : (digits : ℕ) (s : Stamp) → digits ≤ 6 → IsTrue (fits_stamp digits s) → stamp_of digits (be_bytes 4 s.seconds ++ fraction digits s.micros) ≡ s
stamp_back digits s few fits =
    let h = stamp_is digits s fits in
    let long = length-be 4 s.seconds in
    rw (take_at (be_bytes 4 s.seconds) (fraction digits s.micros) 4 long, drop_at (be_bytes 4 s.seconds) (fraction digits s.micros) 4 long, be_back 4 s.seconds (omega (arith, h.0)), fraction_back digits s.micros few (h.1, h.2)) refl

pub length-stamp : (digits : ℕ) (s : Stamp) → length (be_bytes 4 s.seconds ++ fraction digits s.micros) ≡ 4 + fraction_width digits
length-stamp digits s = rw (length-append, length-be 4 s.seconds, length-fraction digits s.micros) refl

pub fraction_made : (digits micros width unit number : ℕ) (before made : List ℕ) → width ≡ fraction_width digits → unit ≡ 100 ^ (3 - fraction_width digits) → number ≡ micros / unit → made ≡ before ++ be_bytes width number → made ≡ before ++ fraction digits micros
unfolding fraction
fraction_made digits micros width unit number before made width_is unit_is number_is is = is ∙ rw (width_is, number_is, unit_is) refl

negative_some : (n : ℤ) → int_lt n (pos 0) ≡ true → 1 ≤ unsigned_abs n
negative_some (pos m) below = absurd (let none = ltb-true m 0 below in omega (arith, none))
negative_some (negsuc m) below = omega arith

signed_small : (size : ℕ) (n : ℤ) → 1 ≤ size → IsTrue (fits_signed size n) → 2 * unsigned_abs n ≤ 2 ^ (8 * size)
signed_small size (pos m) some fits =
    let high = ltb-true m (2 ^ (8 * size - 1)) (signed_parts size (pos m) fits).1 in
    let double = halves size some in
    omega (arith, high, double)
signed_small size (negsuc m) some fits =
    let low = low_is (2 ^ (8 * size - 1)) m (signed_parts size (negsuc m) fits).0 in
    let double = halves size some in
    omega (arith, low, double)

-- sizes of integers are 1 at least, and their numbers have 64 bits
pub size_some : (size : ℕ) → IsTrue (is_integer_size size) → 1 ≤ size
size_some zero ok = absurd cc
size_some (suc size) ok = omega arith

-- what casts of an integer's number need
pub magnitude_fits : (size end abs : ℕ) (n : ℤ) → IsTrue (is_integer_size size) → IsTrue (fits_signed size n) → end ≡ 2 ^ (8 * size) → abs ≡ unsigned_abs n → 2 * abs ≤ end
magnitude_fits size end abs n ok fits end_is abs_is = rw (end_is, abs_is) (signed_small size n (size_some size ok) fits)

pub negative_abs : (negative : Bool) (abs : ℕ) (n : ℤ) → negative ≡ int_lt n (pos 0) → negative ≡ true → abs ≡ unsigned_abs n → 1 ≤ abs
negative_abs negative abs n told is abs_is = rw abs_is (negative_some n (sym told ∙ is))

size_most : (size : ℕ) → IsTrue (is_integer_size size) → 8 * size ≤ 64
size_most size ok = by (eqb size 1) (eqb size 2) (eqb size 3) (eqb size 4) (eqb size 8) refl refl refl refl refl ok where
  by : (a b d e f : Bool) → eqb size 1 ≡ a → eqb size 2 ≡ b → eqb size 3 ≡ d → eqb size 4 ≡ e → eqb size 8 ≡ f → IsTrue (a || b || d || e || f) → 8 * size ≤ 64
  by true b d e f p q r s t h = let same = eqb-true size 1 p in omega (arith, same)
  by false true d e f p q r s t h = let same = eqb-true size 2 q in omega (arith, same)
  by false false true e f p q r s t h = let same = eqb-true size 3 r in omega (arith, same)
  by false false false true f p q r s t h = let same = eqb-true size 4 s in omega (arith, same)
  by false false false false true p q r s t h = let same = eqb-true size 8 t in omega (arith, same)
  by false false false false false p q r s t h = absurd cc

pub size_room : (size : ℕ) → IsTrue (is_integer_size size) → 2 ^ (8 * size) ≤ 2 ^ 64
size_room size ok = pow-le-pow_right (lit< tt) (size_most size ok)
