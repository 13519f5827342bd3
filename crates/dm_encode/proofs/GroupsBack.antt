-- The groups of a decimal, and the decimal that is read of them.
use Rattle.std.proofs.Common.{◌≡◌, ℕ, zero, suc, ◌+◌, ◌-◌, ◌*◌, ◌/◌, ◌%◌, ◌^◌, ◌<◌, ◌≤◌, Bool, true, false, cond, ltb, eqb, List, [], ◌∷◌, ◌++◌, length, map, replicate, Some, ℤ, pos, negsuc, refl, sym, ap, ◌∙◌, arith, lit<, subst, append_assoc, length-append}
use Rattle.std.specs.Prelude.{IsTrue, int_lt, unsigned_abs}
use Rattle.std.specs.Option.{option_map}
use Rattle.std.proofs.Math.Nat.{one-le-pow, pow-le-pow_right}
use Rattle.std.proofs.lemmas.Nat.{pow-add, div-add-mod', div_below, mod_below}
use Rattle.std.proofs.lemmas.List.{drop_at, take_at, map-append, length-map}
use Rattle.std.proofs.lemmas.Int.{to_z-of_z}
use mir.Val.{SFits, to_z, of_z}
use mir.Syntax.{w128}
use Rattle.std.proofs.lemmas.Bool.{ltb-true, eqb-true}
use Rattle.std.proofs.lemmas.Bool.Decides.{nat_tests}
use Rattle.dm_value.specs.declared.value.Dec.{Dec}
use Rattle.dm_schema.specs.Fits.{fits_decimal}
use Rattle.dm_decode.specs.Decimals.{decimal_of, decimal_width, digits_in, group_width, groups, groups_width, is_negative, signed_by, some_group, upright, upright_byte, without_sign}
use Rattle.dm_decode.proofs.Groups.{width_first}
use Rattle.dm_encode.specs.Numbers.{be_bytes}
use Rattle.dm_encode.specs.Decimals.{digits_of, group_bytes, inverted, sign_bit, spelled_decimal, with_sign_bit}
use Rattle.dm_encode.proofs.Digits.{be_back, be_none, be_step, length-be}
use Rattle.dm_encode.proofs.Rests.{both}

-- How many digits the groups have.

digits_append : (gs hs : List ℕ) → digits_of (gs ++ hs) ≡ digits_of gs + digits_of hs
digits_append [] hs = omega arith
digits_append (g ∷ gs) hs = let rest = digits_append gs hs in omega (arith, rest)

digits_nines : (n : ℕ) → digits_of (replicate n 9) ≡ 9 * n
digits_nines zero = refl
digits_nines (suc n) = let rest = digits_nines n in omega (arith, rest)

digits_some : (n : ℕ) → digits_of (some_group n) ≡ n
digits_some n = by (eqb n 0) refl where
  by : (none : Bool) → eqb n 0 ≡ none → digits_of (cond none [] (n ∷ [])) ≡ n
  by true e = let same = eqb-true n 0 e in omega (arith, same)
  by false e = omega arith

pub digits_whole : (whole fraction : ℕ) → digits_of (groups whole fraction) ≡ whole + fraction
digits_whole whole fraction =
    let a = some_group (whole % 9) in
    let b = replicate (whole / 9) 9 in
    let d = replicate (fraction / 9) 9 in
    let e = some_group (fraction % 9) in
    let last = digits_append (a ++ b ++ d) e in
    let third = digits_append (a ++ b) d in
    let second = digits_append a b in
    let front = digits_some (whole % 9) in
    let nines = digits_nines (whole / 9) in
    let more = digits_nines (fraction / 9) in
    let back = digits_some (fraction % 9) in
    omega (arith, last, third, second, front, nines, more, back)

-- each group has one to nine digits
abbrev pub AreGroups : List ℕ → Type 0
AreGroups [] = Unit {0}
AreGroups (g ∷ gs) = (1 ≤ g) × (g ≤ 9) × AreGroups gs

groups_append : (gs hs : List ℕ) → AreGroups gs → AreGroups hs → AreGroups (gs ++ hs)
groups_append [] hs a b = b
groups_append (g ∷ gs) hs a b = (a.0, a.1, groups_append gs hs a.2 b)

groups_nines : (n : ℕ) → AreGroups (replicate n 9)
groups_nines zero = tt
groups_nines (suc n) = (omega arith, omega arith, groups_nines n)

groups_some : (n : ℕ) → n ≤ 9 → AreGroups (some_group n)
groups_some n few = by (eqb n 0) refl where
  by : (none : Bool) → eqb n 0 ≡ none → AreGroups (cond none [] (n ∷ []))
  by true e = tt
  by false e = (grind (arith, nat_tests), few, tt)

pub groups_are : (whole fraction : ℕ) → AreGroups (groups whole fraction)
groups_are whole fraction =
    groups_append (some_group (whole % 9) ++ replicate (whole / 9) 9 ++ replicate (fraction / 9) 9) (some_group (fraction % 9))
    (groups_append (some_group (whole % 9) ++ replicate (whole / 9) 9) (replicate (fraction / 9) 9)
    (groups_append (some_group (whole % 9)) (replicate (whole / 9) 9) (groups_some (whole % 9) (omega arith)) (groups_nines (whole / 9)))
    (groups_nines (fraction / 9)))
    (groups_some (fraction % 9) (omega arith))

-- The number of a group leaves the highest bit free.

pub group_low : (g x : ℕ) → 1 ≤ g → g ≤ 9 → x < 10 ^ g → x < sign_bit (group_width g)
group_low zero x some few small = absurd (omega arith)
group_low (suc zero) x some few small = omega arith
group_low (suc (suc zero)) x some few small = omega arith
group_low (suc (suc (suc zero))) x some few small = omega arith
group_low (suc (suc (suc (suc zero)))) x some few small = omega arith
group_low (suc (suc (suc (suc (suc zero))))) x some few small = omega arith
group_low (suc (suc (suc (suc (suc (suc zero)))))) x some few small = omega arith
group_low (suc (suc (suc (suc (suc (suc (suc zero))))))) x some few small = omega arith
group_low (suc (suc (suc (suc (suc (suc (suc (suc zero)))))))) x some few small = omega arith
group_low (suc (suc (suc (suc (suc (suc (suc (suc (suc zero))))))))) x some few small = omega arith
group_low (suc (suc (suc (suc (suc (suc (suc (suc (suc (suc n)))))))))) x some few small = absurd (omega arith)

group_fits : (width x : ℕ) → x < sign_bit width → x < 256 ^ width
group_fits zero x small = absurd (omega arith)
group_fits (suc zero) x small = omega arith
group_fits (suc (suc zero)) x small = omega arith
group_fits (suc (suc (suc zero))) x small = omega arith
group_fits (suc (suc (suc (suc zero)))) x small = omega arith
group_fits (suc (suc (suc (suc (suc n))))) x small = absurd (omega arith)

-- bytes, and bytes of which the first leaves the highest bit free
abbrev pub AreBytes : List ℕ → Type 0
AreBytes [] = Unit {0}
AreBytes (b ∷ bs) = (b ≤ 255) × AreBytes bs

abbrev pub IsSigned : List ℕ → Type 0
IsSigned [] = ⊥
IsSigned (b ∷ bs) = (b < 128) × AreBytes bs

bytes_append : (xs ys : List ℕ) → AreBytes xs → AreBytes ys → AreBytes (xs ++ ys)
bytes_append [] ys a b = b
bytes_append (x ∷ xs) ys a b = (a.0, bytes_append xs ys a.1 b)

be_are_bytes : (width n : ℕ) → AreBytes (be_bytes width n)
unfolding be_bytes
be_are_bytes zero n = tt
be_are_bytes (suc width) n = bytes_append (be_bytes width (n / 256)) ((n % 256) ∷ []) (be_are_bytes width (n / 256)) (omega arith, tt)

group_are_bytes : (gs : List ℕ) (n : ℕ) → AreBytes (group_bytes gs n)
group_are_bytes [] n = tt
group_are_bytes (g ∷ gs) n = bytes_append (be_bytes (group_width g) (n / 10 ^ digits_of gs)) (group_bytes gs (n % 10 ^ digits_of gs)) (be_are_bytes (group_width g) (n / 10 ^ digits_of gs)) (group_are_bytes gs (n % 10 ^ digits_of gs))

signed_append : (xs ys : List ℕ) → IsSigned xs → AreBytes ys → IsSigned (xs ++ ys)
signed_append [] ys a b = absurd a
signed_append (x ∷ xs) ys a b = (a.0, bytes_append xs ys a.1 b)

be_signed : (width x : ℕ) → x < sign_bit width → IsSigned (be_bytes width x)
unfolding be_bytes
be_signed zero x small = absurd (omega arith)
be_signed (suc zero) x small = (omega arith, tt)
be_signed (suc (suc zero)) x small = (omega arith, (omega arith, tt))
be_signed (suc (suc (suc zero))) x small = (omega arith, (omega arith, (omega arith, tt)))
be_signed (suc (suc (suc (suc zero)))) x small = (omega arith, (omega arith, (omega arith, (omega arith, tt))))
be_signed (suc (suc (suc (suc (suc n))))) x small = absurd (omega arith)

-- the sign's bit is added to the number, or to its first byte
be_sign : (width x : ℕ) → x < sign_bit width → be_bytes width (sign_bit width + x) ≡ with_sign_bit (be_bytes width x)
unfolding be_bytes
be_sign zero x small = absurd (omega arith)
be_sign (suc zero) x small = let a : (128 + x) % 256 ≡ x % 256 + 128 = omega arith in ap (λ n. n ∷ []) a
be_sign (suc (suc zero)) x small =
    let a : (32768 + x) / 256 % 256 ≡ x / 256 % 256 + 128 = omega arith in
    let b : (32768 + x) % 256 ≡ x % 256 = omega arith in
    rw (a, b) refl
be_sign (suc (suc (suc zero))) x small =
    let a : (8388608 + x) / 256 / 256 % 256 ≡ x / 256 / 256 % 256 + 128 = omega arith in
    let b : (8388608 + x) / 256 % 256 ≡ x / 256 % 256 = omega arith in
    let d : (8388608 + x) % 256 ≡ x % 256 = omega arith in
    rw (a, b, d) refl
be_sign (suc (suc (suc (suc zero)))) x small =
    let a : (2147483648 + x) / 256 / 256 / 256 % 256 ≡ x / 256 / 256 / 256 % 256 + 128 = omega arith in
    let b : (2147483648 + x) / 256 / 256 % 256 ≡ x / 256 / 256 % 256 = omega arith in
    let d : (2147483648 + x) / 256 % 256 ≡ x / 256 % 256 = omega arith in
    let e : (2147483648 + x) % 256 ≡ x % 256 = omega arith in
    rw (a, b, d, e) refl
be_sign (suc (suc (suc (suc (suc n))))) x small = absurd (omega arith)

sign_append : (xs ys : List ℕ) → IsSigned xs → with_sign_bit (xs ++ ys) ≡ with_sign_bit xs ++ ys
sign_append [] ys a = absurd a
sign_append (x ∷ xs) ys a = refl

-- Reading takes the inversion and the sign's bit off.

twice_inverted : (negative : Bool) (b : ℕ) → b ≤ 255 → upright_byte negative (inverted negative b) ≡ b
twice_inverted true b small = omega arith
twice_inverted false b small = refl

all_upright : (negative : Bool) (bytes : List ℕ) → AreBytes bytes → map (upright_byte negative) (map (inverted negative) bytes) ≡ bytes
all_upright negative [] h = refl
all_upright negative (b ∷ bs) h = rw (twice_inverted negative b h.0, all_upright negative bs h.1) refl

abbrev signed_bytes : Bool → List ℕ → List ℕ
signed_bytes negative bytes = map (inverted negative) (with_sign_bit bytes)

sign_read : (negative : Bool) (bytes : List ℕ) → IsSigned bytes → is_negative (signed_bytes negative bytes) ≡ negative
sign_read negative [] h = absurd h
sign_read true (b ∷ bs) h = let test : ltb (255 - (b + 128)) 128 ≡ true = search (nat_tests, arith) in test
sign_read false (b ∷ bs) h = let test : ltb (b + 128) 128 ≡ false = search (nat_tests, arith) in test

bytes_read : (negative : Bool) (bytes : List ℕ) → IsSigned bytes → without_sign (upright (signed_bytes negative bytes)) ≡ bytes
bytes_read negative [] h = absurd h
bytes_read negative (b ∷ bs) h =
    let less : b + 128 - 128 ≡ b = omega arith in
    let P : Bool → Type 0 = λ sign. without_sign (map (upright_byte sign) (signed_bytes negative (b ∷ bs))) ≡ b ∷ bs in
    subst P (sym (sign_read negative (b ∷ bs) h)) (rw (twice_inverted negative (b + 128) (omega (arith, h.0)), all_upright negative bs h.1, less) refl)

-- The number of the digits.

top_below : (n g behind : ℕ) → n < 10 ^ (g + behind) → n / 10 ^ behind < 10 ^ g
top_below n g behind small = div_below n (10 ^ behind) (10 ^ g) (one-le-pow behind 10 (lit< tt)) (rw (← pow-add 10 g behind) small)

joined : (before power rest top n behind : ℕ) → top * behind + rest ≡ n → (before * power + top) * behind + rest ≡ before * (power * behind) + n
joined before power rest top n behind e = grind (arith, e)

pub digits_back : (gs : List ℕ) (before n : ℕ) → AreGroups gs → n < 10 ^ digits_of gs → digits_in gs before (group_bytes gs n) ≡ Some (before * 10 ^ digits_of gs + n)
digits_back [] before n h small = let same : before ≡ before * 1 + n = omega arith in ap Some same
digits_back (g ∷ gs) before n h small =
    let power = one-le-pow (digits_of gs) 10 (lit< tt) in
    let top : n / 10 ^ digits_of gs < 10 ^ g = top_below n g (digits_of gs) small in
    let rest : n % 10 ^ digits_of gs < 10 ^ digits_of gs = mod_below n (10 ^ digits_of gs) power in
    let long = length-be (group_width g) (n / 10 ^ digits_of gs) in
    let fits = group_fits (group_width g) (n / 10 ^ digits_of gs) (group_low g (n / 10 ^ digits_of gs) h.0 h.1 top) in
    let test : ltb (n / 10 ^ digits_of gs) (10 ^ g) ≡ true = search (nat_tests, arith) in
    rw (take_at (be_bytes (group_width g) (n / 10 ^ digits_of gs)) (group_bytes gs (n % 10 ^ digits_of gs)) (group_width g) long, drop_at (be_bytes (group_width g) (n / 10 ^ digits_of gs)) (group_bytes gs (n % 10 ^ digits_of gs)) (group_width g) long, be_back (group_width g) (n / 10 ^ digits_of gs) fits, test)
    (digits_back gs (before * 10 ^ g + n / 10 ^ digits_of gs) (n % 10 ^ digits_of gs) h.2 rest
    ∙ ap Some (rw (pow-add 10 g (digits_of gs)) (joined before (10 ^ g) (n % 10 ^ digits_of gs) (n / 10 ^ digits_of gs) n (10 ^ digits_of gs) (div-add-mod' n (10 ^ digits_of gs)))))

groups_signed : (gs : List ℕ) (n : ℕ) → AreGroups gs → 1 ≤ digits_of gs → n < 10 ^ digits_of gs → IsSigned (group_bytes gs n)
groups_signed [] n h some small = absurd (omega arith)
groups_signed (g ∷ gs) n h some small =
    signed_append (be_bytes (group_width g) (n / 10 ^ digits_of gs)) (group_bytes gs (n % 10 ^ digits_of gs))
    (be_signed (group_width g) (n / 10 ^ digits_of gs) (group_low g (n / 10 ^ digits_of gs) h.0 h.1 (top_below n g (digits_of gs) small)))
    (group_are_bytes gs (n % 10 ^ digits_of gs))

not_below : (m : ℕ) → ltb m 0 ≡ false
not_below m = search (nat_tests, arith)

sign_back : (z : ℤ) → signed_by (int_lt z (pos 0)) (unsigned_abs z) ≡ z
sign_back (pos m) = rw (not_below m) refl
sign_back (negsuc m) = refl

read_by : (scale n : ℕ) (negative : Bool) (gs bytes all : List ℕ) → is_negative all ≡ negative → without_sign (upright all) ≡ bytes → digits_in gs 0 bytes ≡ Some n
    → option_map {U = Dec} (λ n. record { digits = signed_by (is_negative all) n; scale = scale }) (digits_in gs 0 (without_sign (upright all))) ≡ Some (record { digits = signed_by negative n; scale = scale })
read_by scale n negative gs bytes all sign_is bytes_are number_is = rw (bytes_are, number_is, sign_is) refl

same_dec : (d : Dec) (scale : ℕ) → d.scale ≡ scale → record { digits = signed_by (int_lt d.digits (pos 0)) (unsigned_abs d.digits); scale = scale } ≡ d
same_dec d scale same = rw (sign_back d.digits, ← same) refl

pub decimal_back : (precision scale : ℕ) (d : Dec) → 1 ≤ precision → scale ≤ precision → IsTrue (fits_decimal precision scale d) → decimal_of precision scale (spelled_decimal precision scale d.digits) ≡ Some d
decimal_back precision scale d some within fits =
    let p = both (eqb d.scale scale) (ltb (unsigned_abs d.digits) (10 ^ precision)) fits in
    let whole = digits_whole (precision - scale) scale in
    let all : digits_of (groups (precision - scale) scale) ≡ precision = omega (arith, whole) in
    let small : unsigned_abs d.digits < 10 ^ digits_of (groups (precision - scale) scale) = rw all (ltb-true (unsigned_abs d.digits) (10 ^ precision) p.1) in
    let signed = groups_signed (groups (precision - scale) scale) (unsigned_abs d.digits) (groups_are (precision - scale) scale) (omega (arith, all)) small in
    let number = digits_back (groups (precision - scale) scale) 0 (unsigned_abs d.digits) (groups_are (precision - scale) scale) small in
    let same : 0 * 10 ^ digits_of (groups (precision - scale) scale) + unsigned_abs d.digits ≡ unsigned_abs d.digits = omega arith in
    read_by scale (unsigned_abs d.digits) (int_lt d.digits (pos 0)) (groups (precision - scale) scale) (group_bytes (groups (precision - scale) scale) (unsigned_abs d.digits)) (spelled_decimal precision scale d.digits)
    (sign_read (int_lt d.digits (pos 0)) (group_bytes (groups (precision - scale) scale) (unsigned_abs d.digits)) signed)
    (bytes_read (int_lt d.digits (pos 0)) (group_bytes (groups (precision - scale) scale) (unsigned_abs d.digits)) signed)
    (number ∙ ap Some same)
    ∙ ap Some (same_dec d scale (eqb-true d.scale scale p.0))

length-group_bytes : (gs : List ℕ) (n : ℕ) → length (group_bytes gs n) ≡ groups_width gs
length-group_bytes [] n = refl
length-group_bytes (g ∷ gs) n =
    let own = length-be (group_width g) (n / 10 ^ digits_of gs) in
    let rest = length-group_bytes gs (n % 10 ^ digits_of gs) in
    let all = width_first g gs in
    simp length-append (omega (arith, own, rest, all))

length-sign : (bytes : List ℕ) → length (with_sign_bit bytes) ≡ length bytes
length-sign [] = refl
length-sign (b ∷ bs) = refl

pub length-decimal : (precision scale : ℕ) (z : ℤ) → length (spelled_decimal precision scale z) ≡ decimal_width precision scale
length-decimal precision scale z =
    let bytes : List ℕ = group_bytes (groups (precision - scale) scale) (unsigned_abs z) in
    length-map (with_sign_bit bytes) (inverted (int_lt z (pos 0))) ∙ length-sign bytes ∙ length-group_bytes (groups (precision - scale) scale) (unsigned_abs z)

-- What the writer does group by group.

-- a last byte and the others before it, as they are added
pub group_last : (negative : Bool) (width n byte : ℕ) (before others all : List ℕ) → 0 < width → byte ≡ inverted negative (n % 256) → others ≡ before ++ map (inverted negative) (be_bytes (width - 1) (n / 256)) → all ≡ others ++ byte ∷ []
    → all ≡ before ++ map (inverted negative) (be_bytes width n)
group_last negative width n byte before others all some byte_is others_are last = last ∙ rw (others_are, byte_is, be_step width n some, map-append, append_assoc) refl

pub group_none : (negative : Bool) (n : ℕ) → map (inverted negative) (be_bytes 0 n) ≡ []
group_none negative n = ap (map (inverted negative)) (be_none n)

-- the number of a first group is small
pub top_small : (n power g behind digits : ℕ) → power ≡ 10 ^ behind → g + behind ≡ digits → g ≤ 9 → n < 10 ^ digits → n / power < 10 ^ 9
top_small n power g behind digits power_is parted few small =
    let top : n / 10 ^ behind < 10 ^ g = top_below n g behind (rw parted small) in
    let most : 10 ^ g ≤ 10 ^ 9 = pow-le-pow_right (lit< tt) few in
    rw power_is (omega (arith, top, most))

-- the groups behind the first
pub groups_first : (negative : Bool) (n power g w f width : ℕ) (all before one more : List ℕ) → all ≡ g ∷ groups w f → power ≡ 10 ^ (w + f) → width ≡ group_width g → one ≡ before ++ map (inverted negative) (be_bytes width (n / power))
    → more ≡ one ++ map (inverted negative) (group_bytes (groups w f) (n % power)) → more ≡ before ++ map (inverted negative) (group_bytes all n)
groups_first negative n power g w f width all before one more all_is power_is width_is first rest =
    rest ∙ rw (first, all_is, width_is, power_is, digits_whole w f, map-append, append_assoc) refl

-- the same of the first group of all, which has the sign's bit
pub decimal_first : (negative : Bool) (precision scale : ℕ) (z : ℤ) (n power g w f width bit digits : ℕ) (before one more : List ℕ) → n ≡ unsigned_abs z → negative ≡ int_lt z (pos 0)
    → groups (precision - scale) scale ≡ g ∷ groups w f → 1 ≤ g → g ≤ 9 → g + (w + f) ≡ digits → n < 10 ^ digits → power ≡ 10 ^ (w + f) → width ≡ group_width g → bit ≡ sign_bit width
    → one ≡ before ++ map (inverted negative) (be_bytes width (bit + n / power)) → more ≡ one ++ map (inverted negative) (group_bytes (groups w f) (n % power)) → more ≡ before ++ spelled_decimal precision scale z
decimal_first negative precision scale z n power g w f width bit digits before one more n_is negative_is all_is some few parted small power_is width_is bit_is first rest =
    let top : n / 10 ^ (w + f) < 10 ^ g = top_below n g (w + f) (rw parted small) in
    let low = group_low g (n / 10 ^ (w + f)) some few top in
    let sign = be_sign (group_width g) (n / 10 ^ (w + f)) low in
    let joint = sign_append (be_bytes (group_width g) (n / 10 ^ (w + f))) (group_bytes (groups w f) (n % 10 ^ (w + f))) (be_signed (group_width g) (n / 10 ^ (w + f)) low) in
    rest ∙ rw (first, all_is, bit_is, width_is, power_is, ← negative_is, ← n_is, digits_whole w f, sign, joint, map-append, append_assoc) refl

pub decimal_small : (precision n digits : ℕ) (z : ℤ) → n ≡ unsigned_abs z → digits ≡ precision → unsigned_abs z < 10 ^ precision → n < 10 ^ digits
decimal_small precision n digits z n_is same small = rw (n_is, same) small

pub decimal_top : (precision scale n power g w f : ℕ) (z : ℤ) → scale ≤ precision → n ≡ unsigned_abs z → g ≤ 9 → g + (w + f) ≡ precision - scale + scale → power ≡ 10 ^ (w + f) → unsigned_abs z < 10 ^ precision → n / power < 10 ^ 9
decimal_top precision scale n power g w f z within n_is few parted power_is small =
    top_small n power g (w + f) (precision - scale + scale) power_is parted few (decimal_small precision n (precision - scale + scale) z n_is (omega arith) small)

-- what is said of the number that a call is handed
pub magnitude_is : (n : ℕ) (z : ℤ) → SFits w128 z → n ≡ unsigned_abs (to_z w128 (of_z w128 z)) → n ≡ unsigned_abs z
magnitude_is n z fits is = is ∙ ap unsigned_abs (to_z-of_z w128 z fits)

pub sign_is : (negative : Bool) (z : ℤ) → SFits w128 z → negative ≡ int_lt (to_z w128 (of_z w128 z)) (pos 0) → negative ≡ int_lt z (pos 0)
sign_is negative z fits is = is ∙ ap (λ n. int_lt n (pos 0)) (to_z-of_z w128 z fits)
