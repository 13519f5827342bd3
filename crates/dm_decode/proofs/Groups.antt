-- The groups of a decimal: their widths, and their numbers one after another.
use Rattle.std.proofs.Common.{◌≡◌, ℕ, zero, suc, ◌+◌, ◌-◌, ◌*◌, ◌/◌, ◌%◌, ◌^◌, ◌<◌, ◌≤◌, Bool, true, false, cond, eqb, ltb, List, [], ◌∷◌, ◌++◌, map, fold, take, drop, replicate, Option, refl, sym, ap, ◌∙◌, arith, lit<}
use Rattle.std.proofs.Math.Nat.{mul-le-mul_left, mul-le-mul_right, one-le-pow}
use Rattle.std.proofs.lemmas.Nat.{pow-add}
use Rattle.std.proofs.lemmas.List.{take-map}
use Rattle.std.proofs.lemmas.Bool.{eqb-true}
use Rattle.std.proofs.lemmas.Bool.Decides.{nat_tests}
use Rattle.dm_base.specs.Reading.{be_value}
use Rattle.dm_decode.specs.Decimals.{digits_in, group_width, groups, groups_width, some_group, upright_byte}
use Rattle.dm_decode.specs.Upright.{upright_behind}

sum_behind : (n : ℕ) (ws : List ℕ) → fold (λ a x. a + x) n ws ≡ n + fold (λ a x. a + x) 0 ws
sum_behind n [] = omega arith
sum_behind n (w ∷ ws) = let e = sum_behind (n + w) ws in let f = sum_behind (0 + w) ws in omega (arith, e, f)

pub width_first : (g : ℕ) (gs : List ℕ) → groups_width (g ∷ gs) ≡ group_width g + groups_width gs
width_first g gs = let e = sum_behind (0 + group_width g) (map group_width gs) in omega (arith, e)

width_append : (gs hs : List ℕ) → groups_width (gs ++ hs) ≡ groups_width gs + groups_width hs
width_append [] hs = omega arith
width_append (g ∷ gs) hs =
    let all = width_first g (gs ++ hs) in
    let front = width_first g gs in
    let rest = width_append gs hs in
    omega (arith, all, front, rest)

width_nines : (n : ℕ) → groups_width (replicate n 9) ≡ 4 * n
width_nines zero = refl
width_nines (suc n) = let all = width_first 9 (replicate n 9) in let rest = width_nines n in omega (arith, all, rest)

width_some : (digits : ℕ) → groups_width (some_group digits) ≡ group_width digits
width_some digits = by (eqb digits 0) refl where
  by : (none : Bool) → eqb digits 0 ≡ none → groups_width (cond none [] (digits ∷ [])) ≡ group_width digits
  by true e = let same : digits ≡ 0 = eqb-true digits 0 e in rw same refl
  by false e = let one = width_first digits [] in omega (arith, one)

width_four : (a b d e : List ℕ) → groups_width (a ++ b ++ d ++ e) ≡ groups_width a + groups_width b + groups_width d + groups_width e
width_four a b d e =
    let f = width_append (a ++ b ++ d) e in
    let g = width_append (a ++ b) d in
    let h = width_append a b in
    omega (arith, f, g, h)

pub width_is : (whole fraction front back : ℕ) → front ≡ group_width (whole % 9) → back ≡ group_width (fraction % 9)
    → front + 4 * (whole / 9) + 4 * (fraction / 9) + back ≡ groups_width (groups whole fraction)
width_is whole fraction front back front_is back_is =
    sym (width_four (some_group (whole % 9)) (replicate (whole / 9) 9) (replicate (fraction / 9) 9) (some_group (fraction % 9))
    ∙ rw (width_some (whole % 9), width_nines (whole / 9), width_nines (fraction / 9), width_some (fraction % 9), ← front_is, ← back_is) refl)

-- what is left of the bytes has room for the groups behind
pub behind_wide : (whole fraction g w f many : ℕ) → groups whole fraction ≡ g ∷ groups w f → groups_width (groups whole fraction) ≤ many → groups_width (groups w f) ≤ many - group_width g
behind_wide whole fraction g w f many same wide =
    let all : groups_width (g ∷ groups w f) ≤ many = rw same at wide in
    let first = width_first g (groups w f) in
    omega (arith, all, first)

-- a number that is as great as its digits allow leaves room for the digits behind
pub room_behind : (before number g behind all most : ℕ) → (before + 1) * 10 ^ all ≤ most → g + behind ≡ all → number < 10 ^ g → (before * 10 ^ g + number + 1) * 10 ^ behind ≤ most
room_behind before number g behind all most room same small =
    let whole : (before + 1) * (10 ^ g * 10 ^ behind) ≤ most = rw (← pow-add 10 g behind, same) room in
    let less : before * 10 ^ g + number + 1 ≤ (before + 1) * 10 ^ g = grind arith in
    let more = mul-le-mul_right (10 ^ behind) less in
    grind arith

pub room_less : (n k most : ℕ) → (n + 1) * 10 ^ k ≤ most → n + 1 ≤ most
room_less n k most room =
    let some = one-le-pow k 10 (lit< tt) in
    let more = mul-le-mul_left (n + 1) some in
    omega (arith, room, more)

pub room_is : (before power number g behind all most p n : ℕ) → (before + 1) * 10 ^ all ≤ most → g + behind ≡ all → power ≡ 10 ^ g → number < power → p ≡ power → n ≡ number → (before * p + n + 1) * 10 ^ behind ≤ most
room_is before power number g behind all most p n room same power_is small p_is n_is =
    rw (p_is, n_is, power_is) (room_behind before number g behind all most room same (rw power_is at small))

-- the bytes that are split off a group's width into them
pub own_bytes : (width mid g : ℕ) (bytes own : List ℕ) → width ≡ group_width g → mid ≡ width → own ≡ take mid bytes → own ≡ take (group_width g) bytes
own_bytes width mid g bytes own width_is mid_is own_is = rw (← width_is, ← mid_is) own_is

pub other_bytes : (width mid g : ℕ) (bytes behind : List ℕ) → width ≡ group_width g → mid ≡ width → behind ≡ drop mid bytes → behind ≡ drop (group_width g) bytes
other_bytes width mid g bytes behind width_is mid_is behind_is = rw (← width_is, ← mid_is) behind_is

upright_zero : (negative : Bool) (bytes : List ℕ) → upright_behind 0 negative bytes ≡ map (upright_byte negative) bytes
upright_zero negative [] = refl
upright_zero negative (b ∷ bs) = let same : upright_byte negative b - 0 ≡ upright_byte negative b = omega arith in ap (λ n. n ∷ map (upright_byte negative) bs) same

take_upright : (bit n : ℕ) (negative : Bool) (bytes : List ℕ) → take n (upright_behind bit negative bytes) ≡ upright_behind bit negative (take n bytes)
take_upright bit zero negative [] = refl
take_upright bit zero negative (b ∷ bs) = refl
take_upright bit (suc n) negative [] = refl
take_upright bit (suc n) negative (b ∷ bs) = ap (λ rest. (upright_byte negative b - bit) ∷ rest) (take-map (upright_byte negative) n bs)

drop_map : (n : ℕ) (negative : Bool) (bytes : List ℕ) → drop n (map (upright_byte negative) bytes) ≡ map (upright_byte negative) (drop n bytes)
drop_map zero negative bytes = refl
drop_map (suc n) negative [] = refl
drop_map (suc n) negative (b ∷ bs) = drop_map n negative bs

drop_upright : (bit n : ℕ) (negative : Bool) (bytes : List ℕ) → 1 ≤ n → drop n (upright_behind bit negative bytes) ≡ upright_behind 0 negative (drop n bytes)
drop_upright bit zero negative bytes some = absurd (omega arith)
drop_upright bit (suc n) negative [] some = refl
drop_upright bit (suc n) negative (b ∷ bs) some = drop_map n negative bs ∙ sym (upright_zero negative (drop n bs))

pub group_wide : (g : ℕ) → 1 ≤ g → g ≤ 9 → 1 ≤ group_width g
group_wide zero some few = absurd (omega arith)
group_wide (suc zero) some few = omega arith
group_wide (suc (suc zero)) some few = omega arith
group_wide (suc (suc (suc zero))) some few = omega arith
group_wide (suc (suc (suc (suc zero)))) some few = omega arith
group_wide (suc (suc (suc (suc (suc zero))))) some few = omega arith
group_wide (suc (suc (suc (suc (suc (suc zero)))))) some few = omega arith
group_wide (suc (suc (suc (suc (suc (suc (suc zero))))))) some few = omega arith
group_wide (suc (suc (suc (suc (suc (suc (suc (suc zero)))))))) some few = omega arith
group_wide (suc (suc (suc (suc (suc (suc (suc (suc (suc zero))))))))) some few = omega arith
group_wide (suc (suc (suc (suc (suc (suc (suc (suc (suc (suc n)))))))))) some few = absurd (omega arith)

pub digits_step : (g bit before number : ℕ) (negative : Bool) (gs all bytes own behind : List ℕ) (result : Option ℕ) → 1 ≤ g → g ≤ 9 → all ≡ g ∷ gs
    → own ≡ take (group_width g) bytes → behind ≡ drop (group_width g) bytes → number ≡ be_value (upright_behind bit negative own) → number < 10 ^ g
    → result ≡ digits_in gs (before * 10 ^ g + number) (upright_behind 0 negative behind) → result ≡ digits_in all before (upright_behind bit negative bytes)
digits_step g bit before number negative gs all bytes own behind result some few groups_are own_is behind_is number_is small rest =
    let here : be_value (take (group_width g) (upright_behind bit negative bytes)) ≡ number = ap be_value (take_upright bit (group_width g) negative bytes ∙ ap (upright_behind bit negative) (sym own_is)) ∙ sym number_is in
    let there : drop (group_width g) (upright_behind bit negative bytes) ≡ upright_behind 0 negative behind = drop_upright bit (group_width g) negative bytes (group_wide g some few) ∙ ap (upright_behind 0 negative) (sym behind_is) in
    let within : ltb number (10 ^ g) ≡ true = search (nat_tests, arith) in
    rest ∙ rw (groups_are, here, there, within) refl
