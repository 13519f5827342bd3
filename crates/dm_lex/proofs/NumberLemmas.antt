-- Numbers that digits write.
use Rattle.std.proofs.Common.{◌≡◌, ℕ, ◌+◌, ◌<◌, ◌≤◌, Bool, true, false, cond, List, [], ◌∷◌, length, get_or, drop, fold, replicate, ◌++◌, ◌-◌, ap, Option, Some, None, refl, sym, ◌∙◌, arith, ltb}
use Rattle.std.proofs.lemmas.List.{at_drop_more, at_drop_all, replicate-append-replicate, replicate_more}
use Rattle.std.proofs.lemmas.List.Sums.{fold-append}
use Rattle.std.proofs.lemmas.Bool.{le-ltb, lt-ltb, ltb-false}
use Rattle.dm_time.specs.Texts.{with_digit, number_of}

-- a number, if it is below another
abbrev pub below : ℕ → ℕ → Option ℕ
below most n = cond (ltb n most) (Some n) None

-- a number only grows with its digits
digits_grow : (n : ℕ) (digits : List ℕ) → n ≤ fold with_digit n digits
digits_grow n [] = omega arith
digits_grow n (d ∷ digits) = omega (arith, digits_grow (with_digit n d) digits)

none_is : (most n : ℕ) → below most n ≡ None → most ≤ n
none_is most n h = by (ltb n most) refl h where
  by : (b : Bool) → ltb n most ≡ b → cond b (Some n) None ≡ None → most ≤ n
  by true t e = absurd cc
  by false t e = ltb-false _ _ t

one_digit : (digits : List ℕ) (i n d total : ℕ) → i < length digits → d ≡ get_or digits i 0 → fold with_digit n (drop i digits) ≡ total → fold with_digit (with_digit n d) (drop (i + 1) digits) ≡ total
one_digit digits i n d total lt here so_far =
    let step : fold with_digit n (drop i digits) ≡ fold with_digit (with_digit n (get_or digits i 0)) (drop (i + 1) digits) = at_drop_more (fold with_digit n) digits i 0 lt in
    rw here (sym step ∙ so_far)

pub fails : (most : ℕ) (digits : List ℕ) (i n d total : ℕ) → i < length digits → d ≡ get_or digits i 0 → below most (with_digit n d) ≡ None → fold with_digit n (drop i digits) ≡ total → below most total ≡ None
fails most digits i n d total lt here none so_far =
    let great = none_is most _ none in
    let grows = digits_grow (with_digit n d) (drop (i + 1) digits) in
    let same = one_digit digits i n d total lt here so_far in
    let test : ltb total most ≡ false = le-ltb _ _ (omega arith) in
    rw test refl

pub ends : (most : ℕ) (digits : List ℕ) (i n total : ℕ) → length digits ≤ i → n < most → fold with_digit n (drop i digits) ≡ total → below most total ≡ Some n
ends most digits i n total le small so_far =
    let same : n ≡ total = sym (at_drop_all (fold with_digit n) digits i le) ∙ so_far in
    let test : ltb total most ≡ true = lt-ltb _ _ (omega arith) in
    rw (test, same) refl

pub found : (most n m : ℕ) → Some m ≡ below most n → m ≡ n
found most n m h = by (ltb n most) h where
  by : (b : Bool) → Some m ≡ cond b (Some n) None → m ≡ n
  by true e = cc
  by false e = absurd cc

-- a number that is too great stays so with further digits
pub stays_great : (most n : ℕ) (digits : List ℕ) → None ≡ below most n → None ≡ below most (fold with_digit n digits)
stays_great most n digits none =
    let great = none_is most n (sym none) in
    let grows = digits_grow n digits in
    let test : ltb (fold with_digit n digits) most ≡ false = le-ltb _ _ (omega arith) in
    rw test refl

pub joined : (whole fraction zeros : List ℕ) → fold with_digit (fold with_digit (fold with_digit 0 whole) fraction) zeros ≡ number_of (whole ++ fraction ++ zeros)
joined whole fraction zeros =
    sym (fold-append with_digit 0 (whole ++ fraction) zeros ∙ ap (λ n. fold with_digit n zeros) (fold-append with_digit 0 whole fraction))

-- one zero more
pub zero_more : (most n k : ℕ) → None ≡ below most (with_digit (fold with_digit n (replicate k 48)) 48) → (zeros : ℕ) → k < zeros → None ≡ below most (fold with_digit n (replicate zeros 48))
zero_more most n k none zeros lt =
    let more : replicate (k + 1) 48 ++ replicate (zeros - (k + 1)) 48 ≡ replicate zeros 48 = replicate-append-replicate (k + 1) (zeros - (k + 1)) 48 ∙ ap (λ m. replicate m 48) (omega arith) in
    let one : fold with_digit n (replicate (k + 1) 48) ≡ with_digit (fold with_digit n (replicate k 48)) 48 = ap (fold with_digit n) (sym (replicate_more k 48)) ∙ fold-append with_digit n (replicate k 48) (48 ∷ []) in
    let here : None ≡ below most (fold with_digit n (replicate (k + 1) 48)) = none ∙ ap (below most) (sym one) in
    stays_great most (fold with_digit n (replicate (k + 1) 48)) (replicate (zeros - (k + 1)) 48) here
    ∙ ap (below most) (sym (fold-append with_digit n (replicate (k + 1) 48) (replicate (zeros - (k + 1)) 48)) ∙ ap (fold with_digit n) more)
