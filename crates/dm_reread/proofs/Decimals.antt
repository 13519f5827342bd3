-- Integers and decimals are read as they were written.
use Rattle.std.proofs.Common.{◌≡◌, ℕ, zero, suc, ◌+◌, ◌-◌, ◌/◌, ◌%◌, ◌^◌, ◌<◌, ◌≤◌, Bool, true, false, cond, ◌&&◌, ◌==◌, List, [], ◌∷◌, ◌++◌, length, take, drop, reverse, replicate, fold, Option, Some, None, refl, sym, ap, ◌∙◌, subst, append-nil, append_assoc, arith, eqb, nat_le, nat_lt, eqb-true, le-leb, drop_at, take_at, take_all, drop-drop, drop_of_length-le}
use Rattle.std.specs.List.{list_all, prefix_len, suffix_len}
use Rattle.std.specs.Fmt.{decimal}
use Rattle.std.proofs.lemmas.Bool.{ne_eqb, lt-ltb}
use Rattle.std.proofs.lemmas.List.{length-append, length-drop, length-reverse, reverse-append, reverse-reverse, replicate_more}
use Rattle.std.proofs.lemmas.List.Sums.{fold-append, suffix_len-le-length}
use Rattle.std.proofs.Math.Nat.{pow-succ', div-div-eq-div-mul, div-le_self}
use Rattle.dm_value.specs.declared.value.Dec.{Dec}
use Rattle.dm_time.specs.Texts.{with_digit, number_of}
use Rattle.dm_time.specs.Written.{digits_of}
use Rattle.dm_text.specs.Values.{places_text}
use Rattle.dm_lex.specs.Lexemes.{is_digit, digits_length}
use Rattle.dm_lex.specs.Literals.{with_sign, integer_of, fraction_of, is_decimal, decimal_of}
use Rattle.dm_reread.proofs.Follows.{run_length}
use Rattle.dm_reread.proofs.Digits.{decimal_is_digits, decimal_some, digits_are_digits, number_is_read}

nonzero : (n : ℕ) → 1 ≤ n → eqb n 0 ≡ false
nonzero n some = ne_eqb n 0 (λ none. omega (arith, some, none))

pub integer_is_read : (minus : Bool) (n : ℕ) → n < 10 ^ 64 → integer_of minus (decimal n) ≡ Some (with_sign minus n)
integer_is_read minus n small =
    rw (nonzero (length (decimal n)) (decimal_some n), decimal_is_digits n, number_is_read n small) refl

-- The zeros at the end of digits.

abbrev is_zero : ℕ → Bool
is_zero b = eqb b 48

front_run : (ys : List ℕ) → ys ≡ replicate (prefix_len is_zero ys) 48 ++ drop (prefix_len is_zero ys) ys
front_run [] = refl
front_run (y ∷ ys) = by (eqb y 48) refl (front_run ys) where
  by : (is : Bool) → eqb y 48 ≡ is → ys ≡ replicate (prefix_len is_zero ys) 48 ++ drop (prefix_len is_zero ys) ys
      → y ∷ ys ≡ replicate (cond is (1 + prefix_len is_zero ys) 0) 48 ++ drop (cond is (1 + prefix_len is_zero ys) 0) (y ∷ ys)
  by false is rest = refl
  by true is rest =
      let one : 1 + prefix_len is_zero ys ≡ suc (prefix_len is_zero ys) = omega arith in
      let same : y ≡ 48 = eqb-true y 48 is in
      rw one (λ i. same i ∷ rest i)

zeros_reversed : (n : ℕ) → reverse {A = ℕ} (replicate n 48) ≡ replicate n 48
zeros_reversed zero = refl
zeros_reversed (suc n) =
    let one : n + 1 ≡ suc n = omega arith in
    reverse-append (48 ∷ []) (replicate n 48) ∙ ap (λ (xs : List ℕ). xs ++ 48 ∷ []) (zeros_reversed n) ∙ replicate_more n 48 ∙ ap (λ (m : ℕ). replicate m 48) one

-- digits without their zeros at the end
abbrev trimmed : List ℕ → List ℕ
trimmed digits = take (length digits - suffix_len is_zero digits) digits

end_run : (digits : List ℕ) → digits ≡ reverse (drop (suffix_len is_zero digits) (reverse digits)) ++ replicate (suffix_len is_zero digits) 48
end_run digits =
    let n = suffix_len is_zero digits in
    sym (reverse-reverse digits) ∙ ap reverse (front_run (reverse digits))
    ∙ reverse-append (replicate n 48) (drop n (reverse digits))
    ∙ ap (λ (xs : List ℕ). reverse (drop n (reverse digits)) ++ xs) (zeros_reversed n)

pub filled_up : (digits : List ℕ) → trimmed digits ++ replicate (length digits - length (trimmed digits)) 48 ≡ digits
filled_up digits =
    let n = suffix_len is_zero digits in
    let front : List ℕ = reverse (drop n (reverse digits)) in
    let whole : digits ≡ front ++ replicate n 48 = end_run digits in
    let few = suffix_len-le-length is_zero digits in
    let long : length front ≡ length digits - n = length-reverse (drop n (reverse digits)) ∙ length-drop n (reverse digits) ∙ ap (λ (m : ℕ). m - n) (length-reverse digits) in
    let same : trimmed digits ≡ front = ap (take (length digits - n)) whole ∙ take_at front (replicate n 48) (length digits - n) long in
    let rest : length digits - length (trimmed digits) ≡ n = ap (λ (xs : List ℕ). length digits - length xs) same ∙ omega (arith, long, few) in
    (λ i. same i ++ replicate (rest i) 48) ∙ sym whole

trimmed_short : (digits : List ℕ) → length (trimmed digits) ≤ length digits
trimmed_short digits = let filled = sym (length-append (trimmed digits) (replicate (length digits - length (trimmed digits)) 48)) ∙ ap length (filled_up digits) in omega (arith, filled)

-- The places behind the point.

places_are_read : (scale n : ℕ) → fold with_digit (n / 10 ^ scale) (digits_of scale n) ≡ n
places_are_read zero n = omega arith
places_are_read (suc scale) n =
    let less : n / 10 / 10 ^ scale ≡ n / 10 ^ suc scale = div-div-eq-div-mul n 10 (10 ^ scale) ∙ ap (λ (m : ℕ). n / m) (sym (pow-succ' 10 scale)) in
    let rest : fold with_digit (n / 10 ^ suc scale) (digits_of scale (n / 10)) ≡ n / 10 = ap (λ (m : ℕ). fold with_digit m (digits_of scale (n / 10))) (sym less) ∙ places_are_read scale (n / 10) in
    fold-append with_digit (n / 10 ^ suc scale) (digits_of scale (n / 10)) ((48 + n % 10) ∷ []) ∙ (rw rest (omega arith))

places_long : (count n : ℕ) → length (digits_of count n) ≡ count
places_long zero n = refl
places_long (suc count) n = let rest = places_long count (n / 10) in length-append (digits_of count (n / 10)) ((48 + n % 10) ∷ []) ∙ (rw rest (omega arith))

all_read : (scale n : ℕ) → n < 10 ^ 64 → number_of (decimal (n / 10 ^ scale) ++ digits_of scale n) ≡ n
all_read scale n small =
    let less = div-le_self n (10 ^ scale) in
    fold-append with_digit 0 (decimal (n / 10 ^ scale)) (digits_of scale n)
    ∙ ap (λ (m : ℕ). fold with_digit m (digits_of scale n)) (number_is_read (n / 10 ^ scale) (omega (arith, less, small)))
    ∙ places_are_read scale n

-- what a decimal's parts are
decimal_from : (scale : ℕ) (minus : Bool) (bytes whole fraction : List ℕ) → is_decimal bytes ≡ true → take (digits_length bytes) bytes ≡ whole → fraction_of bytes ≡ fraction → length fraction ≤ scale
    → decimal_of scale minus bytes ≡ Some (record { digits = with_sign minus (number_of (whole ++ fraction ++ replicate (scale - length fraction) 48)); scale = scale })
decimal_from scale minus bytes whole fraction is first second few =
    (λ i. cond {A = Option Dec} (is i && nat_le (length (second i)) scale) (Some (record { digits = with_sign minus (number_of (first i ++ second i ++ replicate (scale - length (second i)) 48)); scale = scale })) None)
    ∙ ap (λ (t : Bool). cond {A = Option Dec} t (Some (record { digits = with_sign minus (number_of (whole ++ fraction ++ replicate (scale - length fraction) 48)); scale = scale })) None) (le-leb (length fraction) scale few)

digits_run : (digits behind : List ℕ) → list_all is_digit digits ≡ true → digits_length (digits ++ 46 ∷ behind) ≡ length digits
digits_run digits behind all = run_length is_digit digits (46 ∷ behind) all refl

whole_run : (digits : List ℕ) → list_all is_digit digits ≡ true → digits_length digits ≡ length digits
whole_run digits all = ap digits_length (sym (append-nil digits)) ∙ run_length is_digit digits [] all refl

-- without a point

whole_is_decimal : (digits : List ℕ) → 1 ≤ length digits → list_all is_digit digits ≡ true → is_decimal digits ≡ true
whole_is_decimal digits some all =
    let none : drop (digits_length digits) digits ≡ [] = ap (λ (n : ℕ). drop n digits) (whole_run digits all) ∙ drop_of_length-le digits (omega arith) in
    rw (none, nonzero (length digits) some) refl

whole_fraction : (digits : List ℕ) → list_all is_digit digits ≡ true → fraction_of digits ≡ []
whole_fraction digits all =
    let run = whole_run digits all in
    let none : drop (digits_length digits + 1) digits ≡ [] = drop_of_length-le digits (omega (arith, run)) in
    ap trimmed none

whole_is_read : (minus : Bool) (n : ℕ) → n < 10 ^ 64 → decimal_of 0 minus (decimal n) ≡ Some (record { digits = with_sign minus n; scale = 0 })
whole_is_read minus n small =
    let digits : List ℕ = decimal n in
    let all = decimal_is_digits n in
    let first : take (digits_length digits) digits ≡ digits = ap (λ (m : ℕ). take m digits) (whole_run digits all) ∙ take_all (length digits) digits (omega arith) in
    let same : digits ++ [] ++ [] ≡ digits = append-nil (digits ++ []) ∙ append-nil digits in
    decimal_from 0 minus digits digits [] (whole_is_decimal digits (decimal_some n) all) first (whole_fraction digits all) (omega arith)
    ∙ ap (λ (m : ℕ). Some (let d : Dec = record { digits = with_sign minus m; scale = 0 } in d)) (ap number_of same ∙ number_is_read n small)

-- with a point

pointed_is_decimal : (digits places : List ℕ) → 1 ≤ length digits → list_all is_digit digits ≡ true → list_all is_digit places ≡ true → is_decimal (digits ++ 46 ∷ places) ≡ true
pointed_is_decimal digits places some all more =
    let rest : drop (digits_length (digits ++ 46 ∷ places)) (digits ++ 46 ∷ places) ≡ 46 ∷ places = ap (λ (n : ℕ). drop n (digits ++ 46 ∷ places)) (digits_run digits places all) ∙ drop_at digits (46 ∷ places) (length digits) refl in
    let long = length-append digits (46 ∷ places) in
    let two : nat_lt 1 (length (digits ++ 46 ∷ places)) ≡ true = lt-ltb 1 (length (digits ++ 46 ∷ places)) (omega (arith, long, some)) in
    rw (rest, more, two) refl

pointed_fraction : (digits places : List ℕ) → list_all is_digit digits ≡ true → fraction_of (digits ++ 46 ∷ places) ≡ trimmed places
pointed_fraction digits places all =
    let bytes : List ℕ = digits ++ 46 ∷ places in
    let rest : drop (digits_length bytes) bytes ≡ 46 ∷ places = ap (λ (n : ℕ). drop n bytes) (digits_run digits places all) ∙ drop_at digits (46 ∷ places) (length digits) refl in
    let beyond : drop (digits_length bytes + 1) bytes ≡ places = sym (drop-drop 1 (digits_length bytes) bytes) ∙ ap (drop 1) rest in
    ap trimmed beyond

pointed_is_read : (scale : ℕ) (minus : Bool) (n : ℕ) → n < 10 ^ 64 → decimal_of scale minus (decimal (n / 10 ^ scale) ++ 46 ∷ digits_of scale n) ≡ Some (record { digits = with_sign minus n; scale = scale })
pointed_is_read scale minus n small =
    let digits : List ℕ = decimal (n / 10 ^ scale) in
    let places : List ℕ = digits_of scale n in
    let all = decimal_is_digits (n / 10 ^ scale) in
    let long = places_long scale n in
    let short = trimmed_short places in
    let first : take (digits_length (digits ++ 46 ∷ places)) (digits ++ 46 ∷ places) ≡ digits = ap (λ (m : ℕ). take m (digits ++ 46 ∷ places)) (digits_run digits places all) ∙ take_at digits (46 ∷ places) (length digits) refl in
    let filled : trimmed places ++ replicate (scale - length (trimmed places)) 48 ≡ places = ap (λ (m : ℕ). trimmed places ++ replicate (m - length (trimmed places)) 48) (sym long) ∙ filled_up places in
    let same : digits ++ trimmed places ++ replicate (scale - length (trimmed places)) 48 ≡ digits ++ places = append_assoc digits (trimmed places) (replicate (scale - length (trimmed places)) 48) ∙ ap (λ (xs : List ℕ). digits ++ xs) filled in
    decimal_from scale minus (digits ++ 46 ∷ places) digits (trimmed places) (pointed_is_decimal digits places (decimal_some (n / 10 ^ scale)) all (digits_are_digits scale n)) first (pointed_fraction digits places all) (omega (arith, long, short))
    ∙ ap (λ (m : ℕ). Some (let d : Dec = record { digits = with_sign minus m; scale = scale } in d)) (ap number_of same ∙ all_read scale n small)

pub decimal_is_read : (scale : ℕ) (minus : Bool) (n : ℕ) → n < 10 ^ 64 → decimal_of scale minus (decimal (n / 10 ^ scale) ++ places_text scale n) ≡ Some (record { digits = with_sign minus n; scale = scale })
decimal_is_read scale minus n small = by (scale == 0) refl where
  whole : decimal_of 0 minus (decimal (n / 1) ++ []) ≡ Some (record { digits = with_sign minus n; scale = 0 })
  whole =
      let same : n / 1 ≡ n = omega arith in
      ap (decimal_of 0 minus) (append-nil (decimal (n / 1)) ∙ ap decimal same) ∙ whole_is_read minus n small

  by : (none : Bool) → (scale == 0) ≡ none → decimal_of scale minus (decimal (n / 10 ^ scale) ++ cond none [] (46 ∷ digits_of scale n)) ≡ Some (record { digits = with_sign minus n; scale = scale })
  by false told = pointed_is_read scale minus n small
  by true told = subst (λ (s : ℕ). decimal_of s minus (decimal (n / 10 ^ s) ++ []) ≡ Some (let d : Dec = record { digits = with_sign minus n; scale = s } in d)) (sym (eqb-true scale 0 told)) whole
