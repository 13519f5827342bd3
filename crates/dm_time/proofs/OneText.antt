-- A stamp has one text: two civil times of the same second are the same, and so are two texts of the same moment.
use Rattle.std.proofs.Common.{◌≡◌, ℕ, zero, suc, ◌+◌, ◌-◌, ◌*◌, ◌/◌, ◌%◌, ◌^◌, ◌<◌, ◌≤◌, nat_le, Bool, true, false, cond, ◌&&◌, ◌==◌, if◌then◌else◌, List, [], ◌∷◌, ◌++◌, length, take, drop, fold, replicate, refl, sym, ap, ◌∙◌, subst, arith, Option, Some, None, option_and_then}
use Rattle.std.specs.List.{list_all}
use Rattle.std.proofs.lemmas.Bool.Decides.{nat_tests}
use Rattle.dm_value.specs.declared.value.Day.{Day}
use Rattle.dm_value.specs.declared.value.Moment.{Moment}
use Rattle.dm_value.specs.declared.value.Stamp.{Stamp}
use Rattle.dm_schema.specs.Kinds.{is_between}
use Rattle.dm_time.specs.Civil.{days_in_month, days_before_year, days_before_month, days_before, is_date, is_civil, seconds_of}
use Rattle.dm_time.specs.Texts.{with_digit, number_of, has_shape, moment_of, micros_of, day_at_front, part, stamp_at, is_zero_moment, is_stamp_moment, IsTextOf}
use Rattle.std.proofs.lemmas.List.{drop-drop, take-append-drop, length-drop}
use Rattle.std.proofs.lemmas.Nat.{div-mul-add, mod-mul-add}
use Rattle.std.proofs.Math.Nat.{one-le-pow, pow-suc, eq_of_mul-eq-mul_right}
use Rattle.dm_time.proofs.Calendar.{month_more, year_length}
use Rattle.dm_time.proofs.Decimals.{digits_below, filled_up}
use Rattle.dm_time.proofs.Shapes.{both, moment_shape, part_has_shape, IsReadAs, moment_read}

-- later months have more days before them
months_rise : (year month more : ℕ) → 1 ≤ month → days_before_month year month ≤ days_before_month year (month + more)
months_rise year month zero some = let e : month ≡ month + 0 = omega arith in subst (λ (n : ℕ). days_before_month year month ≤ days_before_month year n) e (omega arith)
months_rise year month (suc more) some =
    let rest = months_rise year month more some in
    let next : days_before_month year (month + more + 1) ≡ days_before_month year (month + more) + days_in_month year (month + more) = month_more year (month + more) (omega arith) in
    let e : month + more + 1 ≡ month + suc more = omega arith in
    subst (λ (n : ℕ). days_before_month year month ≤ days_before_month year n) e (omega arith)

month_before : (year month later : ℕ) → 1 ≤ month → month < later → days_before_month year month + days_in_month year month ≤ days_before_month year later
month_before year month later some before =
    let next = month_more year month some in
    let rise = months_rise year (month + 1) (later - (month + 1)) (omega arith) in
    let e : month + 1 + (later - (month + 1)) ≡ later = omega arith in
    subst (λ (n : ℕ). days_before_month year month + days_in_month year month ≤ days_before_month year n) e (omega arith)

-- a day of the calendar
pub record IsDay (year month day : ℕ) : Type 0 where
  pub from : 1 ≤ year
  pub first : 1 ≤ month
  pub last : month ≤ 12
  pub some : 1 ≤ day
  pub most : day ≤ days_in_month year month

in_year : (y m d : ℕ) → IsDay y m d → days_before_year y + days_before_month y m + (d - 1) < days_before_year (y + 1)
in_year y m d is = omega (arith, year_length y is.from, month_before y m 13 is.first (omega (arith, is.last)), is.most, is.some)

years_rise : (y z : ℕ) → y < z → days_before_year (y + 1) ≤ days_before_year z
years_rise y z before = omega arith

no_earlier_year : (y m d z n e : ℕ) → IsDay y m d → y < z → days_before_year y + days_before_month y m + (d - 1) ≡ days_before_year z + days_before_month z n + (e - 1) → ⊥
no_earlier_year y m d z n e is before same = omega (arith, in_year y m d is, years_rise y z before)

no_earlier_month : (y m d n e : ℕ) → IsDay y m d → m < n → days_before_year y + days_before_month y m + (d - 1) ≡ days_before_year y + days_before_month y n + (e - 1) → ⊥
no_earlier_month y m d n e is before same = omega (arith, month_before y m n is.first before, is.most, is.some)

pub is_day : (d : Day) → 1 ≤ d.year → is_date d ≡ true → IsDay d.year d.month d.day
is_day d from is = parts d.year d.month d.day (days_in_month d.year d.month) refl from is where
  parts : (y m day length : ℕ) → days_in_month y m ≡ length → 1 ≤ y → (is_between 1 12 m && is_between 1 length day) ≡ true → IsDay y m day
  parts y m day length long from is =
      let each = both (is_between 1 12 m) (is_between 1 length day) is in
      let most : day ≤ length = grind (arith, nat_tests, each.1) in
      record {
        from = from;
        first = grind (arith, nat_tests, each.0);
        last = grind (arith, nat_tests, each.0);
        some = grind (arith, nat_tests, each.1);
        most = omega (arith, long);
      }

pub same_day : (y m d z n e : ℕ) → IsDay y m d → IsDay z n e → days_before_year y + days_before_month y m + (d - 1) ≡ days_before_year z + days_before_month z n + (e - 1) → (y ≡ z) × (m ≡ n) × (d ≡ e)
same_day y m d z n e isy isz same =
    let not_before : y < z → ⊥ = λ before. no_earlier_year y m d z n e isy before same in
    let not_behind : z < y → ⊥ = λ before. no_earlier_year z n e y m d isz before (sym same) in
    let year : z ≡ y = omega arith in
    in_one y m d z n e isy (subst (λ (z : ℕ). IsDay z n e) year isz) year (same ∙ ap (λ (z : ℕ). days_before_year z + days_before_month z n + (e - 1)) year) where
      in_one : (y m d z n e : ℕ) → IsDay y m d → IsDay y n e → z ≡ y → days_before_year y + days_before_month y m + (d - 1) ≡ days_before_year y + days_before_month y n + (e - 1) → (y ≡ z) × (m ≡ n) × (d ≡ e)
      in_one y m d z n e isy isz year same =
          let not_before : m < n → ⊥ = λ before. no_earlier_month y m d n e isy before same in
          let not_behind : n < m → ⊥ = λ before. no_earlier_month y n e m d isz before (sym same) in
          let month : m ≡ n = omega arith in
          let before : days_before_month y m ≡ days_before_month y n = ap (days_before_month y) month in
          (sym year, month, omega (arith, isy.some, isz.some, before, same))

-- what is told of a moment that has a stamp
record HasSeconds (m : Moment) : Type 0 where
  date : is_date m.day ≡ true
  year : 1970 ≤ m.day.year
  hour : m.hour ≤ 23
  minute : m.minute ≤ 59
  second : m.second ≤ 59

has_seconds : (m : Moment) → is_stamp_moment m ≡ true → HasSeconds m
has_seconds m told =
    let ends = both (is_civil m && nat_le 1970 m.day.year) (is_between 1 2147483647 (seconds_of m)) told in
    let civil = both (is_civil m) (nat_le 1970 m.day.year) ends.0 in
    let second = both (is_date m.day && nat_le m.hour 23 && nat_le m.minute 59) (nat_le m.second 59) civil.0 in
    let minute = both (is_date m.day && nat_le m.hour 23) (nat_le m.minute 59) second.0 in
    let hour = both (is_date m.day) (nat_le m.hour 23) minute.0 in
    record {
      date = hour.0;
      year = grind (arith, nat_tests, civil.1);
      hour = grind (arith, nat_tests, hour.1);
      minute = grind (arith, nat_tests, minute.1);
      second = grind (arith, nat_tests, second.1);
    }

from_epoch : (y m d : ℕ) → 1970 ≤ y → 719162 ≤ days_before_year y + days_before_month y m + (d - 1)
from_epoch y m d le = omega arith

same_clock : (a h i s b k j t : ℕ) → h ≤ 23 → i ≤ 59 → s ≤ 59 → k ≤ 23 → j ≤ 59 → t ≤ 59 → 86400 * a + 3600 * h + 60 * i + s ≡ 86400 * b + 3600 * k + 60 * j + t → (a ≡ b) × (h ≡ k) × (i ≡ j) × (s ≡ t)
same_clock a h i s b k j t h1 h2 h3 h4 h5 h6 same = (omega arith, omega arith, omega arith, omega arith)

-- civil times of one second are the same
same_moment : (m k : Moment) → is_stamp_moment m ≡ true → is_stamp_moment k ≡ true → seconds_of m ≡ seconds_of k → m.micros ≡ k.micros → m ≡ k
same_moment m k stamped stamped_too seconds micros =
    let a = has_seconds m stamped in
    let b = has_seconds k stamped_too in
    let clock = same_clock (days_before m.day - 719162) m.hour m.minute m.second (days_before k.day - 719162) k.hour k.minute k.second a.hour a.minute a.second b.hour b.minute b.second seconds in
    let days : days_before m.day ≡ days_before k.day = omega (arith, clock.0, from_epoch m.day.year m.day.month m.day.day a.year, from_epoch k.day.year k.day.month k.day.day b.year) in
    let day = same_day m.day.year m.day.month m.day.day k.day.year k.day.month k.day.day (is_day m.day (omega (arith, a.year)) a.date) (is_day k.day (omega (arith, b.year)) b.date) days in
    λ i. record { day = record { year = day.0 i; month = day.1 i; day = day.2 i }; hour = clock.1 i; minute = clock.2 i; second = clock.3 i; micros = micros i }

no_stamp : (seconds : ℕ) → is_between 1 2147483647 seconds ≡ true → seconds ≡ 0 → ⊥
no_stamp seconds between none = omega (arith, some) where
  some : 1 ≤ seconds
  some = grind (arith, nat_tests, between)

abbrev moment_with : ℕ → ℕ → ℕ → ℕ → ℕ → ℕ → ℕ → Moment
moment_with y m d h i s f = record { day = record { year = y; month = m; day = d }; hour = h; minute = i; second = s; micros = f }

all_zero : (m : Moment) → is_zero_moment m ≡ true → m ≡ moment_with 0 0 0 0 0 0 0
all_zero m told = fields m.day.year m.day.month m.day.day m.hour m.minute m.second m.micros told where
  none : (n : ℕ) → (n == 0) ≡ true → n ≡ 0
  none n e = grind (arith, nat_tests)

  fields : (y mo d h mi s f : ℕ) → (y == 0 && mo == 0 && d == 0 && h == 0 && mi == 0 && s == 0 && f == 0) ≡ true → moment_with y mo d h mi s f ≡ moment_with 0 0 0 0 0 0 0
  fields y mo d h mi s f told =
      let e6 = both (y == 0 && mo == 0 && d == 0 && h == 0 && mi == 0 && s == 0) (f == 0) told in
      let e5 = both (y == 0 && mo == 0 && d == 0 && h == 0 && mi == 0) (s == 0) e6.0 in
      let e4 = both (y == 0 && mo == 0 && d == 0 && h == 0) (mi == 0) e5.0 in
      let e3 = both (y == 0 && mo == 0 && d == 0) (h == 0) e4.0 in
      let e2 = both (y == 0 && mo == 0) (d == 0) e3.0 in
      let e1 = both (y == 0) (mo == 0) e2.0 in
      λ i. moment_with (none y e1.0 i) (none mo e1.1 i) (none d e2.1 i) (none h e3.1 i) (none mi e4.1 i) (none s e5.1 i) (none f e6.1 i)

abbrev stamp_with : ℕ → ℕ → Stamp
stamp_with seconds micros = record { seconds = seconds; micros = micros }

same_stamp : (a b c d : ℕ) (s : Stamp) → Some (stamp_with a b) ≡ Some s → Some (stamp_with c d) ≡ Some s → (a ≡ c) × (b ≡ d)
same_stamp a b c d s left right =
    let same : stamp_with a b ≡ stamp_with c d = cc in
    (ap (λ (s : Stamp). s.seconds) same, ap (λ (s : Stamp). s.micros) same)

not_none : (s : Stamp) → None ≡ Some s → ⊥
not_none s e = cc

-- a stamp is that of one moment
pub one_moment : (s : Stamp) (m k : Moment) → stamp_at m ≡ Some s → stamp_at k ≡ Some s → m ≡ k
one_moment s m k at at_too = by (is_zero_moment m) (is_stamp_moment m) (is_zero_moment k) (is_stamp_moment k) refl refl refl refl at at_too where
  ends : (m : Moment) → is_stamp_moment m ≡ true → seconds_of m ≡ 0 → ⊥
  ends m told none = no_stamp (seconds_of m) (both (is_civil m && nat_le 1970 m.day.year) (is_between 1 2147483647 (seconds_of m)) told).1 none

  by : (a b c d : Bool) → is_zero_moment m ≡ a → is_stamp_moment m ≡ b → is_zero_moment k ≡ c → is_stamp_moment k ≡ d → cond a (Some (stamp_with 0 0)) (cond b (Some (stamp_with (seconds_of m) m.micros)) None) ≡ Some s → cond c (Some (stamp_with 0 0)) (cond d (Some (stamp_with (seconds_of k) k.micros)) None) ≡ Some s → m ≡ k
  by true b true d zero_m eb zero_k ed at at_too = all_zero m zero_m ∙ sym (all_zero k zero_k)
  by true b false true zero_m eb ec ed at at_too = absurd (ends k ed (sym (same_stamp 0 0 (seconds_of k) k.micros s at at_too).0))
  by true b false false zero_m eb ec ed at at_too = absurd (not_none s at_too)
  by false true true d ea eb zero_k ed at at_too = absurd (ends m eb (same_stamp (seconds_of m) m.micros 0 0 s at at_too).0)
  by false true false true ea eb ec ed at at_too =
      let same = same_stamp (seconds_of m) m.micros (seconds_of k) k.micros s at at_too in
      same_moment m k eb ed same.0 same.1
  by false true false false ea eb ec ed at at_too = absurd (not_none s at_too)
  by false false c d ea eb ec ed at at_too = absurd (not_none s at)

fold_from : (n : ℕ) (digits : List ℕ) → fold with_digit n digits ≡ n * 10 ^ length digits + number_of digits
fold_from n [] = omega arith
fold_from n (d ∷ digits) = fold_from (with_digit n d) digits ∙ (rw (pow-suc 10 (length digits), fold_from (with_digit 0 d) digits) (omega arith))

apart : (a b u r t : ℕ) → r < u → t < u → a * u + r ≡ b * u + t → (a ≡ b) × (r ≡ t)
apart a b u r t below below_too same = (
  sym (div-mul-add a u r below) ∙ ap (λ n. n / u) same ∙ div-mul-add b u t below_too,
  sym (mod-mul-add a u r below) ∙ ap (λ n. n % u) same ∙ mod-mul-add b u t below_too,
)

below_unit : (digits : List ℕ) → list_all (is_between 48 57) digits ≡ true → number_of digits < 10 ^ length digits
below_unit digits all = omega (arith, digits_below 0 digits all)

-- digits of one number
same_digits : (xs ys : List ℕ) → length xs ≡ length ys → list_all (is_between 48 57) xs ≡ true → list_all (is_between 48 57) ys ≡ true → number_of xs ≡ number_of ys → xs ≡ ys
same_digits [] [] long all all_too same = refl
same_digits [] (y ∷ ys) long all all_too same = absurd (omega arith)
same_digits (x ∷ xs) [] long all all_too same = absurd (omega arith)
same_digits (x ∷ xs) (y ∷ ys) long all all_too same =
    let at_x = both (is_between 48 57 x) (list_all (is_between 48 57) xs) all in
    let at_y = both (is_between 48 57 y) (list_all (is_between 48 57) ys) all_too in
    let rest : length xs ≡ length ys = omega arith in
    let unit : 10 ^ length ys ≡ 10 ^ length xs = ap (λ k. 10 ^ k) (sym rest) in
    let below : number_of ys < 10 ^ length xs = omega (arith, below_unit ys at_y.1, unit) in
    let sums : with_digit 0 x * 10 ^ length xs + number_of xs ≡ with_digit 0 y * 10 ^ length xs + number_of ys = sym (fold_from (with_digit 0 x) xs) ∙ same ∙ fold_from (with_digit 0 y) ys ∙ ap (λ u. with_digit 0 y * u + number_of ys) unit in
    let parts = apart (with_digit 0 x) (with_digit 0 y) (10 ^ length xs) (number_of xs) (number_of ys) (below_unit xs at_x.1) below sums in
    let first : x ≡ y = digit x y at_x.0 at_y.0 parts.0 in
    let behind : xs ≡ ys = same_digits xs ys rest at_x.1 at_y.1 parts.1 in
    λ i. first i ∷ behind i where
      digit : (x y : ℕ) → is_between 48 57 x ≡ true → is_between 48 57 y ≡ true → with_digit 0 x ≡ with_digit 0 y → x ≡ y
      digit x y at_x at_y same =
          let low : 48 ≤ x = grind (arith, nat_tests, at_x) in
          let low_too : 48 ≤ y = grind (arith, nat_tests, at_y) in
          omega arith

-- so many digits on end in a shape
run_digits : (count : ℕ) (text : List ℕ) → has_shape (replicate count 48) text ≡ true → (list_all (is_between 48 57) text ≡ true) × (length text ≡ count)
run_digits zero [] h = (refl, refl)
run_digits zero (x ∷ text) h = absurd (apart_bools h) where
  apart_bools : false ≡ true → ⊥
  apart_bools e = cc
run_digits (suc count) [] h = absurd (apart_bools h) where
  apart_bools : false ≡ true → ⊥
  apart_bools e = cc
run_digits (suc count) (x ∷ text) h =
    let parts = both (is_between 48 57 x) (has_shape (replicate count 48) text) h in
    let rest = run_digits count text parts.1 in
    (rw (parts.0, rest.0) refl, omega (arith, rest.1))

-- two texts of moments
record AreMoments (a b : List ℕ) : Type 0 where
  left : has_shape moment_shape (take 19 a) ≡ true
  right : has_shape moment_shape (take 19 b) ≡ true

seam : (from count : ℕ) (a b : List ℕ) → take count (drop from a) ≡ take count (drop from b) → drop (from + count) a ≡ drop (from + count) b → drop from a ≡ drop from b
seam from count a b front behind =
    let rest : drop count (drop from a) ≡ drop count (drop from b) = drop-drop count from a ∙ behind ∙ sym (drop-drop count from b) in
    sym (take-append-drop count (drop from a)) ∙ (λ i. front i ++ rest i) ∙ take-append-drop count (drop from b)

-- a number at one place
number_seam : (from count more : ℕ) (a b : List ℕ) → AreMoments a b → from + more ≡ 19 → count ≤ more → take count (drop from moment_shape) ≡ replicate count 48 → part from count a ≡ part from count b → drop (from + count) a ≡ drop (from + count) b → drop from a ≡ drop from b
number_seam from count more a b are whole le digits same behind =
    let left = run_digits count (take count (drop from a)) (at a are.left) in
    let right = run_digits count (take count (drop from b)) (at b are.right) in
    seam from count a b (same_digits (take count (drop from a)) (take count (drop from b)) (left.1 ∙ sym right.1) left.0 right.0 same) behind where
      at : (text : List ℕ) → has_shape moment_shape (take 19 text) ≡ true → has_shape (replicate count 48) (take count (drop from text)) ≡ true
      at text h = subst (λ (s : List ℕ). has_shape s (take count (drop from text)) ≡ true) digits (part_has_shape from count more moment_shape text le (subst (λ (n : ℕ). has_shape moment_shape (take n text) ≡ true) (sym whole) h))

sign_told : (sign : ℕ) (text : List ℕ) → (sign == 48) ≡ false → has_shape (sign ∷ []) text ≡ true → text ≡ sign ∷ []
sign_told sign [] other h = cc
sign_told sign (x ∷ []) other h = first (x == sign) refl (rw other at h) where
  first : (b : Bool) → (x == sign) ≡ b → (b && true) ≡ true → x ∷ [] ≡ sign ∷ []
  first true e h = let same : x ≡ sign = grind (arith, nat_tests) in ap (λ (n : ℕ). n ∷ []) same
  first false e h = cc
sign_told sign (x ∷ y ∷ text) other h = absurd (not_true (both (if sign == 48 then is_between 48 57 x else x == sign) false h).1) where
  not_true : false ≡ true → ⊥
  not_true e = cc

-- a sign between two numbers
sign_seam : (from more sign : ℕ) (a b : List ℕ) → AreMoments a b → from + more ≡ 19 → 1 ≤ more → (sign == 48) ≡ false → take 1 (drop from moment_shape) ≡ sign ∷ [] → drop (from + 1) a ≡ drop (from + 1) b → drop from a ≡ drop from b
sign_seam from more sign a b are whole le other signs behind =
    seam from 1 a b (sign_told sign (take 1 (drop from a)) other (at a are.left) ∙ sym (sign_told sign (take 1 (drop from b)) other (at b are.right))) behind where
      at : (text : List ℕ) → has_shape moment_shape (take 19 text) ≡ true → has_shape (sign ∷ []) (take 1 (drop from text)) ≡ true
      at text h = subst (λ (s : List ℕ). has_shape s (take 1 (drop from text)) ≡ true) signs (part_has_shape from 1 more moment_shape text le (subst (λ (n : ℕ). has_shape moment_shape (take n text) ≡ true) (sym whole) h))

-- a fraction has one text of its length
same_fraction : (most micros : ℕ) (a b : List ℕ) → length a ≡ length b → micros_of most a ≡ Some micros → micros_of most b ≡ Some micros → a ≡ b
same_fraction most micros [] [] long read read_too = refl
same_fraction most micros [] (q ∷ ys) long read read_too = absurd (omega arith)
same_fraction most micros (p ∷ xs) [] long read read_too = absurd (omega arith)
same_fraction most micros (p ∷ xs) (q ∷ ys) long read read_too =
    let left = told p xs read in
    let right = told q ys read_too in
    let rest : length xs ≡ length ys = omega arith in
    let points : p ≡ q = left.0 ∙ sym right.0 in
    let digits : xs ≡ ys = same_digits xs ys rest left.1 right.1 (numbers xs ys rest (left.2 ∙ sym right.2)) in
    λ i. points i ∷ digits i where
      told : (p : ℕ) (xs : List ℕ) → micros_of most (p ∷ xs) ≡ Some micros → (p ≡ 46) × (list_all (is_between 48 57) xs ≡ true) × (number_of (xs ++ replicate (6 - length xs) 48) ≡ micros)
      told p xs read = by (p == 46 && nat_le (length xs) most && list_all (is_between 48 57) xs) refl read where
        by : (b : Bool) → (p == 46 && nat_le (length xs) most && list_all (is_between 48 57) xs) ≡ b → cond b (Some (number_of (xs ++ replicate (6 - length xs) 48))) None ≡ Some micros → (p ≡ 46) × (list_all (is_between 48 57) xs ≡ true) × (number_of (xs ++ replicate (6 - length xs) 48) ≡ micros)
        by true e read =
            let parts = both (p == 46 && nat_le (length xs) most) (list_all (is_between 48 57) xs) e in
            let point = both (p == 46) (nat_le (length xs) most) parts.0 in
            (grind (arith, nat_tests, point.0), parts.1, cc)
        by false e read = cc

      numbers : (xs ys : List ℕ) → length xs ≡ length ys → number_of (xs ++ replicate (6 - length xs) 48) ≡ number_of (ys ++ replicate (6 - length ys) 48) → number_of xs ≡ number_of ys
      numbers xs ys rest same =
          let unit : 1 ≤ 10 ^ (6 - length xs) = one-le-pow (6 - length xs) 10 (omega arith) in
          let sums : number_of xs * 10 ^ (6 - length xs) ≡ number_of ys * 10 ^ (6 - length xs) = sym (filled_up xs (6 - length xs)) ∙ same ∙ filled_up ys (6 - length ys) ∙ ap (λ k. number_of ys * 10 ^ (6 - k)) (sym rest) in
          eq_of_mul-eq-mul_right (10 ^ (6 - length xs)) unit (number_of xs) (number_of ys) sums

-- a moment has one text of its length
same_text : (most : ℕ) (m : Moment) (a b : List ℕ) → length a ≡ length b → IsReadAs most a m → IsReadAs most b m → a ≡ b
same_text most m a b long left right =
    let are : AreMoments a b = record { left = left.shaped; right = right.shaped } in
    let lengths : length (drop 19 a) ≡ length (drop 19 b) = length-drop 19 a ∙ ap (λ n. n - 19) long ∙ sym (length-drop 19 b) in
    let day : day_at_front a ≡ day_at_front b = left.day ∙ sym right.day in
    let at_19 = same_fraction most m.micros (drop 19 a) (drop 19 b) lengths left.micros right.micros in
    let at_17 = number_seam 17 2 2 a b are refl (omega arith) refl (left.second ∙ sym right.second) at_19 in
    let at_16 = sign_seam 16 3 58 a b are refl (omega arith) refl refl at_17 in
    let at_14 = number_seam 14 2 5 a b are refl (omega arith) refl (left.minute ∙ sym right.minute) at_16 in
    let at_13 = sign_seam 13 6 58 a b are refl (omega arith) refl refl at_14 in
    let at_11 = number_seam 11 2 8 a b are refl (omega arith) refl (left.hour ∙ sym right.hour) at_13 in
    let at_10 = sign_seam 10 9 32 a b are refl (omega arith) refl refl at_11 in
    let at_8 = number_seam 8 2 11 a b are refl (omega arith) refl (ap (λ (d : Day). d.day) day) at_10 in
    let at_7 = sign_seam 7 12 45 a b are refl (omega arith) refl refl at_8 in
    let at_5 = number_seam 5 2 14 a b are refl (omega arith) refl (ap (λ (d : Day). d.month) day) at_7 in
    let at_4 = sign_seam 4 15 45 a b are refl (omega arith) refl refl at_5 in
    number_seam 0 4 19 a b are refl (omega arith) refl (ap (λ (d : Day). d.year) day) at_4

-- a stamp has one text with so many digits
pub one_text : (digits : ℕ) (s : Stamp) (a b : List ℕ) → IsTextOf s digits a → IsTextOf s digits b → a ≡ b
one_text digits s a b left right = by (moment_of digits a) (moment_of digits b) refl refl left.read right.read where
  by : (o p : Option Moment) → moment_of digits a ≡ o → moment_of digits b ≡ p → option_and_then stamp_at o ≡ Some s → option_and_then stamp_at p ≡ Some s → a ≡ b
  by None p read read_too at at_too = absurd (not_none s at)
  by (Some m) None read read_too at at_too = absurd (not_none s at_too)
  by (Some m) (Some k) read read_too at at_too =
      let same : k ≡ m = one_moment s k m at_too at in
      same_text digits m a b (left.whole ∙ sym right.whole) (moment_read digits a m read) (moment_read digits b m (read_too ∙ ap (λ (k : Moment). Some k) same))
