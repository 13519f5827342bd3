-- What the shape of a text tells of its parts.
use Rattle.std.proofs.Common.{◌≡◌, ℕ, zero, suc, ◌+◌, ◌≤◌, Bool, true, false, ◌&&◌, List, [], ◌∷◌, take, drop, codes, None, Some, Option, refl, sym, ap, ◌∙◌, subst, arith}
use Rattle.std.specs.List.{list_all}
use Rattle.std.specs.Option.{option_map}
use Rattle.std.specs.Cmp.Lexicographic.{pointwise}
use Rattle.std.proofs.lemmas.List.{drop-take, take-take}
use Rattle.dm_value.specs.declared.value.Moment.{Moment}
use Rattle.dm_schema.specs.Kinds.{is_between}
use Rattle.dm_time.specs.Texts.{has_shape, moment_of, day_at_front, micros_of, part}

pub both : (a b : Bool) → (a && b) ≡ true → (a ≡ true) × (b ≡ true)
both true b h = (refl, h)
both false b h = cc

behind_and : (a b : Bool) → (a && b) ≡ true → b ≡ true
behind_and true b h = h
behind_and false b h = cc

and_both : (a b c : Bool) → (a && b) ≡ true → (b ≡ true → c ≡ true) → (a && c) ≡ true
and_both true b c h f = f h
and_both false b c h f = h

take_fits : {A B : Type 0} (E : A → B → Bool) (n : ℕ) (xs : List A) (ys : List B) → pointwise E xs ys ≡ true → pointwise E (take n xs) (take n ys) ≡ true
take_fits E zero xs ys h = refl
take_fits E (suc n) [] [] h = refl
take_fits E (suc n) [] (y ∷ ys) h = cc
take_fits E (suc n) (x ∷ xs) [] h = cc
take_fits E (suc n) (x ∷ xs) (y ∷ ys) h = and_both (E x y) (pointwise E xs ys) _ h (take_fits E n xs ys)

drop_fits : {A B : Type 0} (E : A → B → Bool) (n : ℕ) (xs : List A) (ys : List B) → pointwise E xs ys ≡ true → pointwise E (drop n xs) (drop n ys) ≡ true
drop_fits E zero xs ys h = h
drop_fits E (suc n) [] [] h = refl
drop_fits E (suc n) [] (y ∷ ys) h = cc
drop_fits E (suc n) (x ∷ xs) [] h = cc
drop_fits E (suc n) (x ∷ xs) (y ∷ ys) h = drop_fits E n xs ys (behind_and (E x y) (pointwise E xs ys) h)

part_at : (from count more : ℕ) (text : List ℕ) → count ≤ more → take count (drop from (take (from + more) text)) ≡ take count (drop from text)
part_at from count more text h = ap (take count) (drop-take from more text) ∙ take-take count more (drop from text) h

-- a part of a text with a shape has the shape's part
pub part_has_shape : (from count more : ℕ) (shape text : List ℕ) → count ≤ more → has_shape shape (take (from + more) text) ≡ true → has_shape (take count (drop from shape)) (take count (drop from text)) ≡ true
part_has_shape from count more shape text le h =
    let whole : has_shape (take count (drop from shape)) (take count (drop from (take (from + more) text))) ≡ true = take_fits _ count _ _ (drop_fits _ from shape (take (from + more) text) h) in
    subst (λ (t : List ℕ). has_shape (take count (drop from shape)) t ≡ true) (part_at from count more text le) whole

-- two places of a shape that are digits
pub two_digits : (from more : ℕ) (shape text : List ℕ) → 2 ≤ more → take 2 (drop from shape) ≡ 48 ∷ 48 ∷ [] → has_shape shape (take (from + more) text) ≡ true → list_all (is_between 48 57) (take 2 (drop from text)) ≡ true
two_digits from more shape text le are h =
    digits (take 2 (drop from text)) (subst (λ (s : List ℕ). has_shape s (take 2 (drop from text)) ≡ true) are (part_has_shape from 2 more shape text le h)) where
      digits : (t : List ℕ) → has_shape (48 ∷ 48 ∷ []) t ≡ true → list_all (is_between 48 57) t ≡ true
      digits [] h = cc
      digits (a ∷ []) h = and_both (is_between 48 57 a) false true h (λ e. refl)
      digits (a ∷ b ∷ t) h = and_both (is_between 48 57 a) _ _ h (λ e. and_both (is_between 48 57 b) _ _ e (only t)) where
        only : (t : List ℕ) → has_shape [] t ≡ true → list_all (is_between 48 57) t ≡ true
        only [] h = refl
        only (x ∷ t) h = cc

abbrev pub moment_shape : List ℕ
moment_shape = codes "0000-00-00 00:00:00"

-- what moments are read from
pub record IsMomentText (text : List ℕ) : Type 0 where
  pub day : has_shape (codes "0000-00-00") (take 10 text) ≡ true
  pub hour : list_all (is_between 48 57) (take 2 (drop 11 text)) ≡ true
  pub minute : list_all (is_between 48 57) (take 2 (drop 14 text)) ≡ true
  pub second : list_all (is_between 48 57) (take 2 (drop 17 text)) ≡ true

pub moment_text : (text : List ℕ) → has_shape moment_shape (take 19 text) ≡ true → IsMomentText text
moment_text text h =
    record {
      day = part_has_shape 0 10 19 moment_shape text (omega arith) h;
      hour = two_digits 11 8 moment_shape text (omega arith) refl h;
      minute = two_digits 14 5 moment_shape text (omega arith) refl h;
      second = two_digits 17 2 moment_shape text (omega arith) refl h;
    }

pub shaped_moment : (most : ℕ) (text : List ℕ) → has_shape moment_shape (take 19 text) ≡ true → moment_of most text ≡ option_map (λ (micros : ℕ). record { day = day_at_front text; hour = part 11 2 text; minute = part 14 2 text; second = part 17 2 text; micros = micros }) (micros_of most (drop 19 text))
shaped_moment most text e = rw e refl

pub unshaped_moment : (most : ℕ) (text : List ℕ) → has_shape moment_shape (take 19 text) ≡ false → moment_of most text ≡ None
unshaped_moment most text e = rw e refl

-- a text is read as a moment
pub record IsReadAs (most : ℕ) (text : List ℕ) (m : Moment) : Type 0 where
  pub shaped : has_shape moment_shape (take 19 text) ≡ true
  pub day : day_at_front text ≡ m.day
  pub hour : part 11 2 text ≡ m.hour
  pub minute : part 14 2 text ≡ m.minute
  pub second : part 17 2 text ≡ m.second
  pub micros : micros_of most (drop 19 text) ≡ Some m.micros

pub moment_read : (most : ℕ) (text : List ℕ) (m : Moment) → moment_of most text ≡ Some m → IsReadAs most text m
moment_read most text m read = by (has_shape moment_shape (take 19 text)) refl where
  by : (b : Bool) → has_shape moment_shape (take 19 text) ≡ b → IsReadAs most text m
  by true e = fields (micros_of most (drop 19 text)) refl (sym (shaped_moment most text e) ∙ read) where
    fields : (o : Option ℕ) → micros_of most (drop 19 text) ≡ o → option_map (λ (micros : ℕ). record { day = day_at_front text; hour = part 11 2 text; minute = part 14 2 text; second = part 17 2 text; micros = micros }) o ≡ Some m → IsReadAs most text m
    fields None told is = cc
    fields (Some micros) told is =
        let same : record { day = day_at_front text; hour = part 11 2 text; minute = part 14 2 text; second = part 17 2 text; micros = micros } ≡ m = cc in
        record {
          shaped = e;
          day = ap (λ (k : Moment). k.day) same;
          hour = ap (λ (k : Moment). k.hour) same;
          minute = ap (λ (k : Moment). k.minute) same;
          second = ap (λ (k : Moment). k.second) same;
          micros = told ∙ ap (λ (n : ℕ). Some n) (ap (λ (k : Moment). k.micros) same);
        }
  by false e = let none : None ≡ Some m = sym (unshaped_moment most text e) ∙ read in cc
