-- What is so of each lexeme: it is a part of the text, and some kinds say more of their bytes.
use Rattle.std.proofs.Common.{◌≡◌, ℕ, zero, suc, ◌+◌, ◌-◌, ◌<◌, ◌≤◌, Bool, true, false, not, cond, List, [], ◌∷◌, length, take, drop, Option, Some, None, IfSome, refl, ap, ◌∙◌, arith, eqb, ◌&&◌, ◌||◌, ◌⊎◌, inl, inr}
use Rattle.std.specs.Prelude.{⊤}
use Rattle.std.specs.List.{prefix_len, position_or_len, list_all}
use Rattle.std.proofs.lemmas.Bool.{eqb-true, not-true, not-false, and_parts, or_left, or_cases, cond_both}
use Rattle.std.proofs.lemmas.List.{length-drop, length-take-le, drop-take, take-take}
use Rattle.std.proofs.lemmas.List.Sums.{prefix_len-le-length}
use Rattle.dm_lex.specs.declared.lexeme.Lexeme.{Lexeme}
use Rattle.dm_lex.specs.declared.lexeme.Lexeme.TheVariants.{Gap, Piece, Open, NotHex}
use Rattle.dm_lex.specs.declared.token.TokenKind.{TokenKind}
use Rattle.dm_lex.specs.declared.token.TokenKind.TheVariants.{Word, Quoted, Text, Hex, Number, Mark}
use Rattle.dm_lex.specs.Literals.{hex_digits}
use Rattle.dm_lex.specs.Lexemes.{is_blank, is_digit, is_hex_digit, begins_word, is_word_byte, is_quote, is_hex, at_front, starts, longer, closed_length, string_length, name_length, comment_length, line_length, digits_length, number_length, enclosed, quoted_hex, begins_dashes, first_of, lexeme_of}

-- what a kind says of its bytes
abbrev pub KindSays : TokenKind → List ℕ → Type 0
KindSays Word bytes = list_all is_word_byte bytes ≡ true
KindSays Quoted bytes = ⊤
KindSays Text bytes = at_front is_quote bytes ≡ true
KindSays Hex bytes = list_all is_hex_digit (hex_digits bytes) ≡ true
KindSays Number bytes = ⊤
KindSays Mark bytes = ⊤

abbrev pub IsPart : List ℕ → ℕ → Type 0
IsPart bs n = (1 ≤ n) × (n ≤ length bs)

abbrev pub IsSound : List ℕ → Lexeme → Type 0
IsSound bs (Gap n) = IsPart bs n
IsSound bs (Piece kind n) = (1 ≤ n) × (n ≤ length bs) × KindSays kind (take n bs)
IsSound bs Open = ⊤
IsSound bs NotHex = ⊤

-- The byte at a front.

front_within : (p : ℕ → Bool) (i : ℕ) (bs : List ℕ) → at_front p (drop i bs) ≡ true → i < length bs
front_within p zero [] h = absurd cc
front_within p zero (b ∷ bs) h = omega arith
front_within p (suc i) [] h = absurd cc
front_within p (suc i) (b ∷ bs) h = omega (arith, front_within p i bs h)

front_weaker : (p q : ℕ → Bool) → ((b : ℕ) → p b ≡ true → q b ≡ true) → (bs : List ℕ) → at_front p bs ≡ true → at_front q bs ≡ true
front_weaker p q weaker [] h = h
front_weaker p q weaker (b ∷ bs) h = weaker b h

front_of_take : (p : ℕ → Bool) (n : ℕ) (bs : List ℕ) → 1 ≤ n → at_front p bs ≡ true → at_front p (take n bs) ≡ true
front_of_take p zero bs some h = absurd (omega arith)
front_of_take p (suc n) [] some h = h
front_of_take p (suc n) (b ∷ bs) some h = h

prefix_some : (p : ℕ → Bool) (bs : List ℕ) → at_front p bs ≡ true → 1 ≤ prefix_len p bs
prefix_some p [] h = absurd cc
prefix_some p (b ∷ bs) h = rw h (omega arith)

all_of_prefix : (p : ℕ → Bool) (bs : List ℕ) → list_all p (take (prefix_len p bs) bs) ≡ true
all_of_prefix p [] = refl
all_of_prefix p (b ∷ bs) = by (p b) refl (all_of_prefix p bs) where
  by : (t : Bool) → p b ≡ t → list_all p (take (prefix_len p bs) bs) ≡ true → list_all p (take (cond t (1 + prefix_len p bs) 0) (b ∷ bs)) ≡ true
  by true t h = let more : 1 + prefix_len p bs ≡ suc (prefix_len p bs) = omega arith in rw (more, t) h
  by false t h = refl

-- a line's end is another byte
line_some : (byte : ℕ) (bs : List ℕ) → eqb byte 10 ≡ false → starts byte bs ≡ true → 1 ≤ line_length bs
line_some byte bs other h =
    prefix_some _ bs (front_weaker (λ b. eqb b byte) (λ b. not (eqb b 10)) (λ b same. ap (λ n. not (eqb n 10)) (eqb-true b byte same) ∙ ap not other) bs h)

-- What closes is within the text.

longer_within : (k m n : ℕ) (o : Option ℕ) → k + m ≤ n → IfSome o (λ i. i ≤ m) → IfSome (longer k o) (λ i. i ≤ n)
longer_within k m n None room h = tt
longer_within k m n (Some i) room h = omega arith

comment_within : (bs : List ℕ) → IfSome (comment_length bs) (λ n. n ≤ length bs)
comment_within [] = tt
comment_within (b ∷ []) = tt
comment_within (b ∷ c ∷ bs) = by (eqb b 42 && eqb c 47) (comment_within (c ∷ bs)) where
  by : (t : Bool) → IfSome (comment_length (c ∷ bs)) (λ n. n ≤ length (c ∷ bs)) → IfSome (cond t (Some 2) (longer 1 (comment_length (c ∷ bs)))) (λ n. n ≤ length (b ∷ c ∷ bs))
  by true h = omega arith
  by false h = longer_within 1 (length (c ∷ bs)) (length (b ∷ c ∷ bs)) (comment_length (c ∷ bs)) (omega arith) h

closed_within : (e : ℕ → Bool) (q : ℕ) (bs : List ℕ) → IfSome (closed_length e q bs) (λ n. n ≤ length bs)
closed_within e q [] = tt
closed_within e q (b ∷ []) = by (eqb b q) where
  by : (t : Bool) → IfSome (cond t (Some 1) None) (λ n. n ≤ 1)
  by true = omega arith
  by false = tt
closed_within e q (b ∷ c ∷ bs) = by (e b) (eqb b q) (eqb c q) (closed_within e q bs) (closed_within e q (c ∷ bs)) where
  by : (s t u : Bool) → IfSome (closed_length e q bs) (λ n. n ≤ length bs) → IfSome (closed_length e q (c ∷ bs)) (λ n. n ≤ length (c ∷ bs))
      → IfSome (cond s (longer 2 (closed_length e q bs)) (cond t (cond u (longer 2 (closed_length e q bs)) (Some 1)) (longer 1 (closed_length e q (c ∷ bs))))) (λ n. n ≤ length (b ∷ c ∷ bs))
  by true t u two one = longer_within 2 (length bs) (length (b ∷ c ∷ bs)) (closed_length e q bs) (omega arith) two
  by false true true two one = longer_within 2 (length bs) (length (b ∷ c ∷ bs)) (closed_length e q bs) (omega arith) two
  by false true false two one = omega arith
  by false false u two one = longer_within 1 (length (c ∷ bs)) (length (b ∷ c ∷ bs)) (closed_length e q (c ∷ bs)) (omega arith) one

-- Lexemes, one by one.

comment_sound : (bs : List ℕ) (o : Option ℕ) → 2 ≤ length bs → IfSome o (λ n. n ≤ length (drop 2 bs)) → IsSound bs (enclosed Gap 2 o)
comment_sound bs None some h = tt
comment_sound bs (Some n) some h = let behind = length-drop 2 bs in (omega arith, omega arith)

quoted_sound : (kind : TokenKind) (bs : List ℕ) (o : Option ℕ) → 1 ≤ length bs → ((n : ℕ) → 1 ≤ n → KindSays kind (take n bs)) → IfSome o (λ n. n ≤ length (drop 1 bs)) → IsSound bs (enclosed (Piece kind) 1 o)
quoted_sound kind bs None some says h = tt
quoted_sound kind bs (Some n) some says h = let behind = length-drop 1 bs in (omega arith, omega arith, says (1 + n) (omega arith))

starts_other : (byte : ℕ) (bs : List ℕ) → at_front (λ b. not (eqb b byte)) bs ≡ true → starts byte bs ≡ false
starts_other byte [] h = absurd cc
starts_other byte (b ∷ bs) h = not-true (eqb b byte) h

-- an x isn't a zero
x_other : (bs : List ℕ) → (starts 120 bs || starts 88 bs) ≡ true → at_front (λ b. not (eqb b 48)) bs ≡ true
x_other [] h = absurd cc
x_other (b ∷ bs) h = by (or_cases (eqb b 120) (eqb b 88) h) where
  by : (eqb b 120 ≡ true) ⊎ (eqb b 88 ≡ true) → not (eqb b 48) ≡ true
  by (inl e) = ap (λ n. not (eqb n 48)) (eqb-true b 120 e)
  by (inr e) = ap (λ n. not (eqb n 48)) (eqb-true b 88 e)

digits_in_quotes : (bs : List ℕ) (n : ℕ) → (starts 120 bs || starts 88 bs) ≡ true → 2 + n + 1 ≤ length bs → hex_digits (take (2 + n + 1) bs) ≡ take n (drop 2 bs)
digits_in_quotes bs n x within =
    let other = starts_other 48 (take (2 + n + 1) bs) (front_of_take (λ b. not (eqb b 48)) (2 + n + 1) bs (omega arith) (x_other bs x)) in
    let long : length (take (2 + n + 1) bs) - 3 ≡ n = rw (length-take-le (2 + n + 1) bs within) (omega arith) in
    let more : 2 + n + 1 ≡ 2 + (n + 1) = omega arith in
    rw (other, long, more, drop-take 2 (n + 1) bs, take-take n (n + 1) (drop 2 bs) (omega arith)) refl

quoted_hex_sound : (bs : List ℕ) → (starts 120 bs || starts 88 bs) ≡ true → 2 ≤ length bs → IsSound bs (quoted_hex (drop 2 bs))
quoted_hex_sound bs x some =
    let n = position_or_len (λ b. eqb b 39) (drop 2 bs) in
    cond_both (not (starts 39 (drop n (drop 2 bs)))) Open (cond (is_hex (take n (drop 2 bs))) (Piece Hex (2 + n + 1)) NotHex) (IsSound bs) (λ _. tt)
    (λ closed. cond_both (is_hex (take n (drop 2 bs))) (Piece Hex (2 + n + 1)) NotHex (IsSound bs)
    (λ pairs.
    let behind = length-drop 2 bs in
    let within = front_within (λ b. eqb b 39) n (drop 2 bs) (not-false _ closed) in
    let few : 2 + n + 1 ≤ length bs = omega arith in
    (omega arith, few, rw (digits_in_quotes bs n x few) (and_parts _ (list_all is_hex_digit (take n (drop 2 bs))) pairs).1))
    (λ _. tt))

digits_behind_zero : (bs : List ℕ) (n : ℕ) → starts 48 bs ≡ true → hex_digits (take (2 + n) bs) ≡ take n (drop 2 bs)
digits_behind_zero bs n zero_first =
    let first = front_of_take (λ b. eqb b 48) (2 + n) bs (omega arith) zero_first in
    rw first (drop-take 2 n bs)

number_sound : (bs : List ℕ) → at_front is_digit bs ≡ true → IsSound bs (Piece Number (number_length bs))
number_sound bs digit =
    let n = digits_length bs in
    let some = prefix_some is_digit bs digit in
    let whole = prefix_len-le-length is_digit bs in
    let fraction = prefix_len-le-length is_digit (drop (n + 1) bs) in
    let behind = length-drop (n + 1) bs in
    cond_both (starts 46 (drop n bs)) (n + 1 + digits_length (drop (n + 1) bs)) n (λ k. IsSound bs (Piece Number k))
    (λ point. let within = front_within (λ b. eqb b 46) n bs point in (omega arith, omega arith, tt))
    (λ _. (some, whole, tt))

hex_sound : (bs : List ℕ) → starts 48 bs ≡ true → at_front is_hex_digit (drop 2 bs) ≡ true → IsSound bs (Piece Hex (2 + prefix_len is_hex_digit (drop 2 bs)))
hex_sound bs zero_first h =
    let within = front_within is_hex_digit 2 bs h in
    let digits = prefix_len-le-length is_hex_digit (drop 2 bs) in
    let behind = length-drop 2 bs in
    (omega arith, omega arith, rw (digits_behind_zero bs (prefix_len is_hex_digit (drop 2 bs)) zero_first) (all_of_prefix is_hex_digit (drop 2 bs)))

word_sound : (bs : List ℕ) → at_front begins_word bs ≡ true → IsSound bs (Piece Word (prefix_len is_word_byte bs))
word_sound bs h =
    (prefix_some is_word_byte bs (front_weaker begins_word is_word_byte (λ b. or_left (begins_word b) (is_digit b)) bs h), prefix_len-le-length is_word_byte bs, all_of_prefix is_word_byte bs)

point_sound : (bs : List ℕ) → at_front is_digit (drop 1 bs) ≡ true → IsSound bs (Piece Number (1 + digits_length (drop 1 bs)))
point_sound bs h =
    let within = front_within is_digit 1 bs h in
    let digits = prefix_len-le-length is_digit (drop 1 bs) in
    let behind = length-drop 1 bs in
    (omega arith, omega arith, tt)

string_says : (quote : ℕ) (bs : List ℕ) → is_quote quote ≡ true → starts quote bs ≡ true → (n : ℕ) → 1 ≤ n → at_front is_quote (take n bs) ≡ true
string_says quote bs is h n some =
    front_of_take is_quote n bs some (front_weaker (λ b. eqb b quote) is_quote (λ b same. ap is_quote (eqb-true b quote same) ∙ is) bs h)

-- The table of lexemes, whose rows are sound one by one.

abbrev rows : List ℕ → List (Bool × Lexeme)
rows bs =
    (at_front is_blank bs, Gap 1)
    ∷ (starts 35 bs, Gap (line_length bs))
    ∷ (begins_dashes bs, Gap (line_length bs))
    ∷ (starts 47 bs && starts 42 (drop 1 bs), enclosed Gap 2 (comment_length (drop 2 bs)))
    ∷ (starts 96 bs, enclosed (Piece Quoted) 1 (name_length (drop 1 bs)))
    ∷ (starts 39 bs, enclosed (Piece Text) 1 (string_length 39 (drop 1 bs)))
    ∷ (starts 34 bs, enclosed (Piece Text) 1 (string_length 34 (drop 1 bs)))
    ∷ ((starts 120 bs || starts 88 bs) && starts 39 (drop 1 bs), quoted_hex (drop 2 bs))
    ∷ (starts 48 bs && starts 120 (drop 1 bs) && at_front is_hex_digit (drop 2 bs), Piece Hex (2 + prefix_len is_hex_digit (drop 2 bs)))
    ∷ (at_front begins_word bs, Piece Word (prefix_len is_word_byte bs))
    ∷ (at_front is_digit bs, Piece Number (number_length bs))
    ∷ (starts 46 bs && at_front is_digit (drop 1 bs), Piece Number (1 + digits_length (drop 1 bs)))
    ∷ []

abbrev EachRow : (Lexeme → Type 0) → List (Bool × Lexeme) → Type 0
EachRow P [] = ⊤
EachRow P (c ∷ cs) = (c.0 ≡ true → P c.1) × EachRow P cs

first_passes : (P : Lexeme → Type 0) (cs : List (Bool × Lexeme)) (other : Lexeme) → EachRow P cs → P other → P (first_of cs other)
first_passes P [] other each last = last
first_passes P (c ∷ cs) other each last = cond_both c.0 c.1 (first_of cs other) P each.0 (λ _. first_passes P cs other each.1 last)

each_row : (bs : List ℕ) → 0 < length bs → EachRow (IsSound bs) (rows bs)
each_row bs some = (
  λ _. (omega arith, omega arith),
  (
    λ h. (line_some 35 bs refl h, prefix_len-le-length _ bs),
    (
      λ h. (line_some 45 bs refl (and_parts _ _ (and_parts _ _ h).0).0, prefix_len-le-length _ bs),
      (
        λ h. comment_sound bs (comment_length (drop 2 bs)) (front_within (λ b. eqb b 42) 1 bs (and_parts _ _ h).1) (comment_within (drop 2 bs)),
        (
          λ h. quoted_sound Quoted bs (name_length (drop 1 bs)) some (λ n _. tt) (closed_within (λ b. false) 96 (drop 1 bs)),
          (
            λ h. quoted_sound Text bs (string_length 39 (drop 1 bs)) some (string_says 39 bs refl h) (closed_within (λ b. eqb b 92) 39 (drop 1 bs)),
            (
              λ h. quoted_sound Text bs (string_length 34 (drop 1 bs)) some (string_says 34 bs refl h) (closed_within (λ b. eqb b 92) 34 (drop 1 bs)),
              (
                λ h. quoted_hex_sound bs (and_parts _ _ h).0 (front_within (λ b. eqb b 39) 1 bs (and_parts _ _ h).1),
                (
                  λ h. hex_sound bs (and_parts _ _ (and_parts _ _ h).0).0 (and_parts _ _ h).1,
                  (
                    word_sound bs,
                    (
                      number_sound bs,
                      (λ h. point_sound bs (and_parts _ _ h).1, tt),
                    ),
                  ),
                ),
              ),
            ),
          ),
        ),
      ),
    ),
  ),
)

pub lexeme_sound : (bs : List ℕ) → 0 < length bs → IsSound bs (lexeme_of bs)
lexeme_sound bs some = first_passes (IsSound bs) (rows bs) (Piece Mark 1) (each_row bs some) (omega arith, omega arith, tt)
