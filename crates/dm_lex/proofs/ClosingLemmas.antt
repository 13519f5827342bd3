-- What closes a quote or a comment, byte by byte.
use Rattle.std.proofs.Common.{◌≡◌, ℕ, ◌+◌, ◌≤◌, ◌<◌, Bool, true, false, not, cond, List, [], ◌∷◌, length, get_or, take, drop, Option, Some, None, refl, sym, ap, ◌∙◌, arith, eqb, ltb, add_assoc}
use Rattle.std.specs.List.{position, position_or_len}
use Rattle.std.proofs.lemmas.Bool.{ltb-true, not-false}
use Rattle.std.proofs.lemmas.List.{at_drop_more}
use Rattle.std.proofs.lemmas.List.Sums.{prefix_len_stops}
use Rattle.dm_lex.specs.declared.lexeme.Lexeme.TheVariants.{Piece, NotHex}
use Rattle.dm_lex.specs.declared.token.TokenKind.TheVariants as token
use Rattle.dm_lex.specs.Lexemes.{longer, closed_length, comment_length, starts, is_hex, quoted_hex}

pub longer_twice : (m n : ℕ) (o : Option ℕ) → longer m (longer n o) ≡ longer (m + n) o
longer_twice m n None = refl
longer_twice m n (Some k) = ap Some (sym (add_assoc m n k))

-- how many bytes the first of two takes
abbrev pub step_of : (ℕ → Bool) → ℕ → ℕ → ℕ → Option ℕ
step_of e q b c = cond (e b) (Some 2) (cond (eqb b q) (cond (eqb c q) (Some 2) None) (Some 1))

abbrev closed_after : (ℕ → Bool) → ℕ → List ℕ → Option ℕ → Option ℕ
closed_after e q bs None = Some 1
closed_after e q bs (Some n) = longer n (closed_length e q (drop n bs))

closed_by_step : (e : ℕ → Bool) (q b c : ℕ) (bs : List ℕ) → 2 ≤ length bs → b ≡ get_or bs 0 0 → c ≡ get_or bs 1 0
    → closed_length e q bs ≡ closed_after e q bs (step_of e q b c)
closed_by_step e q b c [] some first second = absurd (omega arith)
closed_by_step e q b c (x ∷ []) some first second = absurd (omega arith)
closed_by_step e q b c (x ∷ y ∷ zs) some first second = rw (first, second) (by (e x) (eqb x q) (eqb y q)) where
  by : (s t u : Bool) → cond s (longer 2 (closed_length e q zs)) (cond t (cond u (longer 2 (closed_length e q zs)) (Some 1)) (longer 1 (closed_length e q (y ∷ zs))))
      ≡ closed_after e q (x ∷ y ∷ zs) (cond s (Some 2) (cond t (cond u (Some 2) None) (Some 1)))
  by true t u = refl
  by false true true = refl
  by false true false = refl
  by false false u = refl

pub closed_goes_on : (e : ℕ → Bool) (q b c length_so_far step : ℕ) (bs rest : List ℕ) (total : Option ℕ) → 2 ≤ length bs → b ≡ get_or bs 0 0 → c ≡ get_or bs 1 0 → Some step ≡ step_of e q b c → rest ≡ drop step bs
    → longer length_so_far (closed_length e q bs) ≡ total → longer (length_so_far + step) (closed_length e q rest) ≡ total
closed_goes_on e q b c n step bs rest total some first second goes here so_far =
    let at_two = closed_by_step e q b c bs some first second ∙ ap (closed_after e q bs) (sym goes) in
    rw here (sym (longer_twice n step (closed_length e q (drop step bs))) ∙ sym (ap (longer n) at_two) ∙ so_far)

pub comment_open : (n : ℕ) (bs : List ℕ) (total : Option ℕ) → length bs < 2 → longer n (comment_length bs) ≡ total → None ≡ total
comment_open n [] total few so_far = so_far
comment_open n (x ∷ []) total few so_far = so_far
comment_open n (x ∷ y ∷ zs) total few so_far = absurd (omega arith)

position_parts : (p : ℕ → Bool) (bs : List ℕ) (i : ℕ) → Some i ≡ position p bs → (position_or_len p bs ≡ i) × (i < length bs)
position_parts p bs i h = by (ltb (position_or_len p bs) (length bs)) refl h where
  by : (b : Bool) → ltb (position_or_len p bs) (length bs) ≡ b → Some i ≡ cond b (Some (position_or_len p bs)) None → (position_or_len p bs ≡ i) × (i < length bs)
  by true t e = let same : position_or_len p bs ≡ i = cc in let lt = ltb-true _ _ t in (same, omega arith)
  by false t e = absurd cc

quote_at : (bs : List ℕ) (i : ℕ) → Some i ≡ position (λ b. eqb b 39) bs → starts 39 (drop i bs) ≡ true
quote_at bs i found =
    let parts = position_parts (λ b. eqb b 39) bs i found in
    let stops = prefix_len_stops (λ b. not (eqb b 39)) bs 0 (omega (arith, parts.0, parts.1)) in
    at_drop_more (starts 39) bs i 0 parts.1 ∙ not-false _ (ap (λ n. not (eqb (get_or bs n 0) 39)) (sym parts.0) ∙ stops)

-- what stands in quotes behind an x
pub quoted_hex_closed : (bs : List ℕ) (i : ℕ) (b : Bool) → Some i ≡ position (λ b. eqb b 39) bs → b ≡ is_hex (take i bs) → cond b (Piece token.Hex (2 + i + 1)) NotHex ≡ quoted_hex bs
quoted_hex_closed bs i b found pairs =
    let parts = position_parts (λ b. eqb b 39) bs i found in
    let here = quote_at bs i found in
    rw (parts.0, here, ← pairs) refl
