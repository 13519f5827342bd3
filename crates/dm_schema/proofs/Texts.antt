-- Texts in UTF-8, and their characters.
use Rattle.std.proofs.Common.{◌≡◌, ℕ, ◌+◌, Bool, true, false, cond, List, [], ◌∷◌, Result, Ok, Err, MatchResult, is_ok, count_by, refl, sym, arith}
use Rattle.std.specs.Str.{IsUtf8, is_utf8}
use Rattle.std.specs.Fmt.{char_count, is_char_start}
use Rattle.std.proofs.lemmas.Str.{IsUtf8-from_is_utf8, is_utf8-from_IsUtf8}
use Rattle.std.proofs.lemmas.List.Recursion.{is_count_by}

one_more : (b : ℕ) (bs : List ℕ) → char_count (b ∷ bs) ≡ cond (is_char_start b) (1 + char_count bs) (char_count bs)
unfolding char_count
one_more b bs = by (is_char_start b) where
  by : (start : Bool) → cond start 1 0 + char_count bs ≡ cond start (1 + char_count bs) (char_count bs)
  by true = refl
  by false = omega arith

-- the characters of a text are its bytes that begin one
pub characters_are_counted : (bytes : List ℕ) → char_count bytes ≡ count_by is_char_start bytes
unfolding char_count
characters_are_counted bytes = is_count_by char_count is_char_start refl one_more bytes

not_true : (b : Bool) → (b ≡ true → ⊥) → b ≡ false
not_true true h = absurd (h refl)
not_true false h = refl

-- a test that answers whether bytes are a text
pub told_by : {S E : Type 0} (bytes : List ℕ) (A : S → Type 0) (B : E → Type 0) (r : Result S E) → MatchResult r (λ s. A s × IsUtf8 bytes) (λ e. ¬ (IsUtf8 bytes) × B e) → is_ok r ≡ is_utf8 bytes
told_by bytes A B (Ok s) h = sym (is_utf8-from_IsUtf8 bytes h.1)
told_by bytes A B (Err e) h = sym (not_true (is_utf8 bytes) (λ t. h.0 (IsUtf8-from_is_utf8 bytes t)))
