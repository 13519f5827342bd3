-- Going over a text from lexeme to lexeme, and from token to token.
use Rattle.std.proofs.Common.{◌≡◌, ℕ, zero, suc, ◌+◌, ◌-◌, ◌<◌, ◌≤◌, Bool, true, false, List, [], ◌∷◌, ◌++◌, length, take, drop, Option, Some, None, Result, Ok, Err, refl, sym, ap, ◌∙◌, subst, arith, append_assoc, append-nil}
use Rattle.std.specs.Prelude.{⊤, MatchBool}
use Rattle.std.proofs.lemmas.List.{drop-drop, length-drop, take_rest}
use Rattle.dm_lex.specs.declared.token.TokenKind.{TokenKind}
use Rattle.dm_lex.specs.declared.token.Token.{Token}
use Rattle.dm_lex.specs.declared.token.LexFault.{LexFault}
use Rattle.dm_lex.specs.declared.token.LexFault.TheVariants as fault
use Rattle.dm_lex.specs.declared.lexeme.Lexeme.{Lexeme}
use Rattle.dm_lex.specs.declared.lexeme.Lexeme.TheVariants.{Gap, Piece, Open, NotHex}
use Rattle.dm_lex.specs.Lexemes.{lexeme_of}
use Rattle.dm_lex.specs.Tokens.{is_memory, Lexed, told, with_token, no_more, stopped, all_tokens, lexed_from, lexed_of, tokens_of, LexerState, lexed, Gives}
use Rattle.dm_lex.specs.Places.{EndsWithin, lexed_at}
use Rattle.dm_lex.proofs.LexemeLemmas.{IsSound, lexeme_sound}

-- what belongs to the lexeme before is passed over
pass_over : (n at : ℕ) (bs : List ℕ) → n ≤ length bs → lexed_from at n bs ≡ lexed_from (at + n) 0 (drop n bs)
unfolding lexed_from
pass_over zero at bs few = let same : at ≡ at + 0 = omega arith in ap (λ a. lexed_from a 0 bs) same
pass_over (suc n) at [] few = absurd (omega arith)
pass_over (suc n) at (b ∷ bs) few =
    let same : at + 1 + n ≡ at + suc n = omega arith in
    pass_over n (at + 1) bs (omega arith) ∙ ap (λ a. lexed_from a 0 (drop n bs)) same

behind_lexeme : (n at b : ℕ) (bs : List ℕ) → 1 ≤ n → n ≤ length (b ∷ bs) → lexed_from (at + 1) (n - 1) bs ≡ lexed_from (at + n) 0 (drop n (b ∷ bs))
behind_lexeme zero at b bs some few = absurd (omega arith)
behind_lexeme (suc n) at b bs some few =
    let less : suc n - 1 ≡ n = omega arith in
    let same : at + 1 + n ≡ at + suc n = omega arith in
    ap (λ k. lexed_from (at + 1) k bs) less ∙ pass_over n (at + 1) bs (omega arith) ∙ ap (λ a. lexed_from a 0 (drop n bs)) same

-- what a lexeme gives, where the rest is what stands behind it
abbrev pub given : Lexeme → List ℕ → ℕ → Lexed
given l text at = told l at (λ n. lexed_at text (at + n))

told_behind : (l : Lexeme) (at b : ℕ) (bs : List ℕ) (behind : ℕ → Lexed) → IsSound (b ∷ bs) l → ((n : ℕ) → lexed_from (at + n) 0 (drop n (b ∷ bs)) ≡ behind n)
    → told l at (λ n. lexed_from (at + 1) (n - 1) bs) ≡ told l at behind
told_behind (Gap n) at b bs behind part same = behind_lexeme n at b bs part.0 part.1 ∙ same n
told_behind (Piece kind n) at b bs behind part same = ap (with_token (record { kind = kind; from = at; to = at + n })) (behind_lexeme n at b bs part.0 part.1 ∙ same n)
told_behind Open at b bs behind part same = refl
told_behind NotHex at b bs behind part same = refl

first_lexeme : (l : Lexeme) (at : ℕ) (bs : List ℕ) (behind : ℕ → Lexed) → 0 < length bs → l ≡ lexeme_of bs → ((n : ℕ) → lexed_from (at + n) 0 (drop n bs) ≡ behind n) → lexed_from at 0 bs ≡ told l at behind
unfolding lexed_from
first_lexeme l at [] behind some e same = absurd (omega arith)
first_lexeme l at (b ∷ bs) behind some e same =
    ap (λ x. told x at (λ n. lexed_from (at + 1) (n - 1) bs)) (sym e)
    ∙ told_behind l at b bs behind (subst (IsSound (b ∷ bs)) (sym e) (lexeme_sound (b ∷ bs) some)) same

-- the tokens from a place on, by the lexeme that stands there
pub next_lexeme : (l : Lexeme) (text : List ℕ) (at : ℕ) → at < length text → l ≡ lexeme_of (drop at text) → lexed_at text at ≡ given l text at
next_lexeme l text at within e =
    first_lexeme l at (drop at text) (λ n. lexed_at text (at + n)) (omega (arith, length-drop at text)) e (λ n. ap (lexed_from (at + n) 0) (drop-drop n at text))

pub at_end : (text : List ℕ) (at : ℕ) → length text ≤ at → lexed_at text at ≡ no_more
unfolding lexed_from
at_end text at past = none (drop at text) (omega (arith, length-drop at text)) where
  none : (bs : List ℕ) → length bs ≡ 0 → lexed_from at 0 bs ≡ no_more
  none [] h = refl
  none (b ∷ bs) h = absurd (omega arith)

ends_within : (l : Lexeme) (bs : List ℕ) (at end : ℕ) → at + length bs ≡ end → IsSound bs l → EndsWithin l at end
ends_within (Gap n) bs at end here part = (part.0, omega (arith, part.1))
ends_within (Piece kind n) bs at end here part = (part.0, omega (arith, part.1))
ends_within Open bs at end here part = tt
ends_within NotHex bs at end here part = tt

pub lexeme_ends : (l : Lexeme) (text : List ℕ) (at : ℕ) → at < length text → l ≡ lexeme_of (take (length text - at) (drop at text)) → EndsWithin l at (length text)
lexeme_ends l text at within there =
    let e : l ≡ lexeme_of (drop at text) = there ∙ ap lexeme_of (take_rest text at) in
    ends_within l (drop at text) at (length text) (omega (arith, length-drop at text))
    (subst (IsSound (drop at text)) (sym e) (lexeme_sound (drop at text) (omega (arith, length-drop at text))))

-- Gathering the tokens.

-- the tokens that were given, and what is left
abbrev pub with_front : List Token → Lexed → Lexed
with_front front rest = record { tokens = front ++ rest.tokens; fault = rest.fault }

pub one_more : (front made : List Token) (t : Token) (left rest total : Lexed) → left ≡ with_token t rest → made ≡ front ++ t ∷ [] → with_front front left ≡ total → with_front made rest ≡ total
one_more front made t left rest total step more so_far =
    rw more (ap (λ (ts : List Token). let made : Lexed = record { tokens = ts; fault = rest.fault } in made) (append_assoc front (t ∷ []) rest.tokens) ∙ ap (with_front front) (sym step) ∙ so_far)

pub all_given : (o : Option Token) (front : List Token) (old new : LexerState) (text : List ℕ) → o ≡ None → Gives (Ok o) old new → with_front front (lexed old) ≡ lexed_of text → Ok front ≡ tokens_of text
unfolding tokens_of
all_given None front old new text none ended so_far = ap Ok (sym (append-nil front)) ∙ ap all_tokens (ap (with_front front) (sym ended.0) ∙ so_far)
all_given (Some t) front old new text none ended so_far = absurd cc

pub fault_found : (front : List Token) (left : Lexed) (text : List ℕ) (e : LexFault) → left ≡ stopped e → with_front front left ≡ lexed_of text → MatchBool (is_memory e) ⊤ (Err e ≡ tokens_of text)
unfolding tokens_of
fault_found front left text e stop so_far = by (is_memory e) where
  by : (b : Bool) → MatchBool b ⊤ (Err e ≡ tokens_of text)
  by true = tt
  by false = ap all_tokens (ap (with_front front) (sym stop) ∙ so_far)
