-- Laws of the tokens of a text: they stand in order inside it and don't meet, a word has bytes of words alone, a string
-- begins with a quote, and a hexadecimal literal has hexadecimal digits, so that its value is that of its bytes.
use Rattle.std.proofs.Common.{false, ◌≡◌, ℕ, zero, suc, ◌+◌, ◌-◌, ◌<◌, ◌≤◌, List, [], ◌∷◌, length, drop, Option, Some, None, IfSome, Result, Ok, Err, refl, sym, ap, ◌∙◌, subst, arith}
use Rattle.std.specs.Prelude.{⊤, slice_range}
use Rattle.std.proofs.lemmas.List.{drop-drop, length-drop}
use Rattle.dm_lex.specs.declared.token.TokenKind.{TokenKind}
use Rattle.dm_lex.specs.declared.token.Token.{Token}
use Rattle.dm_lex.specs.declared.token.LexFault.{LexFault}
use Rattle.dm_lex.specs.declared.lexeme.Lexeme.{Lexeme}
use Rattle.dm_lex.specs.declared.lexeme.Lexeme.TheVariants.{Gap, Piece, Open, NotHex}
use Rattle.dm_schema.specs.declared.column.Kind.{Kind}
use Rattle.dm_lex.specs.declared.token.TokenKind.TheVariants.{Hex}
use Rattle.dm_lex.specs.Literals.{fitting, value_of_bytes, hex_of, literal_of}
use Rattle.dm_lex.specs.Lexemes.{lexeme_of}
use Rattle.dm_lex.specs.Tokens.{is_memory, Lexed, told, with_token, all_tokens, lexed_from, lexed_of, tokens_of}
use Rattle.dm_lex.specs.Places.{lexed_at}
use Rattle.dm_lex.proofs.LexemeLemmas.{KindSays, IsSound, lexeme_sound}

-- Tokens from one place on up to another: each has a byte at least, and ends at or before the next begins.
abbrev pub AreInOrder : ℕ → ℕ → List Token → Type 0
AreInOrder low high [] = ⊤
AreInOrder low high (t ∷ ts) = (low ≤ t.from) × (t.from < t.to) × (t.to ≤ high) × AreInOrder t.to high ts

-- what the kinds of tokens say of their bytes in a text
abbrev pub SayTheirKinds : List ℕ → List Token → Type 0
SayTheirKinds text [] = ⊤
SayTheirKinds text (t ∷ ts) = KindSays t.kind (slice_range text t.from t.to) × SayTheirKinds text ts

from_lower : (low lower high : ℕ) (ts : List Token) → lower ≤ low → AreInOrder low high ts → AreInOrder lower high ts
from_lower low lower high [] le h = tt
from_lower low lower high (t ∷ ts) le h = (omega (arith, h.0), h.1, h.2, h.3)

-- both, of the tokens that a text has from a place on, up to a fault or the end
abbrev AreTokens : List ℕ → ℕ → ℕ → Lexed → Type 0
AreTokens text low high lexed = AreInOrder low high lexed.tokens × SayTheirKinds text lexed.tokens

with_piece : (text bs : List ℕ) (kind : TokenKind) (at n high : ℕ) (rest : Lexed) → drop at text ≡ bs → at + length bs ≡ high → IsSound bs (Piece kind n)
    → AreTokens text (at + n) high rest → AreTokens text at high (with_token (record { kind = kind; from = at; to = at + n }) rest)
with_piece text bs kind at n high rest here ends part h =
    let some = part.0 in
    let few = part.1 in
    let count : at + n - at ≡ n = omega arith in
    ((omega arith, omega arith, omega arith, h.0), (rw (count, here) part.2, h.1))

told_tokens : (text : List ℕ) (l : Lexeme) (at high : ℕ) (bs : List ℕ) (behind : ℕ → Lexed) → drop at text ≡ bs → at + length bs ≡ high → IsSound bs l
    → ((n : ℕ) → 1 ≤ n → AreTokens text (at + n) high (behind n)) → AreTokens text at high (told l at behind)
told_tokens text (Gap n) at high bs behind here ends part h = (from_lower (at + n) at high (behind n).tokens (omega arith) (h n part.0).0, (h n part.0).1)
told_tokens text (Piece kind n) at high bs behind here ends part h = with_piece text bs kind at n high (behind n) here ends part (h n part.0)
told_tokens text Open at high bs behind here ends part h = (tt, tt)
told_tokens text NotHex at high bs behind here ends part h = (tt, tt)

-- what stands behind the first byte
behind_first : (text : List ℕ) (at b : ℕ) (bs : List ℕ) → drop at text ≡ b ∷ bs → drop (at + 1) text ≡ bs
behind_first text at b bs here = sym (drop-drop 1 at text) ∙ ap (drop 1) here

from_place : (text bs : List ℕ) (at inside high : ℕ) → drop at text ≡ bs → at + length bs ≡ high → AreTokens text (at + inside) high (lexed_from at inside bs)
unfolding lexed_from
from_place text [] at inside high here ends = (tt, tt)
from_place text (b ∷ bs) at (suc inside) high here ends =
    let same : at + 1 + inside ≡ at + suc inside = omega arith in
    subst (λ low. AreTokens text low high (lexed_from (at + 1) inside bs)) same (from_place text bs (at + 1) inside high (behind_first text at b bs here) (omega arith))
from_place text (b ∷ bs) at zero high here ends =
    let same : at ≡ at + 0 = omega arith in
    let behind = λ (n : ℕ). lexed_from (at + 1) (n - 1) bs in
    subst (λ low. AreTokens text low high (told (lexeme_of (b ∷ bs)) at behind)) same
    (told_tokens text (lexeme_of (b ∷ bs)) at high (b ∷ bs) behind here ends (lexeme_sound (b ∷ bs) (omega arith))
    (λ n some. let there : at + 1 + (n - 1) ≡ at + n = omega arith in subst (λ low. AreTokens text low high (behind n)) there (from_place text bs (at + 1) (n - 1) high (behind_first text at b bs here) (omega arith))))

-- What is left of a text from a place on.

told_at : (text : List ℕ) (at : ℕ) → at ≤ length text → AreTokens text at (length text) (lexed_at text at)
told_at text at within =
    let same : at + 0 ≡ at = omega arith in
    subst (λ low. AreTokens text low (length text) (lexed_at text at)) same (from_place text (drop at text) at 0 (length text) refl (omega (arith, length-drop at text)))

pub left_are_in_order : (text : List ℕ) (at : ℕ) → at ≤ length text → AreInOrder at (length text) (lexed_at text at).tokens
left_are_in_order text at within = (told_at text at within).0

pub left_say_their_kinds : (text : List ℕ) (at : ℕ) → at ≤ length text → SayTheirKinds text (lexed_at text at).tokens
left_say_their_kinds text at within = (told_at text at within).1

-- No fault is for want of memory.

abbrev IsNoMemory : Option LexFault → Type 0
IsNoMemory o = IfSome o (λ e. is_memory e ≡ false)

told_no_memory : (l : Lexeme) (at : ℕ) (behind : ℕ → Lexed) → ((n : ℕ) → IsNoMemory (behind n).fault) → IsNoMemory (told l at behind).fault
told_no_memory (Gap n) at behind h = h n
told_no_memory (Piece kind n) at behind h = h n
told_no_memory Open at behind h = refl
told_no_memory NotHex at behind h = refl

pub fault_is_no_memory : (at inside : ℕ) (bs : List ℕ) → IsNoMemory (lexed_from at inside bs).fault
unfolding lexed_from
fault_is_no_memory at inside [] = tt
fault_is_no_memory at (suc inside) (b ∷ bs) = fault_is_no_memory (at + 1) inside bs
fault_is_no_memory at zero (b ∷ bs) = told_no_memory (lexeme_of (b ∷ bs)) at (λ n. lexed_from (at + 1) (n - 1) bs) (λ n. fault_is_no_memory (at + 1) (n - 1) bs)

-- The whole text.

-- a text has all its tokens where there is no fault, and else the first fault
pub all_or_fault : (text : List ℕ) → tokens_of text ≡ all_tokens (lexed_of text)
unfolding tokens_of
all_or_fault text = refl

all_of_lexed : (lexed : Lexed) (ts : List Token) → all_tokens lexed ≡ Ok ts → lexed.tokens ≡ ts
all_of_lexed lexed ts e = by lexed.fault refl where
  by : (o : Option LexFault) → lexed.fault ≡ o → lexed.tokens ≡ ts
  by None none = cc
  by (Some fault) some = absurd cc

told_of : (text : List ℕ) (ts : List Token) → tokens_of text ≡ Ok ts → AreInOrder 0 (length text) ts × SayTheirKinds text ts
told_of text ts e =
    let same : (lexed_of text).tokens ≡ ts = all_of_lexed (lexed_of text) ts (sym (all_or_fault text) ∙ e) in
    subst (λ (all : List Token). AreInOrder 0 (length text) all × SayTheirKinds text all) same (told_at text 0 (omega arith))

pub tokens_are_in_order : (text : List ℕ) (ts : List Token) → tokens_of text ≡ Ok ts → AreInOrder 0 (length text) ts
tokens_are_in_order text ts e = (told_of text ts e).0

pub tokens_say_their_kinds : (text : List ℕ) (ts : List Token) → tokens_of text ≡ Ok ts → SayTheirKinds text ts
tokens_say_their_kinds text ts e = (told_of text ts e).1

pub hexadecimal_tokens_are_bytes : (k : Kind) (bytes : List ℕ) → KindSays Hex bytes → literal_of k false Hex bytes ≡ fitting k (value_of_bytes k (hex_of bytes))
hexadecimal_tokens_are_bytes k bytes says = rw says refl
