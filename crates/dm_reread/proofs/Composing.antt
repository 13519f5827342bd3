-- From parts to tokens, part by part.
use Rattle.std.proofs.Common.{◌≡◌, ℕ, zero, suc, ◌+◌, ◌-◌, ◌<◌, ◌≤◌, true, false, ◌==◌, List, [], ◌∷◌, ◌++◌, map, length, take, drop, replicate, None, Ok, refl, sym, ap, ◌∙◌, subst, append_assoc, append-nil, arith, eqb-true, eq-eqb, drop-drop, length-drop, drop_at, take_at}
use Rattle.std.proofs.lemmas.Bool.{and_parts, and_from}
use Rattle.std.proofs.lemmas.Grind.{flat_map-append}
use Rattle.std.proofs.lemmas.List.{length-append}
use Rattle.dm_lex.specs.declared.token.Token.{Token}
use Rattle.dm_lex.specs.declared.token.TokenKind.{TokenKind}
use Rattle.dm_lex.specs.declared.token.TokenKind.TheVariants as token
use Rattle.dm_lex.specs.declared.lexeme.Lexeme.{Lexeme}
use Rattle.dm_lex.specs.declared.lexeme.Lexeme.TheVariants as lexeme
use Rattle.dm_lex.specs.Lexemes.{is_blank, lexeme_of}
use Rattle.dm_lex.specs.Tokens.{Lexed, with_token, lexed_from, all_tokens, tokens_of}
use Rattle.dm_lex.specs.Places.{lexed_at}
use Rattle.dm_lex.proofs.LexemeLemmas.{IsSound, lexeme_sound}
use Rattle.dm_lex.proofs.TokenLemmas.{with_front, next_lexeme, at_end}
use Rattle.dm_reread.specs.Parts.{Part, Blank, Piece, part_bytes, text_of, tokens_from, lexed_as, Spelling, spelling_of, spelled, same_kind, is_piece, is_spelled_before, is_spelled}

pub text_of_both : (front back : List Part) → text_of (front ++ back) ≡ text_of front ++ text_of back
text_of_both front back = flat_map-append part_bytes front back

-- two texts behind one another, before a third
pub text_before : (front back : List Part) (behind : List ℕ) → text_of (front ++ back) ++ behind ≡ text_of front ++ (text_of back ++ behind)
text_before front back behind = ap (λ (xs : List ℕ). xs ++ behind) (text_of_both front back) ∙ append_assoc (text_of front) (text_of back) behind

-- Kinds.

same_is : (a b : TokenKind) → same_kind a b ≡ true → a ≡ b
same_is token.Word token.Word h = refl
same_is token.Quoted token.Quoted h = refl
same_is token.Text token.Text h = refl
same_is token.Hex token.Hex h = refl
same_is token.Number token.Number h = refl
same_is token.Mark token.Mark h = refl
same_is a b h = absurd cc

is_same : (a : TokenKind) → same_kind a a ≡ true
is_same token.Word = refl
is_same token.Quoted = refl
is_same token.Text = refl
is_same token.Hex = refl
is_same token.Number = refl
is_same token.Mark = refl

pub piece_is : (kind : TokenKind) (n : ℕ) (l : Lexeme) → is_piece kind n l ≡ true → l ≡ lexeme.Piece kind n
piece_is kind n (lexeme.Gap m) h = absurd cc
piece_is kind n (lexeme.Piece k m) h =
    let parts = and_parts (same_kind kind k) (n == m) h in
    let kinds : k ≡ kind = sym (same_is kind k parts.0) in
    let lengths : m ≡ n = sym (eqb-true n m parts.1) in
    λ i. lexeme.Piece (kinds i) (lengths i)
piece_is kind n lexeme.Open h = absurd cc
piece_is kind n lexeme.NotHex h = absurd cc

-- a lexeme of this kind and length is the part
pub is_piece_from : (kind : TokenKind) (n m : ℕ) (l : Lexeme) → l ≡ lexeme.Piece kind m → m ≡ n → is_piece kind n l ≡ true
is_piece_from kind n m l is same =
    ap (is_piece kind n) is ∙ and_from (same_kind kind kind) (n == m) (is_same kind) (eq-eqb n m (sym same))

no_empty_piece : (kind : TokenKind) (xs : List ℕ) → is_piece kind 0 (lexeme_of xs) ≡ true → ⊥
no_empty_piece kind [] h = absurd (let parts = and_parts (same_kind kind token.Mark) (0 == 1) h in let never : false ≡ true = parts.1 in cc)
no_empty_piece kind (x ∷ xs) h =
    let sound : IsSound (x ∷ xs) (lexeme.Piece kind 0) = subst (IsSound (x ∷ xs)) (piece_is kind 0 (lexeme_of (x ∷ xs)) h) (lexeme_sound (x ∷ xs) (omega arith)) in
    let some : 1 ≤ 0 = sound.0 in
    absurd (omega (arith, some))

-- Spelled parts behind one another.

pub both_are_spelled : (front back : List Part) (behind : List ℕ) → is_spelled_before (text_of back ++ behind) front ≡ true → is_spelled_before behind back ≡ true → is_spelled_before behind (front ++ back) ≡ true
both_are_spelled [] back behind first second = second
both_are_spelled (Blank b ∷ front) back behind first second =
    let parts = and_parts (is_blank b) (is_spelled_before (text_of back ++ behind) front) first in
    and_from (is_blank b) (is_spelled_before behind (front ++ back)) parts.0 (both_are_spelled front back behind parts.1 second)
both_are_spelled (Piece kind bytes ∷ front) back behind first second =
    let parts = and_parts (is_piece kind (length bytes) (lexeme_of (bytes ++ (text_of front ++ (text_of back ++ behind))))) (is_spelled_before (text_of back ++ behind) front) first in
    let here : is_piece kind (length bytes) (lexeme_of (bytes ++ (text_of (front ++ back) ++ behind))) ≡ true = ap (λ (xs : List ℕ). is_piece kind (length bytes) (lexeme_of (bytes ++ xs))) (text_before front back behind) ∙ parts.0 in
    and_from (is_piece kind (length bytes) (lexeme_of (bytes ++ (text_of (front ++ back) ++ behind)))) (is_spelled_before behind (front ++ back)) here (both_are_spelled front back behind parts.1 second)

pub back_is_spelled : (front back : List Part) (behind : List ℕ) → is_spelled_before behind (front ++ back) ≡ true → is_spelled_before behind back ≡ true
back_is_spelled [] back behind all = all
back_is_spelled (Blank b ∷ front) back behind all = back_is_spelled front back behind (and_parts (is_blank b) (is_spelled_before behind (front ++ back)) all).1
back_is_spelled (Piece kind bytes ∷ front) back behind all =
    back_is_spelled front back behind (and_parts (is_piece kind (length bytes) (lexeme_of (bytes ++ (text_of (front ++ back) ++ behind)))) (is_spelled_before behind (front ++ back)) all).1

-- What stands in a text from a place on.

within : (text : List ℕ) (at b : ℕ) (xs : List ℕ) → drop at text ≡ b ∷ xs → at < length text
within text at b xs here = let long : length text - at ≡ suc (length xs) = sym (length-drop at text) ∙ ap length here in omega (arith, long)

behind_front : (text : List ℕ) (at : ℕ) (front behind : List ℕ) → drop at text ≡ front ++ behind → drop (at + length front) text ≡ behind
behind_front text at front behind here = sym (drop-drop (length front) at text) ∙ ap (drop (length front)) here ∙ drop_at front behind (length front) refl

blank_is_gap : (b : ℕ) (xs : List ℕ) → is_blank b ≡ true → lexeme.Gap 1 ≡ lexeme_of (b ∷ xs)
blank_is_gap b xs blank = rw blank refl

with_none : (text : List ℕ) (at : ℕ) → lexed_at text at ≡ with_front [] (lexed_at text (at + 0))
with_none text at = let same : at ≡ at + 0 = omega arith in ap (lexed_at text) same

blank_passed : (text : List ℕ) (at b : ℕ) (xs : List ℕ) → drop at text ≡ b ∷ xs → is_blank b ≡ true → lexed_at text at ≡ lexed_at text (at + 1)
blank_passed text at b xs here blank =
    next_lexeme (lexeme.Gap 1) text at (within text at b xs here) (blank_is_gap b xs blank ∙ ap lexeme_of (sym here))

piece_taken : (text : List ℕ) (at : ℕ) (kind : TokenKind) (bytes xs : List ℕ) → drop at text ≡ bytes ++ xs → is_piece kind (length bytes) (lexeme_of (bytes ++ xs)) ≡ true
    → lexed_at text at ≡ with_token (record { kind = kind; from = at; to = at + length bytes }) (lexed_at text (at + length bytes))
piece_taken text at kind [] xs here is = absurd (no_empty_piece kind xs is)
piece_taken text at kind (b ∷ bytes) xs here is =
    next_lexeme (lexeme.Piece kind (length (b ∷ bytes))) text at (within text at b (bytes ++ xs) here)
    (sym (piece_is kind (length (b ∷ bytes)) (lexeme_of (b ∷ (bytes ++ xs))) is) ∙ ap lexeme_of (sym here))

pub parts_are_lexed_at : (text : List ℕ) (at : ℕ) (parts : List Part) (behind : List ℕ) → drop at text ≡ text_of parts ++ behind → is_spelled_before behind parts ≡ true
    → lexed_at text at ≡ with_front (tokens_from at parts) (lexed_at text (at + length (text_of parts)))
parts_are_lexed_at text at [] behind here spells = with_none text at
parts_are_lexed_at text at (Blank b ∷ parts) behind here spells =
    let told = and_parts (is_blank b) (is_spelled_before behind parts) spells in
    let rest = parts_are_lexed_at text (at + 1) parts behind (behind_front text at (b ∷ []) (text_of parts ++ behind) here) told.1 in
    let place : at + 1 + length (text_of parts) ≡ at + length (b ∷ text_of parts) = omega arith in
    blank_passed text at b (text_of parts ++ behind) here told.0 ∙ rest ∙ ap (λ (n : ℕ). with_front (tokens_from (at + 1) parts) (lexed_at text n)) place
parts_are_lexed_at text at (Piece kind bytes ∷ parts) behind here spells =
    let told = and_parts (is_piece kind (length bytes) (lexeme_of (bytes ++ (text_of parts ++ behind)))) (is_spelled_before behind parts) spells in
    let there : drop at text ≡ bytes ++ (text_of parts ++ behind) = here ∙ append_assoc bytes (text_of parts) behind in
    let rest = parts_are_lexed_at text (at + length bytes) parts behind (behind_front text at bytes (text_of parts ++ behind) there) told.1 in
    let long = length-append bytes (text_of parts) in
    let place : at + length bytes + length (text_of parts) ≡ at + length (bytes ++ text_of parts) = omega (arith, long) in
    piece_taken text at kind bytes (text_of parts ++ behind) there told.0
    ∙ ap (with_token (record { kind = kind; from = at; to = at + length bytes })) (rest ∙ ap (λ (n : ℕ). with_front (tokens_from (at + length bytes) parts) (lexed_at text n)) place)

-- Whole texts.

at_place : (at : ℕ) (xs : List ℕ) → drop at (replicate at 0 ++ xs) ≡ xs
at_place zero xs = refl
at_place (suc at) xs = at_place at xs

whole_lexed : (text : List ℕ) (at : ℕ) (parts : List Part) → drop at text ≡ text_of parts → is_spelled parts ≡ true → lexed_at text at ≡ lexed_as at parts
whole_lexed text at parts here spells =
    let there : drop at text ≡ text_of parts ++ [] = here ∙ sym (append-nil (text_of parts)) in
    let long : length text - at ≡ length (text_of parts) = sym (length-drop at text) ∙ ap length here in
    parts_are_lexed_at text at parts [] there spells
    ∙ ap (with_front (tokens_from at parts)) (at_end text (at + length (text_of parts)) (omega (arith, long)))
    ∙ ap (λ (ts : List Token). let all : Lexed = record { tokens = ts; fault = None } in all) (append-nil (tokens_from at parts))

pub parts_are_lexed : (at : ℕ) (parts : List Part) → is_spelled parts ≡ true → lexed_from at 0 (text_of parts) ≡ lexed_as at parts
parts_are_lexed at parts spells =
    ap (lexed_from at 0) (sym (at_place at (text_of parts)))
    ∙ whole_lexed (replicate at 0 ++ text_of parts) at parts (at_place at (text_of parts)) spells

pub text_has_tokens : (parts : List Part) → is_spelled parts ≡ true → tokens_of (text_of parts) ≡ Ok (tokens_from 0 parts)
unfolding tokens_of
text_has_tokens parts spells = ap all_tokens (parts_are_lexed 0 parts spells)

-- the tokens behind the first parts of a text
pub back_is_lexed : (text : List ℕ) (front back : List Part) → text ≡ text_of (front ++ back) → is_spelled back ≡ true → lexed_at text (length (text_of front)) ≡ lexed_as (length (text_of front)) back
back_is_lexed text front back is spells =
    whole_lexed text (length (text_of front)) back (ap (drop (length (text_of front))) (is ∙ text_of_both front back) ∙ drop_at (text_of front) (text_of back) (length (text_of front)) refl) spells

pub tokens_of_both : (at : ℕ) (front back : List Part) → tokens_from at (front ++ back) ≡ tokens_from at front ++ tokens_from (at + length (text_of front)) back
tokens_of_both at [] back = let same : at ≡ at + 0 = omega arith in ap (λ (n : ℕ). tokens_from n back) same
tokens_of_both at (Blank b ∷ front) back =
    let place : at + 1 + length (text_of front) ≡ at + length (b ∷ text_of front) = omega arith in
    tokens_of_both (at + 1) front back ∙ ap (λ (n : ℕ). tokens_from (at + 1) front ++ tokens_from n back) place
tokens_of_both at (Piece kind bytes ∷ front) back =
    let long = length-append bytes (text_of front) in
    let place : at + length bytes + length (text_of front) ≡ at + length (bytes ++ text_of front) = omega (arith, long) in
    ap (λ (ts : List Token). (let t : Token = record { kind = kind; from = at; to = at + length bytes } in t) ∷ ts) (tokens_of_both (at + length bytes) front back ∙ ap (λ (n : ℕ). tokens_from (at + length bytes) front ++ tokens_from n back) place)

-- Spellings.

pub spelled_of_both : (front back : List Part) → spelled (front ++ back) ≡ spelled front ++ spelled back
spelled_of_both [] back = refl
spelled_of_both (Blank b ∷ front) back = spelled_of_both front back
spelled_of_both (Piece kind bytes ∷ front) back = ap (λ (ss : List Spelling). (let s : Spelling = record { kind = kind; bytes = bytes } in s) ∷ ss) (spelled_of_both front back)

token_bytes : (text : List ℕ) (at : ℕ) (bytes xs : List ℕ) → drop at text ≡ bytes ++ xs → take (at + length bytes - at) (drop at text) ≡ bytes
token_bytes text at bytes xs here =
    let count : at + length bytes - at ≡ length bytes = omega arith in
    rw (count, here) (take_at bytes xs (length bytes) refl)

pub tokens_at_are_spelled : (text : List ℕ) (at : ℕ) (parts : List Part) (behind : List ℕ) → drop at text ≡ text_of parts ++ behind → map (spelling_of text) (tokens_from at parts) ≡ spelled parts
tokens_at_are_spelled text at [] behind here = refl
tokens_at_are_spelled text at (Blank b ∷ parts) behind here = tokens_at_are_spelled text (at + 1) parts behind (behind_front text at (b ∷ []) (text_of parts ++ behind) here)
tokens_at_are_spelled text at (Piece kind bytes ∷ parts) behind here =
    let there : drop at text ≡ bytes ++ (text_of parts ++ behind) = here ∙ append_assoc bytes (text_of parts) behind in
    let first = token_bytes text at bytes (text_of parts ++ behind) there in
    let rest = tokens_at_are_spelled text (at + length bytes) parts behind (behind_front text at bytes (text_of parts ++ behind) there) in
    λ i. (let s : Spelling = record { kind = kind; bytes = first i } in s) ∷ rest i

pub tokens_are_spelled : (text before behind : List ℕ) (parts : List Part) → text ≡ before ++ (text_of parts ++ behind) → map (spelling_of text) (tokens_from (length before) parts) ≡ spelled parts
tokens_are_spelled text before behind parts is =
    tokens_at_are_spelled text (length before) parts behind (ap (drop (length before)) is ∙ drop_at before (text_of parts ++ behind) (length before) refl)
