-- What stands in a text from a place on, as parts.
use Rattle.std.proofs.Common.{◌≡◌, ℕ, ◌+◌, ◌-◌, true, List, [], ◌∷◌, ◌++◌, length, take, drop, refl, sym, ap, ◌∙◌, arith, drop-drop, drop_at, take_at}
use Rattle.std.proofs.lemmas.Bool.{and_parts}
use Rattle.std.proofs.lemmas.List.{length-append}
use Rattle.dm_lex.specs.declared.token.Token.{Token}
use Rattle.dm_lex.specs.declared.token.TokenKind.{TokenKind}
use Rattle.dm_lex.specs.Tokens.{lexed}
use Rattle.dm_lex.specs.Lexemes.{is_blank, lexeme_of}
use Rattle.dm_syntax.specs.Pieces.{bytes_of}
use Rattle.dm_reread.specs.Parts.{Part, Blank, Piece, part_bytes, text_of, lexed_as, Spelling, spelling_of, is_piece, is_spelled}
use Rattle.dm_reread.proofs.Laws.{parts_are_lexed}

-- from the place on the text is that of the parts, and each of them is spelled
pub record Stands (text : List ℕ) (at : ℕ) (parts : List Part) : Type 0 where
  pub here : drop at text ≡ text_of parts
  pub spells : is_spelled parts ≡ true

abbrev pub token_at : ℕ → TokenKind → List ℕ → Token
token_at at kind bytes = record { kind = kind; from = at; to = at + length bytes }

spelled_behind : (part : Part) (parts : List Part) → is_spelled (part ∷ parts) ≡ true → is_spelled parts ≡ true
spelled_behind (Blank b) parts h = (and_parts (is_blank b) (is_spelled parts) h).1
spelled_behind (Piece kind bytes) parts h = (and_parts (is_piece kind (length bytes) (lexeme_of (bytes ++ (text_of parts ++ [])))) (is_spelled parts) h).1

behind_front : (text : List ℕ) (at : ℕ) (front behind : List ℕ) → drop at text ≡ front ++ behind → drop (at + length front) text ≡ behind
behind_front text at front behind here = sym (drop-drop (length front) at text) ∙ ap (drop (length front)) here ∙ drop_at front behind (length front) refl

pub past : (text : List ℕ) (at : ℕ) (part : Part) (parts : List Part) → Stands text at (part ∷ parts) → Stands text (at + length (part_bytes part)) parts
past text at part parts s = record { here = behind_front text at (part_bytes part) (text_of parts) s.here; spells = spelled_behind part parts s.spells }

pub past_all : (text : List ℕ) (at : ℕ) (front back : List Part) → Stands text at (front ++ back) → Stands text (at + length (text_of front)) back
past_all text at [] back s = let same : at ≡ at + 0 = omega arith in rw (← same) s
past_all text at (part ∷ front) back s =
    let long = length-append (part_bytes part) (text_of front) in
    let same : at + length (part_bytes part) + length (text_of front) ≡ at + length (part_bytes part ++ text_of front) = omega (arith, long) in
    let rest = past_all text (at + length (part_bytes part)) front back (past text at part (front ++ back) s) in
    rw (← same) rest

-- a token has its bytes
pub bytes_at : (text : List ℕ) (at : ℕ) (kind : TokenKind) (bytes : List ℕ) (parts : List Part) → Stands text at (Piece kind bytes ∷ parts) → bytes_of text (token_at at kind bytes) ≡ bytes
bytes_at text at kind bytes parts s =
    let same : at + length bytes - at ≡ length bytes = omega arith in
    ap (λ (n : ℕ). take n (drop at text)) same ∙ ap (take (length bytes)) s.here ∙ take_at bytes (text_of parts) (length bytes) refl

pub spelling_at : (text : List ℕ) (at : ℕ) (kind : TokenKind) (bytes : List ℕ) (parts : List Part) → Stands text at (Piece kind bytes ∷ parts) → spelling_of text (token_at at kind bytes) ≡ record { kind = kind; bytes = bytes }
spelling_at text at kind bytes parts s = ap (λ (bs : List ℕ). let all : Spelling = record { kind = kind; bytes = bs } in all) (bytes_at text at kind bytes parts s)

-- the tokens from there on
pub lexed_there : (text : List ℕ) (at : ℕ) (parts : List Part) → Stands text at parts → lexed (record { text = text; at = at }) ≡ lexed_as at parts
lexed_there text at parts s = rw s.here (parts_are_lexed at parts s.spells)
