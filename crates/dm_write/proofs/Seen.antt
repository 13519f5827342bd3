-- What pieces say, by what is seen of them: their tokens' kinds and bytes, without their places.
use Rattle.std.proofs.Common.{◌≡◌, ◌==◌, ℕ, Bool, List, [], ◌∷◌, map, drop, Option, Some, None, refl, ap, ◌∙◌}
use Rattle.std.specs.Option.{option_map, option_map_or}
use Rattle.std.specs.List.{list_any, find, filter}
use Rattle.dm_time.specs.Texts.{number_of}
use Rattle.dm_lex.specs.declared.token.Token.{Token}
use Rattle.dm_lex.specs.declared.token.TokenKind.{TokenKind}
use Rattle.dm_lex.specs.declared.token.TokenKind.TheVariants as token
use Rattle.dm_lex.specs.Literals.{lower}
use Rattle.dm_syntax.specs.declared.piece.Piece.{Piece}
use Rattle.dm_syntax.specs.declared.role.TheConstants as role
use Rattle.dm_syntax.specs.declared.terminal.TheConstants as terminal
use Rattle.dm_syntax.specs.Parsing.{kinds_of}
use Rattle.dm_syntax.specs.Pieces.{terminal_of, pieces_of, first_with, has_role}
use Rattle.dm_syntax.specs.Names.{unquoted, name_of, folded_name, folded_with, all_folded_with, name_with}
use Rattle.dm_ddl.specs.Bounds.{held, number_in, number_or}
use Rattle.dm_reread.specs.Parts.{Spelling, spelling_of}
use Rattle.dm_write.proofs.Splitting.{find_map, any_map, filter_map}
use Rattle.dm_write.proofs.StatementTokens.{terminal_seen, seen_as}
use Rattle.dm_write.proofs.Signs.{Sign, spellings}

pub record Seen : Type 0 where
  pub spelling : Spelling
  pub kind : ℕ
  pub role : ℕ

abbrev pub seen : List ℕ → Piece → Seen
seen text p = record { spelling = spelling_of text p.token; kind = p.kind; role = p.role }

abbrev pub all_seen : List ℕ → List Piece → List Seen
all_seen text ps = map (seen text) ps

abbrev pub shown : Sign → Seen
shown s = record { spelling = s.spelling; kind = terminal_seen s.spelling; role = s.role }

abbrev pub roles : List Sign → List ℕ
roles signs = map (λ s. s.role) signs

seen_token : (text : List ℕ) (t : Token) (s : Sign) → spelling_of text t ≡ s.spelling → seen text (record { token = t; kind = terminal_of text t; role = s.role }) ≡ shown s
seen_token text t s e =
    let kind : terminal_of text t ≡ terminal_seen s.spelling = seen_as text t ∙ ap terminal_seen e in
    λ i. let one : Seen = record { spelling = e i; kind = kind i; role = s.role } in one

-- tokens that are spelled as signs are seen as them
pub seen_pieces : (text : List ℕ) (tokens : List Token) (signs : List Sign) → map (spelling_of text) tokens ≡ spellings signs → all_seen text (pieces_of tokens (kinds_of text tokens) (roles signs)) ≡ map shown signs
seen_pieces text [] [] e = refl
seen_pieces text [] (s ∷ ss) e = absurd cc
seen_pieces text (t ∷ ts) [] e = absurd cc
seen_pieces text (t ∷ ts) (s ∷ ss) e =
    let head : spelling_of text t ≡ s.spelling = cc in
    let tail : map (spelling_of text) ts ≡ spellings ss = cc in
    λ i. seen_token text t s head i ∷ seen_pieces text ts ss tail i

-- What is found by roles.

abbrev pub first_of : ℕ → List Seen → Option Seen
first_of its_role xs = find (λ s. s.role == its_role) xs

abbrev pub has : ℕ → List Seen → Bool
has its_role xs = list_any (λ s. s.role == its_role) xs

pub has_seen : (text : List ℕ) (its_role : ℕ) (ps : List Piece) → has_role its_role ps ≡ has its_role (all_seen text ps)
has_seen text its_role ps = any_map (seen text) (λ s. s.role == its_role) ps

pub first_seen : (text : List ℕ) (its_role : ℕ) (ps : List Piece) → option_map (seen text) (first_with its_role ps) ≡ first_of its_role (all_seen text ps)
first_seen text its_role ps = find_map (seen text) (λ s. s.role == its_role) ps

found_as : {A B : Type 0} (f : Piece → B) (g : Piece → A) (F : A → B) (d : B) (o : Option Piece) → ((p : Piece) → f p ≡ F (g p)) → option_map_or f o d ≡ option_map_or F (option_map g o) d
found_as f g F d None h = refl
found_as f g F d (Some p) h = h p

-- what the first piece of a role says, by what is seen of it
pub said_first : {B : Type 0} (text : List ℕ) (its_role : ℕ) (f : Piece → B) (F : Seen → B) (d : B) (ps : List Piece) → ((p : Piece) → f p ≡ F (seen text p)) → option_map_or f (first_with its_role ps) d ≡ option_map_or F (first_of its_role (all_seen text ps)) d
said_first text its_role f F d ps h = found_as f (seen text) F d (first_with its_role ps) h ∙ ap (λ o. option_map_or F o d) (first_seen text its_role ps)

-- Numbers and names.

abbrev pub number_seen : Seen → ℕ
number_seen s = held (number_of s.spelling.bytes)

abbrev pub number : ℕ → ℕ → List Seen → ℕ
number its_role other xs = option_map_or number_seen (first_of its_role xs) other

pub number_or_seen : (text : List ℕ) (its_role other : ℕ) (ps : List Piece) → number_or text its_role other ps ≡ number its_role other (all_seen text ps)
number_or_seen text its_role other ps = said_first text its_role (number_in text) number_seen other ps (λ p. refl)

abbrev pub name_seen : Spelling → List ℕ
name_seen s = by s.kind where
  by : TokenKind → List ℕ
  by token.Quoted = unquoted (drop 1 s.bytes)
  by token.Word = s.bytes
  by token.Text = s.bytes
  by token.Hex = s.bytes
  by token.Number = s.bytes
  by token.Mark = s.bytes

name_of_seen : (text : List ℕ) (t : Token) → name_of text t ≡ name_seen (spelling_of text t)
name_of_seen text t = by t.kind where
  by : (k : TokenKind) → name_of text (record { kind = k; from = t.from; to = t.to }) ≡ name_seen (spelling_of text (record { kind = k; from = t.from; to = t.to }))
  by token.Quoted = refl
  by token.Word = refl
  by token.Text = refl
  by token.Hex = refl
  by token.Number = refl
  by token.Mark = refl

abbrev pub folded : Seen → List ℕ
folded s = map lower (name_seen s.spelling)

abbrev pub folded_first : ℕ → List Seen → List ℕ
folded_first its_role xs = option_map_or folded (first_of its_role xs) []

folded_seen : (text : List ℕ) (p : Piece) → folded_name text p ≡ folded (seen text p)
folded_seen text p = ap (map lower) (name_of_seen text p.token)

pub folded_with_seen : (text : List ℕ) (its_role : ℕ) (ps : List Piece) → folded_with text its_role ps ≡ folded_first its_role (all_seen text ps)
folded_with_seen text its_role ps = said_first text its_role (folded_name text) folded [] ps (folded_seen text)

pub name_with_seen : (text : List ℕ) (its_role : ℕ) (ps : List Piece) → name_with text its_role ps ≡ option_map_or (λ s. name_seen s.spelling) (first_of its_role (all_seen text ps)) []
name_with_seen text its_role ps = said_first text its_role (λ p. name_of text p.token) (λ s. name_seen s.spelling) [] ps (λ p. name_of_seen text p.token)

abbrev pub all_folded : ℕ → List Seen → List (List ℕ)
all_folded its_role xs = map folded (filter (λ s. s.role == its_role) xs)

each_folded : (text : List ℕ) (ps : List Piece) → map (folded_name text) ps ≡ map folded (all_seen text ps)
each_folded text [] = refl
each_folded text (p ∷ ps) = λ i. folded_seen text p i ∷ each_folded text ps i

pub all_folded_seen : (text : List ℕ) (its_role : ℕ) (ps : List Piece) → all_folded_with text its_role ps ≡ all_folded its_role (all_seen text ps)
all_folded_seen text its_role ps = each_folded text (filter (λ p. p.role == its_role) ps) ∙ ap (map folded) (filter_map (seen text) (λ s. s.role == its_role) ps)

-- Kinds.

abbrev pub word_seen : List Seen → ℕ
word_seen xs = option_map_or (λ s. s.kind) (first_of role.TYPE xs) terminal.TIMESTAMP
