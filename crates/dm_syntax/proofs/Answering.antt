-- A text says one thing: what parsing found.
use Rattle.std.proofs.Common.{◌≡◌, ℕ, Bool, true, false, List, Option, Some, None, Result, Ok, Err, refl, sym, ap, ◌∙◌, subst}
use Rattle.std.specs.Prelude.{⊤, MatchBool}
use Rattle.std.specs.Option.{option_map}
use Rattle.dm_list.specs.Answer.{Answers}
use Rattle.dm_grammar.specs.Sentence.{IsSentence, IsReading}
use Rattle.dm_grammar.specs.declared.reader.Fault.{Fault}
use Rattle.dm_lex.specs.declared.token.Token.{Token}
use Rattle.dm_lex.specs.declared.token.LexFault.{LexFault}
use Rattle.dm_lex.specs.Tokens.{tokens_of}
use Rattle.dm_syntax.specs.declared.fault.DdlFault.{DdlFault}
use Rattle.dm_syntax.specs.declared.piece.Piece.{Piece}
use Rattle.dm_syntax.specs.declared.parsing.Extent.{Extent}
use Rattle.dm_syntax.specs.Classes.{in_class}
use Rattle.dm_syntax.specs.Pieces.{pieces_of}
use Rattle.dm_syntax.specs.Parsing.{grammar_of, kinds_of, placed, IsStatement, SaysLexed, Says, OrMemory, is_memory, judged_as}

-- whoever reads these tokens as a statement finds these pieces, and no fault
abbrev pub IsOnly : Extent → List ℕ → List Piece → Option DdlFault → Type 0
IsOnly extent text pieces fault =
    (tokens : List Token) (roles : List ℕ) → tokens_of text ≡ Ok tokens → IsStatement extent text tokens roles
    → (fault ≡ None) × (pieces ≡ pieces_of tokens (kinds_of text tokens) roles)

pub each_is_parsed : (extent : Extent) (text : List ℕ) (lexed : List Token) (kinds found : List ℕ) (first : Option Fault) (pieces : List Piece) (fault : Option DdlFault)
    → Ok lexed ≡ tokens_of text → kinds ≡ kinds_of text lexed
    → ((roles : List ℕ) → IsSentence in_class (grammar_of extent kinds) kinds roles → (found ≡ roles) × (first ≡ None))
    → pieces ≡ pieces_of lexed kinds found → fault ≡ option_map (placed text lexed) first
    → IsOnly extent text pieces fault
each_is_parsed extent text lexed kinds found first pieces fault here seen only made at tokens roles e spelled =
    let same : lexed ≡ tokens = let both : ◌≡◌ {A = Result (List Token) LexFault} (Ok lexed) (Ok tokens) = here ∙ e in cc in
    let sees : kinds ≡ kinds_of text tokens = seen ∙ ap (kinds_of text) same in
    let one = only roles (subst (λ (ks : List ℕ). IsSentence in_class (grammar_of extent ks) ks roles) (sym sees) spelled) in
    (at ∙ ap (option_map (placed text lexed)) one.1, made ∙ rw (one.0, sees, same) refl)

pub same_pieces : (tokens : List Token) (kinds others roles found : List ℕ) → others ≡ kinds → found ≡ roles → pieces_of tokens others found ≡ pieces_of tokens kinds roles
same_pieces tokens kinds others roles found k r = rw (k, r) refl

-- a fault is no value
abbrev pub IsStrict : {A : Type 0} → (List Piece → Option DdlFault → Result A DdlFault) → Type 0
IsStrict {A} judged = (pieces : List Piece) (fault : DdlFault) (value : A) → Ok value ≡ judged pieces (Some fault) → ⊥

pub only_answer : {A : Type 0} (extent : Extent) (text : List ℕ) (judged : List Piece → Option DdlFault → Result A DdlFault) (pieces : List Piece) (fault : Option DdlFault)
    → IsStrict judged → IsOnly extent text pieces fault → (value : A) → Says extent judged text (Ok value) → (fault ≡ None) × (Ok value ≡ judged pieces None)
only_answer {A} extent text judged pieces fault strict only value says = lexed (tokens_of text) refl says where
  found : (tokens : List Token) (roles : List ℕ) (first : Option Fault) (read : List Piece) (at : Option DdlFault) → tokens_of text ≡ Ok tokens
      → IsReading in_class (grammar_of extent (kinds_of text tokens)) (kinds_of text tokens) roles first
      → read ≡ pieces_of tokens (kinds_of text tokens) roles → at ≡ option_map (placed text tokens) first → Ok value ≡ judged read at → (fault ≡ None) × (Ok value ≡ judged pieces None)
  found tokens roles None read at e reading made place answer =
      let one = only tokens roles e reading in
      (one.0, answer ∙ rw (place, made, one.1) refl)
  found tokens roles (Some f) read at e reading made place answer = absurd (strict read (placed text tokens f) value (answer ∙ ap (judged read) place))

  lexed : (r : Result (List Token) LexFault) → tokens_of text ≡ r → SaysLexed extent judged text r (Ok value) → (fault ≡ None) × (Ok value ≡ judged pieces None)
  lexed (Err f) e says = absurd cc
  lexed (Ok tokens) e says = found tokens says.2.0 says.2.1 says.0 says.1 e says.2.2 says.2.3 says.2.4 says.3

-- what pieces say is what the text says
pub says_as : {A : Type 0} (extent : Extent) (text : List ℕ) (judged : List Piece → Option DdlFault → Result A DdlFault) (pieces : List Piece) (fault : Option DdlFault) (r : Result A DdlFault)
    → Says extent judged_as text (Ok (pieces, fault)) → Answers is_memory r (judged pieces fault) → OrMemory (Says extent judged text) r
says_as {A} extent text judged pieces fault r parsed answers = answered r answers where
  lexed : (x : Result A DdlFault) (t : Result (List Token) LexFault) → SaysLexed extent judged_as text t (Ok (pieces, fault)) → x ≡ judged pieces fault → SaysLexed extent judged text t x
  lexed x (Err e) says h = absurd cc
  lexed x (Ok tokens) says h =
      let found : (pieces, fault) ≡ (says.0, says.1) = let both : ◌≡◌ {A = Result (List Piece × Option DdlFault) DdlFault} (Ok (pieces, fault)) (Ok (says.0, says.1)) = says.3 in cc in
      (says.0, says.1, says.2, h ∙ ap (λ (pf : List Piece × Option DdlFault). judged pf.0 pf.1) found)

  failed : (e : DdlFault) (m : Bool) → is_memory e ≡ m → MatchBool m ⊤ (Err e ≡ judged pieces fault) → OrMemory (Says extent judged text) (Err e)
  failed e true t h = rw t tt
  failed e false t h = rw t (lexed (Err e) (tokens_of text) parsed h)

  answered : (x : Result A DdlFault) → Answers is_memory x (judged pieces fault) → OrMemory (Says extent judged text) x
  answered (Ok v) h = lexed (Ok v) (tokens_of text) parsed h
  answered (Err e) h = failed e (is_memory e) refl h
