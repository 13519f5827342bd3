-- The sentences of a grammar, and the first fault of tokens that are none.
use Rattle.std.specs.Prelude.{◌≡◌, ℕ, List, [], ◌∷◌, ◌++◌, map, length, Option, Some, None}
use Rattle.dm_grammar.specs.Grammar.{Grammar, Membership, Letter, Spells, unsupported}
use Rattle.dm_grammar.specs.declared.reader.Fault.{Fault}
use Rattle.dm_grammar.specs.declared.reader.Fault.TheVariants.{Syntax, Unsupported}

abbrev pub kinds_of : List Letter → List ℕ
kinds_of = map (λ letter. letter.0)

abbrev pub roles_of : List Letter → List ℕ
roles_of = map (λ letter. letter.1)

abbrev pub AllSupported : List Letter → Type 0
AllSupported [] = Unit {0}
AllSupported (letter ∷ letters) = (letter.1 ≡ unsupported → ⊥) × AllSupported letters

-- the tokens are a sentence, with these roles
abbrev pub IsSentence : Membership → Grammar → List ℕ → List ℕ → Type 0
IsSentence has g kinds roles =
    (letters : List Letter) × (kinds_of letters ≡ kinds) × (roles_of letters ≡ roles) × AllSupported letters × Spells has g letters

-- a sentence begins with the tokens, which have these roles in it
abbrev pub BeginsSentence : Membership → Grammar → List ℕ → List ℕ → Type 0
BeginsSentence has g kinds roles =
    (letters : List Letter) × (more : List Letter) × (kinds_of letters ≡ kinds) × (roles_of letters ≡ roles) × AllSupported (letters ++ more) × Spells has g (letters ++ more)

-- a viable prefix: some sentence begins with the tokens
abbrev pub IsViablePrefix : Membership → Grammar → List ℕ → Type 0
IsViablePrefix has g kinds = (roles : List ℕ) × BeginsSentence has g kinds roles

-- behind the tokens the grammar has a word that is not supported, and the next token is such a word
abbrev pub ShowsUnsupported : Membership → Grammar → List ℕ → ℕ → Type 0
ShowsUnsupported has g kinds next =
    (letters : List Letter) × (more : List Letter) × (kinds_of letters ≡ kinds) × AllSupported letters × Spells has g (letters ++ ((next, unsupported) ∷ more))

-- No sentence goes on as the rest does: where there is no rest, the front is none.
abbrev pub GoesNowhere : Membership → Grammar → List ℕ → List ℕ → Type 0
GoesNowhere has g front [] = (roles : List ℕ) → IsSentence has g front roles → ⊥
GoesNowhere has g front (next ∷ rest) = (IsViablePrefix has g (front ++ next ∷ []) → ⊥) × (ShowsUnsupported has g front next → ⊥)

-- the rest begins with a word that is not supported, where no sentence has it
abbrev pub MeetsUnsupported : Membership → Grammar → List ℕ → List ℕ → Type 0
MeetsUnsupported has g front [] = ⊥
MeetsUnsupported has g front (next ∷ rest) = (IsViablePrefix has g (front ++ next ∷ []) → ⊥) × ShowsUnsupported has g front next

-- the fault lies behind the front
abbrev pub IsFault : Membership → Grammar → List ℕ → List ℕ → Fault → Type 0
IsFault has g front rest (Syntax at) = (length front ≡ at) × GoesNowhere has g front rest
IsFault has g front rest (Unsupported at) = (length front ≡ at) × MeetsUnsupported has g front rest

-- what reading answers: a sentence's roles, or the roles before the first fault
abbrev pub IsReading : Membership → Grammar → List ℕ → List ℕ → Option Fault → Type 0
IsReading has g kinds roles None = IsSentence has g kinds roles
IsReading has g kinds roles (Some fault) =
    (front : List ℕ) × (rest : List ℕ) × (kinds ≡ front ++ rest) × BeginsSentence has g front roles × IsFault has g front rest fault
