-- Grammars, and what each of them spells.
use Rattle.std.specs.Prelude.{◌≡◌, ℕ, suc, zero, Bool, true, ◌==◌, List, [], ◌∷◌, ◌++◌, Option, Some, None, ◌⊎◌, if◌then◌else◌}

-- A grammar over kinds of tokens, the terminal symbols, which are numbers.
-- `Word class role` is one token of the class, and gives it the role.
-- `Skip depth` is a run of any tokens that closes `depth` brackets, and stands before the comma or the bracket that ends it.
pub data Grammar : Type 0 where
  Empty : Grammar
  Word : ℕ → ℕ → Grammar
  Skip : ℕ → Grammar
  Seq : Grammar → Grammar → Grammar
  Or : Grammar → Grammar → Grammar
  Many : Grammar → Grammar

-- `has class kind` says whether the class has the kind
abbrev pub Membership : Type 0
Membership = ℕ → ℕ → Bool

-- a token's kind, with its role
abbrev pub Letter : Type 0
Letter = ℕ × ℕ

abbrev pub opening_kind : ℕ
opening_kind = 1

abbrev pub closing_kind : ℕ
closing_kind = 2

abbrev pub comma_kind : ℕ
comma_kind = 3

-- the role of a word that is not supported
abbrev pub unsupported : ℕ
unsupported = 0

-- the role of a token in a skipped run
abbrev pub skipped : ℕ
skipped = 1

-- each kind is below it
abbrev pub kind_count : ℕ
kind_count = 128

-- how many brackets are open behind a token of a skipped run; `None` where the token ends the run
abbrev pub open_after : ℕ → ℕ → Option ℕ
open_after zero kind = if kind == opening_kind then Some 1 else if kind == closing_kind then None else if kind == comma_kind then None else Some 0
open_after (suc depth) kind = if kind == opening_kind then Some (suc (suc depth)) else if kind == closing_kind then Some depth else Some (suc depth)

-- a skipped run, at whose front `depth` brackets are open, and at whose end none is
abbrev pub Closes : ℕ → List Letter → Type 0
Closes depth [] = depth ≡ 0
Closes depth (letter ∷ letters) = (next : ℕ) × (open_after depth letter.0 ≡ Some next) × (letter.1 ≡ skipped) × Closes next letters

-- so many pieces of a kind, one behind another
abbrev pub Repeats : (List Letter → Type 0) → ℕ → List Letter → Type 0
Repeats Piece zero letters = letters ≡ []
Repeats Piece (suc count) letters = (front : List Letter) × (back : List Letter) × (letters ≡ front ++ back) × Piece front × Repeats Piece count back

-- the grammar spells the tokens, with these roles
abbrev pub Spells : Membership → Grammar → List Letter → Type 0
Spells has Empty letters = letters ≡ []
Spells has (Word class role) letters = (kind : ℕ) × (has class kind ≡ true) × (letters ≡ (kind, role) ∷ [])
Spells has (Skip depth) letters = Closes depth letters
Spells has (Seq a b) letters = (front : List Letter) × (back : List Letter) × (letters ≡ front ++ back) × Spells has a front × Spells has b back
Spells has (Or a b) letters = Spells has a letters ⊎ Spells has b letters
Spells has (Many a) letters = (count : ℕ) × Repeats (Spells has a) count letters
