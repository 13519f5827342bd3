-- Reading by derivatives: what the reader computes.
use Rattle.std.specs.Prelude.{◌≡◌, ℕ, suc, ◌==◌, List, [], ◌∷◌, Option, Some, None, if◌then◌else◌}
use Rattle.dm_grammar.specs.Grammar.{Grammar, Membership, unsupported}
use Rattle.dm_grammar.specs.Determinism.{Next, after, sequence, is_nullable}
use Rattle.dm_grammar.specs.declared.reader.Fault.{Fault}
use Rattle.dm_grammar.specs.declared.reader.Fault.TheVariants.{Syntax, Unsupported}

-- the roles that were given, and the fault that stopped it
abbrev pub Outcome : Type 0
Outcome = List ℕ × Option Fault

-- one token later
abbrev pub later : Option Fault → Option Fault
later None = None
later (Some (Syntax at)) = Some (Syntax (suc at))
later (Some (Unsupported at)) = Some (Unsupported (suc at))

abbrev pub with_role : ℕ → Outcome → Outcome
with_role role outcome = (role ∷ outcome.0, later outcome.1)

-- reading goes on where the next token leads to
abbrev pub read_next : Next → (Grammar → Outcome) → Outcome
read_next None read = ([], Some (Syntax 0))
read_next (Some next) read = if next.0 == unsupported then ([], Some (Unsupported 0)) else with_role next.0 (read (sequence next.1))

-- what reading gives of the kinds
unfoldable pub read_from : Membership → List ℕ → Grammar → Outcome
read_from has [] g = if is_nullable g then ([], None) else ([], Some (Syntax 0))
read_from has (kind ∷ kinds) g = read_next (after has g kind) (read_from has kinds)

-- Token by token.

-- what reading gives where a token was taken with the role, or was not taken, by what it gives behind the token
abbrev pub read_behind : Option ℕ → Outcome → Outcome
read_behind None rest = ([], Some (Syntax 0))
read_behind (Some role) rest = if role == unsupported then ([], Some (Unsupported 0)) else with_role role rest

-- The token was taken with the role, and whatever comes behind it is read by what is new; or no sentence has it here.
abbrev pub Takes : Membership → ℕ → Option ℕ → Grammar → Grammar → Type 0
Takes has kind taken old new = (kinds : List ℕ) → read_from has (kind ∷ kinds) old ≡ read_behind taken (read_from has kinds new)

-- whatever comes is read by both alike
abbrev pub ReadsAs : Grammar → Grammar → Type 0
ReadsAs one other = (has : Membership) (kinds : List ℕ) → read_from has kinds one ≡ read_from has kinds other
