-- The calls of a target that fail on purpose, and what such a call leaves.
use Rattle.std.specs.Prelude.{◌≡◌, ⊤, ℕ, nat_eq, List, Option, Some, None, Result, MatchBool}
use Rattle.std.specs.List.{find}
use Rattle.dm_target.specs.declared.blow.Blow.{Blow}
use Rattle.dm_target.specs.declared.target.TargetError.{TargetError}

-- how the call of a number is to fail; the first of equal numbers counts
abbrev pub blow_at : List Blow → ℕ → Option Blow
blow_at failing number = find (λ blow. nat_eq blow.call number) failing

-- What a call leaves of the inner target that is to fail: the target as it was, or, with the effect, what an answer of the inner
-- target leaves.
abbrev pub Leaves : {Inner : Type 0} → Option Blow → Inner → Inner → (Result (Unit {0}) TargetError → Type 0) → Type 0
Leaves None before now AnsweredBy = ⊤
Leaves (Some blow) before now AnsweredBy = MatchBool blow.done ((answer : Result (Unit {0}) TargetError) × AnsweredBy answer) (now ≡ before)
