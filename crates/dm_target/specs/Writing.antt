-- What a writing call leaves of a target, by its answer.
use Rattle.std.specs.Prelude.{◌≡◌, ◌⊎◌, ⊤, Bool, List, [], ◌∷◌, ◌++◌, Option, Some, None, Result, Ok, Err, IsTrue, IsFalse, IfSome}
use Rattle.dm_target.specs.declared.call.Call.{Call}
use Rattle.dm_target.specs.declared.target.TargetError.{TargetError}
use Rattle.dm_target.specs.declared.target.TargetError.TheVariants as error
use Rattle.dm_target.specs.Asking.{is_proper}
use Rattle.dm_target.specs.Contents.{Content, effect}

-- What is asked of a call holds of the content, where that is told.
abbrev pub IsProper : Call → Option Content → Type 0
IsProper call content = IfSome content (λ told. IsTrue (is_proper call told))

-- the call has an effect, which is the content now
abbrev pub Takes : Call → Content → Option Content → Type 0
Takes call before now = (left : Content) × (effect call before ≡ Ok left) × (now ≡ Some left)

-- A call happens whole or not at all: what the content is now, where it was told before.
abbrev pub Writes : Call → (Call → Bool) → Option Content → Option Content → Result (Unit {0}) TargetError → Type 0
Writes call full None now answer = now ≡ None
Writes call full (Some before) now (Ok _) = Takes call before now × IsFalse (full call)
Writes call full (Some before) now (Err (error.Rejected fault)) = (effect call before ≡ Err fault) × (now ≡ Some before)
Writes call full (Some before) now (Err error.Failed) = (now ≡ Some before) ⊎ Takes call before now
Writes call full (Some before) now (Err error.Full) = ((left : Content) × (effect call before ≡ Ok left)) × IsTrue (full call) × (now ≡ Some before)
Writes call full (Some before) now (Err error.Memory) = now ≡ Some before

-- What the answer says of a call that is only tried.
abbrev pub IsTried : Call → Content → Result (Unit {0}) TargetError → Type 0
IsTried call content (Ok _) = (left : Content) × (effect call content ≡ Ok left)
IsTried call content (Err (error.Rejected fault)) = effect call content ≡ Err fault
IsTried call content (Err error.Failed) = ⊥
IsTried call content (Err error.Full) = ⊥
IsTried call content (Err error.Memory) = ⊤

-- the call stands behind the others
abbrev pub AddsCall : Call → List Call → Option (List Call) → Type 0
AddsCall call before now = now ≡ Some (before ++ call ∷ [])

-- The list of the calls that took effect grows with the content.
abbrev pub Grows : Call → Option (List Call) → Option (List Call) → Result (Unit {0}) TargetError → Type 0
Grows call None now answer = now ≡ None
Grows call (Some before) now (Ok _) = AddsCall call before now
Grows call (Some before) now (Err (error.Rejected fault)) = now ≡ Some before
Grows call (Some before) now (Err error.Failed) = (now ≡ Some before) ⊎ AddsCall call before now
Grows call (Some before) now (Err error.Full) = now ≡ Some before
Grows call (Some before) now (Err error.Memory) = now ≡ Some before

-- Of a call that failed the content and the calls tell the same: both are those before, or the call took its effect.
abbrev pub IsWhole : Call → Option Content → Option Content → Option (List Call) → Option (List Call) → Type 0
IsWhole call before now calls_before calls_now =
    ((now ≡ before) × (calls_now ≡ calls_before)) ⊎ (IfSome before (λ told. Takes call told now) × IfSome calls_before (λ told. AddsCall call told calls_now))

-- the call didn't fail
abbrev pub NotFailed : Result (Unit {0}) TargetError → Type 0
NotFailed (Ok _) = ⊤
NotFailed (Err (error.Rejected fault)) = ⊤
NotFailed (Err error.Failed) = ⊥
NotFailed (Err error.Full) = ⊤
NotFailed (Err error.Memory) = ⊤
