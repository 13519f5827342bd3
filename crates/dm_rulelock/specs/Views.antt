-- What a pass knows, before and after each call.
use Rattle.std.specs.Prelude.{ℕ, ◌+◌, ◌-◌, List, [], ◌∷◌, Option, Some, None}
use Rattle.dm_rulelock.specs.declared.view.View.{View}
use Rattle.dm_rulelock.specs.Positions.{greater}

module _ {I : Type 0} where
  -- the first pass of a lock stands for all callers, and has seen the value that the lock was made with
  abbrev pub first_view : I → List ℕ → ℕ → View I
  first_view inputs positions callers = record { inputs = Some inputs; callers = callers; seen = positions; taken = None }

  -- a pass that was joined into another knows nothing
  abbrev pub spent : View I
  spent = record { inputs = None; callers = 0; seen = []; taken = None }

  -- a pass that took a value marks the positions of that value
  abbrev pub after_take : View I → List ℕ → View I
  after_take v positions = record v { taken = Some positions }

  -- a pass that gave a value back has seen the positions of that value
  abbrev pub after_give : View I → List ℕ → View I
  after_give v positions = record v { seen = positions; taken = None }

  -- a pass that was split has one caller less
  abbrev pub after_split : View I → View I
  after_split v = record v { callers = v.callers - 1 }

  -- the pass that was split off has that caller, and has seen as much
  abbrev pub split_off : View I → View I
  split_off v = record v { callers = 1; taken = None }

  -- a pass that took in another has the callers of both, and has seen what either has
  abbrev pub after_join : View I → View I → View I
  after_join v w = record v { callers = v.callers + w.callers; seen = greater v.seen w.seen }

-- the slots that a pass holds: while it has taken, the one slot, out of which the value was brought
abbrev pub held_slots : {T : Type 0} → Option (List ℕ) → List (ℕ × Option T)
held_slots None = []
held_slots (Some positions) = (0, None) ∷ []
