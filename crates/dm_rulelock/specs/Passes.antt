-- What clauses see of a lock and of its passes.
use Rattle.std.specs.Prelude.{◌≡◌, ℕ, None}
use Rattle.dm_rulelock.specs.Positions.{AtMost}
use Rattle.dm_rulelock.specs.declared.view.View.{View}
use Rattle.dm_rulelock.specs.declared.pass.Pass.{Pass}
use Rattle.dm_rulelock.specs.declared.lock.RuleLock.{RuleLock}

module _ {V I : Type 0} {k : _} where
  -- what the pass knows
  abbrev pub view : Pass V I k → View I
  view pass = pass.seat.me.0

  abbrev pub HasNotTaken : Pass V I k → Type 0
  HasNotTaken pass = (view pass).taken ≡ None

  -- the lock made the pass, or one that it was split off from
  abbrev pub IsPassOf : RuleLock V I → Pass V I k → Type 0
  IsPassOf lock pass = pass.seat.table_id ≡ lock.table.shared.table_id

  -- both are passes of one lock
  abbrev pub IsOfSameLock : Pass V I k → Pass V I k → Type 0
  IsOfSameLock old new = new.seat.table_id ≡ old.seat.table_id

-- the number of callers that the lock was made for
abbrev pub callers_of : {V I : Type 0} → RuleLock V I → ℕ
callers_of lock = lock.table.shared.key.callers

-- what a pass knows some calls later: its callers and inputs are the same, and it has seen no less
pub record IsLater {I : Type 0} (old new : View I) : Type 0 where
  pub callers : new.callers ≡ old.callers
  pub inputs : new.inputs ≡ old.inputs
  pub seen : AtMost old.seen new.seen
