use Rattle.std.proofs.Common.{◌≡◌, take}
use Rattle.dm_lockstate.proofs.state.with_schema.Given as goal

abbrev pub invariant-loop-recorded : goal.invariant-loop-recorded
invariant-loop-recorded l = l.after.items ≡ take l.recorded-index l.schemas
