use Rattle.std.proofs.Common.{◌≡◌, take, drop, [], Ok}
use Rattle.dm_schema.specs.Effect.{steps}
use Rattle.dm_alter.specs.Making.{making_of}
use Rattle.dm_alter.proofs.effects.after_all.Given as goal

abbrev pub invariant-loop-number : goal.invariant-loop-number
invariant-loop-number g l =
    steps (making_of l.bound) (g.R.DefaultReading.reads l.reading) (take l.number l.changes) (Ok l.after) (drop l.number l.changes)
    ≡ steps (making_of l.bound) (g.R.DefaultReading.reads l.reading) [] (Ok l.fn.schema) l.changes
