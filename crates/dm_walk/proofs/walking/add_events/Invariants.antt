use Rattle.std.proofs.Common.{◌≡◌, map}
use Rattle.dm_stream.specs.Logs.{AreHeads}
use Rattle.dm_stream.specs.Rests.{events_left, left}
use Rattle.dm_stream.specs.Sayings.{Heads}
use Rattle.dm_walk.specs.Steps.{AreShort}
use Rattle.dm_walk.specs.Walks.{walked, AreStatements, Statements}
use Rattle.dm_walk.proofs.walking.add_events.Given as goal

abbrev pub invariant-loop-logged : goal.invariant-loop-logged
invariant-loop-logged l = record {
  short : (heads : Heads) → AreHeads heads → AreShort (left heads l.stream).events;
  same : (heads : Heads) (statements : Statements) → AreHeads heads → AreStatements statements
      → map (walked statements l.rules (left heads l.stream)) l.histories ≡ map (walked statements l.rules (left heads l.initial.stream)) l.initial.histories;
}

abbrev pub decreases-loop-logged : goal.decreases-loop-logged
decreases-loop-logged l = events_left l.stream
