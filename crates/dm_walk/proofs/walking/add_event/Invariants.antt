use Rattle.std.proofs.Common.{◌≡◌, ◌++◌, map, take, drop}
use Rattle.dm_stream.specs.Views.{seen}
use Rattle.dm_walk.specs.Walks.{with_event, AreStatements, Statements}
use Rattle.dm_walk.proofs.walking.add_event.Given as goal

abbrev pub invariant-loop-history : goal.invariant-loop-history
invariant-loop-history l =
    (statements : Statements) → AreStatements statements
    → l.histories ≡ map (λ t. with_event statements l.rules t (seen l.logged)) (take l.history-index l.initial.histories) ++ drop l.history-index l.initial.histories
