use Rattle.std.proofs.Common.{◌≡◌}
use Rattle.toml.specs.View.{members_view}
use Rattle.dm_task.specs.Places.{texts}
use Rattle.dm_task.specs.Reading.{first_unlisted}
use Rattle.dm_task.proofs.keys.first_unlisted.Given as goal

abbrev pub invariant-loop-key : goal.invariant-loop-key
invariant-loop-key l =
    first_unlisted (texts l.keys) (members_view l.key-iterator) ≡ first_unlisted (texts l.keys) (members_view l.table.entries)
