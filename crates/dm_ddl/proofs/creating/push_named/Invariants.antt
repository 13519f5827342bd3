use Rattle.std.proofs.Common.{◌≡◌, drop}
use Rattle.dm_ddl.specs.Creating.{named_behind}
use Rattle.dm_ddl.proofs.creating.push_named.Given as goal

abbrev pub invariant-loop-key : goal.invariant-loop-key
invariant-loop-key l = named_behind l.keys.items (drop l.key-index l.written) ≡ named_behind l.fn.keys.items l.written
