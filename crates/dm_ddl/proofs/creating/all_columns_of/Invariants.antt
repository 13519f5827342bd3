use Rattle.std.proofs.Common.{◌≡◌, ◌++◌, drop}
use Rattle.dm_ddl.specs.Creating.{all_columns_of}
use Rattle.dm_ddl.proofs.creating.all_columns_of.Given as goal

abbrev pub invariant-loop-key : goal.invariant-loop-key
invariant-loop-key l = l.names.items ++ all_columns_of (drop l.key-index l.keys) ≡ all_columns_of l.keys
