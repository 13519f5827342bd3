use Rattle.std.proofs.Common.{◌≡◌, drop}
use Rattle.dm_ddl.specs.Columns.{is_key_from, is_primary_column}
use Rattle.dm_ddl.proofs.columns.is_primary_column.Given as goal

abbrev pub invariant-loop-piece : goal.invariant-loop-piece
invariant-loop-piece l = is_key_from l.behind_unique (drop l.piece-index l.item) ≡ is_primary_column l.item
