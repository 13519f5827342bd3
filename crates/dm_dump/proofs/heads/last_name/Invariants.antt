use Rattle.std.proofs.Common.{◌≡◌, drop, fold}
use Rattle.dm_dump.specs.Rows.{later_name, last_name}
use Rattle.dm_dump.proofs.heads.last_name.Given as goal

abbrev pub invariant-loop-piece : goal.invariant-loop-piece
invariant-loop-piece l = fold later_name l.last (drop l.piece-index l.unit) ≡ last_name l.unit
