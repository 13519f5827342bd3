use Rattle.std.proofs.Common.{◌≡◌, ◌++◌, length}
use Rattle.dm_ddl.specs.Names.{tables_in}
use Rattle.dm_ddl.proofs.names.tables_in.Given as goal

abbrev pub invariant-loop-part : goal.invariant-loop-part
invariant-loop-part l = l.tables.items ++ tables_in l.text l.rest ≡ tables_in l.text l.pieces

abbrev pub decreases-loop-part : goal.decreases-loop-part
decreases-loop-part l = length l.rest
