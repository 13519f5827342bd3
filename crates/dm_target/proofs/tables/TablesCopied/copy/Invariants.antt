use Rattle.dm_target.proofs.Entries.{Puts}
use Rattle.dm_target.proofs.tables.TablesCopied.copy.Given as goal

abbrev pub invariant-loop-name : goal.invariant-loop-name
invariant-loop-name l = Puts l.copy l.name-iterator l.self
