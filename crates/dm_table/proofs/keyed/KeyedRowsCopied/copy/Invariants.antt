use Rattle.dm_table.proofs.Entries.{Puts}
use Rattle.dm_table.proofs.keyed.KeyedRowsCopied.copy.Given as goal

abbrev pub invariant-loop-key : goal.invariant-loop-key
invariant-loop-key l = Puts l.copy l.key-iterator l.self
