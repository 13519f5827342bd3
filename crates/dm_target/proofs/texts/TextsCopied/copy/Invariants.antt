use Rattle.dm_target.proofs.Entries.{Puts}
use Rattle.dm_target.proofs.texts.TextsCopied.copy.Given as goal

abbrev pub invariant-loop-name : goal.invariant-loop-name
invariant-loop-name l = Puts l.copy l.name-iterator l.self
