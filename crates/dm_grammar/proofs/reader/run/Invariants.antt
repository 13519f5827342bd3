use Rattle.dm_grammar.specs.Reading.{read_from}
use Rattle.dm_grammar.specs.Meaning.{meaning}
use Rattle.dm_grammar.specs.Rests.{left}
use Rattle.dm_grammar.proofs.Prepend.{ReadSoFar}
use Rattle.dm_grammar.proofs.reader.run.Given as goal

abbrev pub invariant-loop-at : goal.invariant-loop-at
invariant-loop-at g l = ReadSoFar g.C.Classes.has l.kinds l.at (left l.reader) l.roles.items (read_from g.C.Classes.has l.kinds (meaning l.grammar))
