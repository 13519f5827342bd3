-- What a reader still has to read.
use Rattle.dm_grammar.specs.Grammar.{Grammar}
use Rattle.dm_grammar.specs.Determinism.{sequence}
use Rattle.dm_grammar.specs.Meaning.{rests_of}
use Rattle.dm_grammar.specs.declared.reader.Reader.{Reader}

-- what lies on its stack, as one grammar
abbrev pub left : Reader → Grammar
left reader = sequence (rests_of reader.stack.items)
