use Rattle.std.proofs.Common.{◌≡◌, ◌++◌, map, drop}
use Rattle.dm_syntax.specs.Pieces.{terminal_of}
use Rattle.dm_syntax.proofs.kinds.terminals_of.Given as goal

abbrev pub invariant-loop-token : goal.invariant-loop-token
invariant-loop-token l = l.kinds.items ++ map (terminal_of l.text) (drop l.token-index l.tokens) ≡ map (terminal_of l.text) l.tokens
