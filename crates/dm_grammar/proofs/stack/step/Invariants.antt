use Rattle.std.proofs.Common.{◌≡◌, length}
use Rattle.dm_grammar.specs.Determinism.{after, sequence}
use Rattle.dm_grammar.specs.Meaning.{rests_of}
use Rattle.dm_grammar.proofs.stack.step.Given as goal

-- what is left on the stack goes on with the token as the whole stack does
abbrev pub invariant-loop-top : goal.invariant-loop-top
invariant-loop-top g l = after g.C.Classes.has (sequence (rests_of l.stack.items)) l.kind ≡ after g.C.Classes.has (sequence (rests_of l.initial.stack.items)) l.kind

abbrev pub decreases-loop-top : goal.decreases-loop-top
decreases-loop-top g l = length l.stack.items
