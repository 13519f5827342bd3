use Rattle.std.proofs.Common.{◌≡◌, length}
use Rattle.dm_dump.specs.Streams.{contents_left, tokens_left}
use Rattle.dm_dump.proofs.source.Source.next_piece.Given as goal

abbrev pub invariant-loop-piece : goal.invariant-loop-piece
invariant-loop-piece l = record { contents : contents_left l.self ≡ contents_left l.fn.self; text : l.self.text.now ≡ l.fn.self.text.now }

abbrev pub decreases-loop-piece : goal.decreases-loop-piece
decreases-loop-piece l = length (tokens_left l.self)
