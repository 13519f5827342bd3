use Rattle.std.proofs.Common.{◌≡◌, length}
use Rattle.std.specs.Vec.Iter.{into_iter_items, into_iter_len}
use Rattle.dm_top.specs.Reading.{named_of}
use Rattle.dm_top.specs.Sources.{said_of}
use Rattle.dm_top.proofs.Gathering.{SoFar}
use Rattle.dm_top.proofs.sources.read_sources.Given as goal

-- the iterator has as many files as its length says
abbrev pub invariant-loop-file : goal.invariant-loop-file
invariant-loop-file l = SoFar (named_of l.fn.files.items) (named_of (into_iter_items l.file-iterator)) (said_of l.sources.items) × (into_iter_len l.file-iterator ≡ length (into_iter_items l.file-iterator))
