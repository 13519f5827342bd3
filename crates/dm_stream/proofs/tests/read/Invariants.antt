use Rattle.dm_stream.specs.Rests.{events_left}
use Rattle.dm_stream.proofs.tests.read.Given as goal

abbrev pub decreases-loop-stream : goal.decreases-loop-stream
decreases-loop-stream l = events_left l.stream
