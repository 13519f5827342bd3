use Rattle.dm_gen.specs.Tasks.{source_of}
use Rattle.dm_gen.proofs.Ranges.{range_pushed}
use Rattle.dm_gen.proofs.task.sources.Goals as goal

pub loop-source-preserved : goal.loop-source-preserved
loop-source-preserved c = range_pushed source_of c.loop-source.source c.loop-source.sources.items c.push.new.self.items _ c.loop-source.invariant c.in_ok-source_of.ensures c.in_ok-push.ensures.items
