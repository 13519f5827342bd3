use Rattle.dm_gen.specs.Generated.{source_files}
use Rattle.dm_gen.proofs.Ranges.{pieces_pushed}
use Rattle.dm_gen.proofs.task_files.files.Goals as goal

pub loop-source-preserved : goal.loop-source-preserved
loop-source-preserved c = pieces_pushed (source_files c.args.number) c.loop-source.source c.loop-source.files.items c.push_source.new.files.items c.loop-source.invariant c.in_ok-push_source.ensures
