use Rattle.dm_gen.proofs.Logging.{live_some, log_begins, log_goes, next_small}
use Rattle.dm_gen.proofs.binlog.binlog.Goals as goal

pub loop-step-init : goal.loop-step-init
loop-step-init c = log_begins c.args.number c.args.source c.in_ok-walker.walker c.in_ok-bytes.bytes.items c.in_ok-walker.ensures c.in_ok-bytes.ensures

pub push_step-requires-clause-next : goal.push_step-requires-clause-next
push_step-requires-clause-next c = next_small c.args.number c.args.source c.loop-step.step c.loop-step.walker c.requires c.loop-step-test.true c.loop-step.invariant.0

pub push_step-requires-clause-live : goal.push_step-requires-clause-live
push_step-requires-clause-live c = live_some c.args.number c.args.source c.loop-step.step c.loop-step.walker c.requires c.loop-step.invariant.0

pub loop-step-preserved : goal.loop-step-preserved
loop-step-preserved c = log_goes c.args.number c.args.source c.loop-step.step c.loop-step.walker c.push_step.new.walker c.loop-step.bytes.items c.push_step.new.bytes.items c.loop-step.invariant c.in_ok-push_step.ensures.walk c.in_ok-push_step.ensures.bytes
