use Rattle.std.proofs.Common.{arith, ◌∙◌}
use Rattle.dm_stream.specs.Views.{seen}
use Rattle.dm_walk.specs.declared.track.Track.{Track}
use Rattle.dm_walk.specs.Walks.{with_event}
use Rattle.dm_walk.proofs.Logs.{all_placed, event_placed}
use Rattle.dm_walk.proofs.walking.add_event.Goals as goal

pub loop-history-preserved : goal.loop-history-preserved
loop-history-preserved c = λ statements are.
    event_placed (λ (t : Track). with_event statements c.args.rules.now t (seen c.args.logged.now)) c.args.histories.now c.loop-history.histories c.loop-history.history-index c.history-item.result c.add.new.self (omega arith) (c.loop-history.invariant statements are) (c.in_ok-add.ensures statements are)

pub returns : goal.returns
returns c = λ statements are.
    c.loop-history.invariant statements are ∙ all_placed (λ (t : Track). with_event statements c.args.rules.now t (seen c.args.logged.now)) c.args.histories.now c.loop-history.history-index (omega arith)
