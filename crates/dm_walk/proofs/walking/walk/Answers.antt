use Rattle.std.proofs.Common.{◌≡◌, ◌∙◌, ◌++◌, ap, map, take, length, arith}
use Rattle.std.proofs.lemmas.Result.{IfOk-weaker}
use Rattle.dm_stream.specs.Logs.{Log, log_of}
use Rattle.dm_stream.specs.Views.{seen_file}
use Rattle.dm_walk.specs.Walks.{walked, with_end}
use Rattle.dm_stream.proofs.Heads.{the_heads, they_are}
use Rattle.dm_stream.specs.Rests.{left}
use Rattle.dm_walk.proofs.Logs.{take_whole}
use Rattle.dm_walk.proofs.Says.{statements_are, the_statements}
use Rattle.dm_walk.proofs.Shorts.{log_short}
use Rattle.dm_walk.proofs.walking.walk.Goals as goal

pub add_events-requires : goal.add_events-requires
add_events-requires c = λ heads are. log_short heads c.args.start c.args.files.now (left heads c.in_ok-stream.stream) c.requires (c.in_ok-stream.ensures.log heads)

pub returns-in_err-stream-clause-exist : goal.returns-in_err-stream-clause-exist
returns-in_err-stream-clause-exist c = (the_heads, the_statements, they_are, statements_are)

pub returns-in_err-histories-clause-exist : goal.returns-in_err-histories-clause-exist
returns-in_err-histories-clause-exist c = (the_heads, the_statements, they_are, statements_are)

pub returns-in_err-add_events-clause-exist : goal.returns-in_err-add_events-clause-exist
returns-in_err-add_events-clause-exist c = (the_heads, the_statements, they_are, statements_are)

pub returns-clause-exist : goal.returns-clause-exist
returns-clause-exist c = (the_heads, the_statements, they_are, statements_are)

pub returns-clause-walked : goal.returns-clause-walked
returns-clause-walked c =
    let long : c.in_ok-histories.histories.len ≡ length c.add_events.new.histories = omega arith in
    IfOk-weaker c.closed.result (λ new. new.items ≡ map (with_end c.fault.result) (take c.in_ok-histories.histories.len (c.add_events.new.histories ++ _))) _
    (λ new is heads statements are says.
    is
    ∙ ap (map (with_end c.fault.result)) (take_whole c.add_events.new.histories _ c.in_ok-histories.histories.len long)
    ∙ c.in_ok-add_events.ensures heads statements c.fault.result are says (c.fault.ensures heads)
    ∙ ap (λ (log : Log). map (walked statements c.args.rules.now log) c.deref_mut.result.now) (c.in_ok-stream.ensures.log heads)
    ∙ ap (map (walked statements c.args.rules.now (log_of heads c.args.start (map seen_file c.args.files.now)))) (c.deref_mut.ensures.value ∙ c.in_ok-histories.ensures))
    c.closed.ensures
