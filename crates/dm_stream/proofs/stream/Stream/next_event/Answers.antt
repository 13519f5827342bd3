use Rattle.std.proofs.Common.{◌∙◌, ap, map}
use Rattle.dm_stream.specs.Views.{seen_file}
use Rattle.dm_stream.specs.Rests.{is_ready, left, no_heads}
use Rattle.dm_stream.proofs.Heads.{the_heads, they_are}
use Rattle.dm_stream.proofs.LogLemmas.{steps, fewer, behind_last}
use Rattle.dm_stream.proofs.stream.Stream.next_event.Goals as goal

pub returns-clause-gives : goal.returns-clause-gives
returns-clause-gives c = λ heads are.
    let it = c.self.inside in
    steps heads c.args.self.now (record { front = it.front; files = map seen_file it.files.now; start = it.start }) c.next_event.new.self c.next_event.result (ap is_ready c.self.view_is ∙ c.in_ok-advance.ensures.ready) (ap (left heads) c.self.view_is ∙ c.in_ok-advance.ensures.same heads)
    (c.next_event.ensures.gives heads are) c.next_event.ensures.moves

pub returns-clause-fewer : goal.returns-clause-fewer
returns-clause-fewer c =
    let it = c.self.inside in
    fewer the_heads c.args.self.now (record { front = it.front; files = map seen_file it.files.now; start = it.start }) c.next_event.new.self c.next_event.result (ap (left no_heads) c.self.view_is ∙ c.in_ok-advance.ensures.same no_heads)
    (c.next_event.ensures.gives the_heads they_are) c.next_event.ensures.moves

pub returns-clause-behind : goal.returns-clause-behind
returns-clause-behind c =
    let it = c.self.inside in
    behind_last the_heads (record { front = it.front; files = map seen_file it.files.now; start = it.start }) c.next_event.new.self c.next_event.result (ap is_ready c.self.view_is ∙ c.in_ok-advance.ensures.ready)
    (c.next_event.ensures.gives the_heads they_are) c.next_event.ensures.moves
