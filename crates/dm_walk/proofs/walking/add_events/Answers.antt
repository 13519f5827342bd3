use Rattle.std.proofs.Common.{sym, ◌∙◌}
use Rattle.dm_stream.proofs.Heads.{the_heads, they_are}
use Rattle.dm_stream.specs.Rests.{left}
use Rattle.dm_stream.specs.Views.{seen}
use Rattle.dm_walk.proofs.Logs.{all_kept, all_stay, walked_end}
use Rattle.dm_walk.proofs.Shorts.{next_is, none_left, rest_short}
use Rattle.dm_walk.proofs.walking.add_events.Goals as goal

pub add_taken-requires : goal.add_taken-requires
add_taken-requires c =
    let next = next_is (left the_heads c.loop-logged.stream) (left the_heads c.next_event.new.self) c.in_ok-logged.field-0 c.in-Some.logged c.in-Some.is (c.in_ok-logged.ensures.gives the_heads they_are) in
    (rest_short _ _ _ next (c.loop-logged.invariant.short the_heads they_are)).0

pub loop-logged-preserved : goal.loop-logged-preserved
loop-logged-preserved c = record {
  short = λ heads are.
      (rest_short _ _ _ (next_is (left heads c.loop-logged.stream) (left heads c.next_event.new.self) c.in_ok-logged.field-0 c.in-Some.logged c.in-Some.is (c.in_ok-logged.ensures.gives heads are))
      (c.loop-logged.invariant.short heads are)).1;
  same = λ heads statements are says.
      all_kept statements c.args.rules.now (left heads c.loop-logged.stream) (left heads c.next_event.new.self) (seen c.in-Some.logged) c.loop-logged.histories c.add_taken.new.histories _
      (next_is (left heads c.loop-logged.stream) (left heads c.next_event.new.self) c.in_ok-logged.field-0 c.in-Some.logged c.in-Some.is (c.in_ok-logged.ensures.gives heads are))
      (c.in_ok-logged.ensures.fault heads) (c.in_ok-add_taken.ensures statements says) (c.loop-logged.invariant.same heads statements are says);
}

pub returns-then-have_ended : goal.returns-then-have_ended
returns-then-have_ended c = λ heads statements fault are says behind.
    all_stay statements c.args.rules.now (left heads c.next_event.new.self) fault c.add_taken.new.histories (sym c.have_ended.ensures ∙ c.if-have_ended.true)
    ∙ all_kept statements c.args.rules.now (left heads c.loop-logged.stream) (left heads c.next_event.new.self) (seen c.in-Some.logged) c.loop-logged.histories c.add_taken.new.histories _
    (next_is (left heads c.loop-logged.stream) (left heads c.next_event.new.self) c.in_ok-logged.field-0 c.in-Some.logged c.in-Some.is (c.in_ok-logged.ensures.gives heads are))
    (c.in_ok-logged.ensures.fault heads) (c.in_ok-add_taken.ensures statements says) (c.loop-logged.invariant.same heads statements are says)

pub returns : goal.returns
returns c = λ heads statements fault are says behind.
    walked_end statements c.args.rules.now (left heads c.loop-logged.stream) fault c.loop-logged.histories
    (none_left (left heads c.loop-logged.stream) (left heads c.next_event.new.self) c.in_ok-logged.field-0 c.in_default.is (c.in_ok-logged.ensures.gives heads are))
    (behind (rw c.in_default.is at c.in_ok-logged.ensures.behind) ∙ c.in_ok-logged.ensures.fault heads)
    ∙ c.loop-logged.invariant.same heads statements are says
