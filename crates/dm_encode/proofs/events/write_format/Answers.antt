use Rattle.std.proofs.Common.{◌≡◌}
use Rattle.std.proofs.lemmas.Result.{IfOk-weaker}
use Rattle.dm_encode.specs.Events.{event}
use Rattle.dm_encode.specs.ReadBack.{IsOnlyEvent}
use Rattle.dm_encode.proofs.Bodies.{format_back, format_room}
use Rattle.dm_encode.proofs.events.write_format.Goals as goal

pub event-requires : goal.event-requires
event-requires c = format_room _ _ c.deref.ensures.value c.in_ok-body.ensures

pub returns-clause-read_back : goal.returns-clause-read_back
returns-clause-read_back c =
    IfOk-weaker c.event.result (λ v. v.items ≡ event 15 c.deref.result.now) (λ v. IsOnlyEvent 15 v.items) (λ v is. format_back _ _ _ c.deref.ensures.value c.in_ok-body.ensures is) c.event.ensures.value
