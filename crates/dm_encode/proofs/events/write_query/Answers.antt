use Rattle.std.proofs.Common.{◌≡◌, drop, Some, ap, ◌∙◌}
use Rattle.std.proofs.lemmas.Result.{IfOk-weaker}
use Rattle.dm_binlog.specs.Bodies.{query_of}
use Rattle.dm_encode.specs.Events.{event, query_body}
use Rattle.dm_encode.proofs.Bodies.{event_room, query_back}
use Rattle.dm_encode.proofs.events.write_query.Goals as goal

pub event-requires : goal.event-requires
event-requires c = event_room 2 (query_body c.args.db.now c.args.statement.now) _ _ c.deref.ensures.value (c.in_ok-body.ensures ∙ ap (λ db. query_body db c.args.statement.now) c.as_slice.ensures) c.requires.size

pub returns-clause-read_back : goal.returns-clause-read_back
returns-clause-read_back c =
    IfOk-weaker c.event.result (λ v. v.items ≡ event 2 c.deref.result.now) (λ v. query_of (drop 19 v.items) ≡ Some (record { db = c.args.db.now; statement = c.args.statement.now }))
    (λ v is. query_back v.items _ _ c.args.db.now c.args.statement.now c.requires.db c.deref.ensures.value (c.in_ok-body.ensures ∙ ap (λ db. query_body db c.args.statement.now) c.as_slice.ensures) is) c.event.ensures.value
