use Rattle.std.proofs.Common.{◌≡◌, drop, Some}
use Rattle.std.proofs.lemmas.Result.{IfOk-weaker}
use Rattle.dm_binlog.specs.Bodies.{table_map_of}
use Rattle.dm_encode.specs.Events.{event, map_body, maps_of}
use Rattle.dm_encode.proofs.Bodies.{event_room}
use Rattle.dm_encode.proofs.MapsBack.{map_back, made_is}
use Rattle.dm_encode.proofs.maps.write_map.Goals as goal

pub event-requires : goal.event-requires
event-requires c =
    event_room 19 (map_body c.args.id c.args.db.now c.args.table.now c.args.schema.now) _ _ c.deref.ensures.value
    (made_is c.args.id c.args.db.now c.args.table.now _ _ _ c.args.schema.now c.as_slice.ensures c.as_slice-2.ensures c.in_ok-body.ensures.value) c.requires.size

pub returns-clause-read_back : goal.returns-clause-read_back
returns-clause-read_back c =
    IfOk-weaker c.event.result (λ v. v.items ≡ event 19 c.deref.result.now)
    (λ v. table_map_of (drop 19 v.items) ≡ Some (record { id = c.args.id; db = c.args.db.now; table = c.args.table.now; columns = maps_of c.args.schema.now.columns }))
    (λ v is. map_back c.args.id c.args.db.now c.args.table.now v.items _ _ c.args.schema.now c.requires.id c.requires.names c.requires.size c.in_ok-body.ensures.mapped c.deref.ensures.value
    (made_is c.args.id c.args.db.now c.args.table.now _ _ _ c.args.schema.now c.as_slice.ensures c.as_slice-2.ensures c.in_ok-body.ensures.value) is) c.event.ensures.value
