use Rattle.dm_encode.specs.Events.{map_body}
use Rattle.dm_encode.proofs.MapsBack.{made_is}
use Rattle.dm_encode.proofs.Sizes.{event_small}
use Rattle.dm_encode.proofs.tests.map_bytes.Goals as goal

pub write_map-requires-clause-size : goal.write_map-requires-clause-size
write_map-requires-clause-size c =
    event_small 19 (map_body 5 c.in_ok-db.db c.in_ok-table.table c.args.schema.now) _ _ c.is_short.result c.deref.ensures.value
    (made_is 5 c.in_ok-db.db c.in_ok-table.table _ _ _ c.args.schema.now c.as_slice.ensures c.as_slice-2.ensures c.in_ok-body.ensures.value) c.is_short.ensures c.if-not-is_short.false
