use Rattle.std.proofs.Common.{◌≡◌, drop, length, true, Some}
use Rattle.std.proofs.lemmas.Result.{IfOk-weaker}
use Rattle.dm_binlog.specs.Bodies.{rows_head_of}
use Rattle.dm_encode.specs.Events.{event, maps_of, rows_body, rows_front, rows_kind, rows_of}
use Rattle.dm_encode.specs.ReadBack.{ReadsRows}
use Rattle.dm_encode.proofs.Bodies.{event_room}
use Rattle.dm_encode.proofs.RowsBack.{event_of, head_back, images_back}
use Rattle.dm_encode.proofs.rows.write_rows.Goals as goal

pub event-requires : goal.event-requires
event-requires c = event_room (rows_kind c.args.change.now) (rows_body c.args.id c.args.schema.now c.args.change.now) _ _ c.deref.ensures.value c.in_ok-body.ensures.value c.requires.size

pub returns-clause-head : goal.returns-clause-head
returns-clause-head c =
    IfOk-weaker c.event.result (λ v. v.items ≡ event c.rows_kind.result c.deref.result.now)
    (λ v. rows_head_of (rows_kind c.args.change.now) (drop 19 v.items) ≡ Some (record { id = c.args.id; count = length c.args.schema.now.columns; full = true; rows = length (rows_front c.args.id c.args.schema.now.columns c.args.change.now) }))
    (λ v is. head_back c.args.id c.args.schema.now c.args.change.now v.items _ _ c.requires.id c.requires.size c.deref.ensures.value c.in_ok-body.ensures.value (event_of _ _ _ _ c.rows_kind.ensures is)) c.event.ensures.value

pub returns-clause-images : goal.returns-clause-images
returns-clause-images c =
    IfOk-weaker c.event.result (λ v. v.items ≡ event c.rows_kind.result c.deref.result.now)
    (λ v. ReadsRows (maps_of c.args.schema.now.columns) c.args.schema.now (drop (length (rows_front c.args.id c.args.schema.now.columns c.args.change.now)) (drop 19 v.items)) (rows_of c.args.change.now))
    (λ v is. images_back c.args.id c.args.schema.now c.args.change.now v.items _ _ c.in_ok-body.ensures.columns c.in_ok-body.ensures.mapped c.requires.fits c.deref.ensures.value c.in_ok-body.ensures.value (event_of _ _ _ _ c.rows_kind.ensures is)) c.event.ensures.value
