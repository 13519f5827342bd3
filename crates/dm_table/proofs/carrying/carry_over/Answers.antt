use Rattle.std.proofs.Common.{◌∙◌}
use Rattle.dm_table.proofs.Room.{fresh_is_absent, filled_has_room, carried_same, room_back}
use Rattle.dm_table.proofs.carrying.carry_over.Goals as goal

pub make_room-requires : goal.make_room-requires
make_room-requires c = fresh_is_absent c.args.changed.rows c.args.rows.now c.deref.result.now (c.deref.ensures.value ∙ c.in_ok-keys.ensures)

pub make_room-requires-2 : goal.make_room-requires-2
make_room-requires-2 c = fresh_is_absent c.args.changed.index c.args.index.now c.deref-2.result.now (c.deref-2.ensures.value ∙ c.in_ok-entries.ensures)

pub carry_all-requires : goal.carry_all-requires
carry_all-requires c = filled_has_room c.args.changed.rows c.args.rows.now c.deref.result.now (c.deref.ensures.value ∙ c.in_ok-keys.ensures) c.make_room.new.rows c.in_ok-make_room.ensures.filled

pub carry_all-requires-in-Ok : goal.carry_all-requires-in-Ok
carry_all-requires-in-Ok c = filled_has_room c.args.changed.index c.args.index.now c.deref-2.result.now (c.deref-2.ensures.value ∙ c.in_ok-entries.ensures) c.make_room-2.new.rows c.in-Ok.ensures.filled

pub returns-in-Ok-clause-rows : goal.returns-in-Ok-clause-rows
returns-in-Ok-clause-rows c = c.carry_all.ensures ∙ carried_same c.args.changed.rows c.args.rows.now c.deref.result.now (c.deref.ensures.value ∙ c.in_ok-keys.ensures) c.make_room.new.rows c.in_ok-make_room.ensures.filled

pub returns-in-Ok-clause-index : goal.returns-in-Ok-clause-index
returns-in-Ok-clause-index c =
    c.carry_all-in-Ok.ensures ∙ carried_same c.args.changed.index c.args.index.now c.deref-2.result.now (c.deref-2.ensures.value ∙ c.in_ok-entries.ensures) c.make_room-2.new.rows c.in-Ok.ensures.filled

pub returns-in-Err-clause-rows_kept : goal.returns-in-Err-clause-rows_kept
returns-in-Err-clause-rows_kept c =
    room_back c.args.rows.now c.make_room.new.rows c.remove_all.new.rows c.deref.result.now c.deref-in-Err.result.now c.in_ok-keys.keys.items c.deref.ensures.value c.deref-in-Err.ensures.value
    (fresh_is_absent c.args.changed.rows c.args.rows.now c.in_ok-keys.keys.items c.in_ok-keys.ensures) c.in_ok-make_room.ensures.filled c.remove_all.ensures
