use Rattle.std.proofs.Common.{List, Option, sym, ap, ◌∙◌}
use Rattle.std.specs.FinMap as fin
use Rattle.dm_table.specs.Contents.{Row}
use Rattle.dm_table.specs.Staging.{carried}
use Rattle.dm_table.proofs.Room.{room_at_first, room_stays}
use Rattle.dm_table.proofs.carrying.carry_all.Goals as goal

pub carry_one-requires : goal.carry_one-requires
carry_one-requires c = room_at_first c.loop-key.changes c.take_first.new.self c.loop-key.rows c.in-Some.key c.in-Some.change c.in-Some.ensures.taken c.loop-key.invariant.room

pub loop-key-preserved : goal.loop-key-preserved
loop-key-preserved c = record {
  carried = ap (carried (fin.entries c.take_first.new.self)) c.carry_one.ensures ∙ sym (ap (λ (es : List (Row × Option Row)). carried es c.loop-key.rows) c.in-Some.ensures.taken) ∙ c.loop-key.invariant.carried;
  room = room_stays c.loop-key.changes c.take_first.new.self c.loop-key.rows c.carry_one.new.rows c.in-Some.key c.in-Some.change c.in-Some.ensures.taken c.carry_one.ensures c.loop-key.invariant.room;
}
