use Rattle.dm_table.proofs.Room.{taken_back, either_way}
use Rattle.dm_table.proofs.carrying.make_room.Goals as goal

pub returns-then-is_err-clause-kept : goal.returns-then-is_err-clause-kept
returns-then-is_err-clause-kept c =
    either_way c.put_empty-put.result (taken_back c.args.keys.now c.args.rows.now c.put_empty-put.new.rows c.remove_all.new.rows c.requires c.put_empty-put.ensures.elsewhere c.remove_all.ensures)
