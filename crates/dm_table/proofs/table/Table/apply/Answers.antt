use Rattle.dm_table.proofs.InTurn.{applied_by_rows, table_elsewhere, table_in_turn}
use Rattle.dm_table.proofs.table.Table.apply.Goals as goal

pub returns-clause-elsewhere : goal.returns-clause-elsewhere
returns-clause-elsewhere c =
    table_elsewhere c.args.self.now (record { layout = c.self.inside.schema; rows = c.carry_over.new.rows }) c.args.ops.now
    (applied_by_rows c.self.inside.schema c.self.inside.rows c.carry_over.new.rows _ c.args.ops.now c.args.self.now c.in_ok-changed.ensures.applied c.in_ok-carry_over.ensures.rows c.self.view_is)

pub returns-clause-in_turn : goal.returns-clause-in_turn
returns-clause-in_turn c = λ more.
    table_in_turn c.args.self.now (record { layout = c.self.inside.schema; rows = c.carry_over.new.rows }) c.args.ops.now more
    (applied_by_rows c.self.inside.schema c.self.inside.rows c.carry_over.new.rows _ c.args.ops.now c.args.self.now c.in_ok-changed.ensures.applied c.in_ok-carry_over.ensures.rows c.self.view_is)
