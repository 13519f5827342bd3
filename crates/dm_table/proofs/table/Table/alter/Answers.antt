use Rattle.std.proofs.Common.{sym, subst}
use Rattle.dm_schema.specs.Layout.{Layout}
use Rattle.dm_table.specs.Indexing.{AreIndexed}
use Rattle.dm_table.proofs.KeptAltered.{rows_follow}
use Rattle.dm_table.proofs.table.Table.alter.Goals as goal

pub returns-clause-follows : goal.returns-clause-follows
returns-clause-follows c =
    rows_follow c.self.inside.schema c.args.schema.now c.in_ok-schema.schema c.self.inside.rows c.in_ok-rows.rows c.args.self.now c.in_ok-rows.ensures.altered c.self.view_is c.in_ok-schema.ensures

pub invariant_of-self : goal.invariant_of-self
invariant_of-self c =
    let are = c.in_ok-rows.ensures.rows c.self.invariant.are in
    subst (λ (layout : Layout). AreIndexed layout c.in_ok-rows.rows c.in_ok-index.index) (sym c.in_ok-schema.ensures) (record { are = are; told = c.in_ok-index.ensures are })
