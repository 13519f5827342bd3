use Rattle.std.proofs.Common.{◌≡◌, Err, ap, sym, subst, ◌∙◌}
use Rattle.std.specs.FinMap as fin
use Rattle.dm_table.specs.declared.fault.TableFault.TheVariants as fault
use Rattle.dm_table.specs.Operations.{table_applied}
use Rattle.dm_target.specs.Contents.{if_there}
use Rattle.dm_target.specs.Maps.{TableMap, Changes}
use Rattle.dm_target.proofs.Changing.{not_there, changed}
use Rattle.dm_target.proofs.tables.Tables.apply.Goals as goal

pub returns-in_default : goal.returns-in_default
returns-in_default c = (
  subst (λ (m : TableMap). if_there (fin.get m c.args.name.now) (λ table. table_applied table c.args.ops.now) ≡ Err fault.NoTable) c.self.view_is
      (not_there c.self.inside.tables c.args.name.now (λ table. table_applied table c.args.ops.now) (sym c.in_default.ensures.value)),
  ap (λ m. fin.from_entries m.entries) c.get_mut.follows.holds-at-none ∙ c.self.view_is,
)

pub returns : goal.returns
returns c =
    subst (λ (m : TableMap). Changes (if_there (fin.get m c.args.name.now) (λ table. table_applied table c.args.ops.now)) c.args.name.now m (fin.from_entries (c.get_mut.follows.lender c.apply.new.self).entries) c.apply.result) c.self.view_is
    (changed c.self.inside.tables (c.get_mut.follows.lender c.apply.new.self) c.args.name.now c.in-Some.table.now c.apply.new.self (λ table. table_applied table c.args.ops.now) c.apply.result
    (sym c.in-Some.ensures.value) (c.get_mut.follows.holds c.apply.new.self) c.apply.ensures.applied c.apply.ensures.refused c.apply.ensures.kept)
