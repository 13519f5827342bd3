use Rattle.std.proofs.Common.{◌≡◌, Err, ap, sym, subst, ◌∙◌}
use Rattle.std.specs.FinMap as fin
use Rattle.dm_table.specs.declared.fault.TableFault.TheVariants as fault
use Rattle.dm_table.specs.Alterations.{altered}
use Rattle.dm_target.specs.Contents.{if_there}
use Rattle.dm_target.specs.Maps.{TableMap, Changes}
use Rattle.dm_target.proofs.Changing.{not_there, changed}
use Rattle.dm_target.proofs.tables.Tables.alter.Goals as goal

pub returns-in_default : goal.returns-in_default
returns-in_default c = (
  subst (λ (m : TableMap). if_there (fin.get m c.args.name.now) (λ table. altered table c.args.schema.now) ≡ Err fault.NoTable) c.self.view_is
      (not_there c.self.inside.tables c.args.name.now (λ table. altered table c.args.schema.now) (sym c.in_default.ensures.value)),
  ap (λ m. fin.from_entries m.entries) c.get_mut.follows.holds-at-none ∙ c.self.view_is,
)

pub returns : goal.returns
returns c =
    subst (λ (m : TableMap). Changes (if_there (fin.get m c.args.name.now) (λ table. altered table c.args.schema.now)) c.args.name.now m (fin.from_entries (c.get_mut.follows.lender c.alter.new.self).entries) c.alter.result) c.self.view_is
    (changed c.self.inside.tables (c.get_mut.follows.lender c.alter.new.self) c.args.name.now c.in-Some.table.now c.alter.new.self (λ table. altered table c.args.schema.now) c.alter.result
    (sym c.in-Some.ensures.value) (c.get_mut.follows.holds c.alter.new.self) c.alter.ensures.altered c.alter.ensures.refused c.alter.ensures.kept)
