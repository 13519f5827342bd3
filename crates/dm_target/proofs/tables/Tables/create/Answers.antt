use Rattle.std.proofs.Common.{◌≡◌, Ok, Err, refl, sym, subst, ◌∙◌}
use Rattle.std.specs.FinMap as fin
use Rattle.dm_table.specs.declared.fault.TableFault.TheVariants as fault
use Rattle.dm_target.specs.Contents.{created}
use Rattle.dm_target.specs.Maps.{TableMap, tables_with}
use Rattle.dm_target.proofs.Changing.{there_already, made}
use Rattle.dm_target.proofs.tables.Tables.create.Goals as goal

pub returns-then-contains_key : goal.returns-then-contains_key
returns-then-contains_key c = (
  subst (λ (m : TableMap). created (fin.get m c.args.name.now) c.args.schema.now ≡ Err fault.TableExists) c.self.view_is
      (there_already c.self.inside.tables c.args.name.now c.args.schema.now (sym c.contains_key.ensures ∙ c.if-contains_key.true)),
  refl,
)

pub returns : goal.returns
returns c =
    subst (λ (m : TableMap). tables_with m c.args.name.now (created (fin.get m c.args.name.now) c.args.schema.now) ≡ Ok (fin.from_entries c.insert.new.self.entries)) c.self.view_is
    (made c.self.inside.tables c.insert.new.self c.args.name.now c.in_ok-copy-2.field-0 c.args.schema.now c.in_ok-copy.field-0 c.new-table.result c.in_ok-copy-2.ensures c.in_ok-copy.ensures c.new-table.ensures
    (sym c.contains_key.ensures ∙ c.if-contains_key.false) c.in_ok-insert.ensures.updates)
