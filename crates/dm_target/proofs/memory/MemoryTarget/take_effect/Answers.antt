use Rattle.std.proofs.Common.{List, refl, sym, ap, ◌∙◌}
use Rattle.std.specs.FinMap as fin
use Rattle.dm_table.specs.Alterations.{altered}
use Rattle.dm_table.specs.Operations.{table_applied}
use Rattle.dm_target.specs.Contents.{created, effect, if_there, with_metas}
use Rattle.dm_target.specs.Memory.{content_of}
use Rattle.dm_table.specs.declared.op.RowOp.{RowOp}
use Rattle.dm_target.specs.declared.call.Meta.{Meta}
use Rattle.dm_target.specs.declared.call.Call.{Call}
use Rattle.dm_target.specs.declared.call.Call.TheVariants as call
use Rattle.dm_target.proofs.Taking.{takes_change, takes_texts}
use Rattle.dm_target.proofs.memory.MemoryTarget.take_effect.Goals as goal

pub returns-in_ok-create-in-Create-clause-written : goal.returns-in_ok-create-in-Create-clause-written
returns-in_ok-create-in-Create-clause-written c = (
  takes_change c.args.call.now c.args.self.now.tables c.create.new.self c.args.self.now.texts c.in-Create.table
      (created (fin.get c.args.self.now.tables c.in-Create.table) c.in-Create.schema) (ap (λ (k : Call). effect k (content_of c.args.self.now)) c.in-Create.is) c.in_ok-create-in-Create.ensures,
  refl,
)

pub returns-in_ok-alter-in-Alter-clause-written : goal.returns-in_ok-alter-in-Alter-clause-written
returns-in_ok-alter-in-Alter-clause-written c = (
  takes_change c.args.call.now c.args.self.now.tables c.alter.new.self c.args.self.now.texts c.in-Alter.table
      (if_there (fin.get c.args.self.now.tables c.in-Alter.table) (λ table. altered table c.in-Alter.schema)) (ap (λ (k : Call). effect k (content_of c.args.self.now)) c.in-Alter.is) c.in_ok-alter-in-Alter.ensures,
  refl,
)

pub returns-in_ok-apply-in-Apply-clause-written : goal.returns-in_ok-apply-in-Apply-clause-written
returns-in_ok-apply-in-Apply-clause-written c = (
  takes_change c.args.call.now c.args.self.now.tables c.apply.new.self c.args.self.now.texts c.in-Apply.table
      (if_there (fin.get c.args.self.now.tables c.in-Apply.table) (λ table. table_applied table c.as_slice.result.now))
      (ap (λ (k : Call). effect k (content_of c.args.self.now)) c.in-Apply.is ∙ ap (λ (ops : List RowOp). effect (call.Apply c.in-Apply.table ops) (content_of c.args.self.now)) (sym c.as_slice.ensures)) c.in_ok-apply-in-Apply.ensures,
  refl,
)

pub returns-in_ok-self-in-Metas-clause-written : goal.returns-in_ok-self-in-Metas-clause-written
returns-in_ok-self-in-Metas-clause-written c = (
  takes_texts c.args.call.now c.args.self.now.tables c.args.self.now.texts (with_metas c.as_slice-in-Metas.result.now c.args.self.now.texts) c.in_ok-self-in-Metas.field-0
      (ap (λ (k : Call). effect k (content_of c.args.self.now)) c.in-Metas.is ∙ ap (λ (pairs : List Meta). effect (call.Metas pairs) (content_of c.args.self.now)) (sym c.as_slice-in-Metas.ensures)) c.in_ok-self-in-Metas.ensures,
  refl,
)
