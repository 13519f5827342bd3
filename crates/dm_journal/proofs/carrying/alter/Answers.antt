use Rattle.std.proofs.Common.{◌≡◌, Some, Result, sym, ap, subst, ◌∙◌}
use Rattle.dm_schema.specs.Layout.{Layout}
use Rattle.dm_target.specs.Memory.{content_of}
use Rattle.dm_target.specs.declared.call.Call.TheVariants as call
use Rattle.dm_stmt.specs.declared.record.Record.TheVariants as record_of
use Rattle.dm_journal.specs.declared.fault.CarryFault.{CarryFault}
use Rattle.dm_journal.specs.Carrying.{MatchCall}
use Rattle.dm_journal.specs.Contents.{call_of}
use Rattle.dm_journal.proofs.Performing.{altering_stands, performed}
use Rattle.dm_journal.proofs.carrying.alter.Goals as goal

pub returns-in_ok-schema-in-Ok : goal.returns-in_ok-schema-in-Ok
returns-in_ok-schema-in-Ok c =
    let stands : call_of (content_of c.args.target.now) (record_of.Alter c.args.table c.args.changes.now) ≡ Some (call.Alter c.args.table c.in_ok-schema-in-Ok.schema) =
    altering_stands (content_of c.args.target.now) c.args.table c.args.changes.now c.in-Some.schema.now c.in-Ok.after c.in-Some.ensures c.in-Ok.ensures.made ∙ ap (λ (l : Layout). Some (call.Alter c.args.table l)) (sym c.in_ok-schema-in-Ok.ensures) in
    subst (λ (r : Result (Unit {0}) CarryFault). MatchCall (record_of.Alter c.args.table c.args.changes.now) c.args.target.now c.carry_out.new.self r) (sym c.judged.ensures)
    (performed (record_of.Alter c.args.table c.args.changes.now) c.args.target.now c.carry_out.new.self (call.Alter c.args.table c.in_ok-schema-in-Ok.schema) c.carry_out.result stands c.carry_out.ensures.written c.carry_out.ensures.calls)
