use Rattle.std.proofs.Common.{sym, ap, ◌∙◌}
use Rattle.dm_stmt_read.specs.Lines.{any_record}
use Rattle.dm_stmt_read.proofs.RecordTexts.{only_record, no_good_record, no_such_text, lost_record, unlike}
use Rattle.dm_stmt_read.proofs.record.read_record.Goals as goal

pub returns-in_err-record-clause-refused : goal.returns-in_err-record-clause-refused
returns-in_err-record-clause-refused c =
    lost_record c.args.known.now c.args.text.now c.from_residual.result c.in_err-record.field-0.0 c.requires c.from_residual.ensures.1
    (λ is. ap (any_record c.args.known.now) (sym c.new.ensures) ∙ c.in_err-record.ensures is)

pub returns-then-not-is_record-clause-refused : goal.returns-then-not-is_record-clause-refused
returns-then-not-is_record-clause-refused c =
    λ refused. no_good_record c.args.known.now c.args.text.now _ c.in_ok-record.record c.requires (ap (any_record c.args.known.now) (sym c.new.ensures) ∙ c.in_ok-record.ensures) (sym c.if-not-is_record.ensures)

pub returns-then-eq-clause-only : goal.returns-then-eq-clause-only
returns-then-eq-clause-only c =
    only_record c.args.known.now c.args.text.now _ c.in_ok-record.record c.requires (ap (any_record c.args.known.now) (sym c.new.ensures) ∙ c.in_ok-record.ensures)

pub returns-else-eq-clause-refused : goal.returns-else-eq-clause-refused
returns-else-eq-clause-refused c =
    λ refused. no_such_text c.args.known.now c.args.text.now _ c.in_ok-record.record c.requires (ap (any_record c.args.known.now) (sym c.new.ensures) ∙ c.in_ok-record.ensures)
    (λ same. unlike c.in_ok-written.written.items c.args.text.now c.as_slice.result.now (sym c.if-eq.ensures) c.as_slice.ensures.value (c.in_ok-written.ensures ∙ same))
