use Rattle.std.proofs.Common.{refl}
use Rattle.std.proofs.lemmas.Result.{err_from_is_err_and}
use Rattle.dm_table.specs.Operations.{left_row}
use Rattle.dm_table.specs.Staging.{rows_behind}
use Rattle.dm_table.proofs.Refusing.{at_unknown, at_unfit, at_missing, at_primary, at_uniques}
use Rattle.dm_table.proofs.judge.judge.Goals as goal

pub returns-in_err-refuse_unknown-clause-judged : goal.returns-in_err-refuse_unknown-clause-judged
returns-in_err-refuse_unknown-clause-judged c =
    let p = err_from_is_err_and c.from_residual.result c.from_residual.ensures.1 in
    let row = left_row c.args.schema.now c.args.op.now (rows_behind c.args.rows.now) in
    rw (p.1, p.2) (at_unknown c.args.schema.now c.args.op.now (rows_behind c.args.rows.now) row refl c.in_err-refuse_unknown.field-0.0 c.in_err-refuse_unknown.ensures)

pub returns-in_err-refuse_unfit-clause-judged : goal.returns-in_err-refuse_unfit-clause-judged
returns-in_err-refuse_unfit-clause-judged c =
    let p = err_from_is_err_and c.from_residual-in_err-refuse_unfit.result c.from_residual-in_err-refuse_unfit.ensures.1 in
    let row = left_row c.args.schema.now c.args.op.now (rows_behind c.args.rows.now) in
    rw (p.1, p.2) (at_unfit c.args.schema.now c.args.op.now (rows_behind c.args.rows.now) row refl c.in_err-refuse_unfit.field-0.0 c.in_ok-refuse_unknown.field-0 c.in_ok-refuse_unknown.ensures c.in_err-refuse_unfit.ensures.judged)

pub returns-in_err-refuse_missing-clause-judged : goal.returns-in_err-refuse_missing-clause-judged
returns-in_err-refuse_missing-clause-judged c =
    let p = err_from_is_err_and c.from_residual-in_err-refuse_missing.result c.from_residual-in_err-refuse_missing.ensures.1 in
    let row = left_row c.args.schema.now c.args.op.now (rows_behind c.args.rows.now) in
    rw (p.1, p.2)
    (at_missing c.args.schema.now c.args.op.now (rows_behind c.args.rows.now) row refl c.in_err-refuse_missing.field-0.0 c.in_ok-refuse_unknown.field-0 c.in_ok-refuse_unfit.field-0 c.in_ok-refuse_unknown.ensures c.in_ok-refuse_unfit.ensures.judged
    c.in_err-refuse_missing.ensures)

pub returns-in_err-refuse_primary-clause-judged : goal.returns-in_err-refuse_primary-clause-judged
returns-in_err-refuse_primary-clause-judged c =
    let p = err_from_is_err_and c.from_residual-in_err-refuse_primary.result c.from_residual-in_err-refuse_primary.ensures.1 in
    rw (p.1, p.2)
    (at_primary c.args.schema.now c.args.op.now (rows_behind c.args.rows.now) c.in_ok-row.row c.in_ok-row.ensures c.in_err-refuse_primary.field-0.0 c.in_ok-refuse_unknown.field-0 c.in_ok-refuse_unfit.field-0 c.in_ok-refuse_missing.field-0
    c.in_ok-refuse_unknown.ensures c.in_ok-refuse_unfit.ensures.judged c.in_ok-refuse_missing.ensures c.in_err-refuse_primary.ensures)

pub returns-clause-judged : goal.returns-clause-judged
returns-clause-judged c =
    at_uniques c.args.schema.now c.args.op.now (rows_behind c.args.rows.now) c.in_ok-row.row c.in_ok-row.ensures c.refuse_uniques.result c.in_ok-refuse_unknown.field-0 c.in_ok-refuse_unfit.field-0 c.in_ok-refuse_missing.field-0 c.in_ok-refuse_primary.field-0
    c.in_ok-refuse_unknown.ensures c.in_ok-refuse_unfit.ensures.judged c.in_ok-refuse_missing.ensures c.in_ok-refuse_primary.ensures c.refuse_uniques.ensures
