use Rattle.std.proofs.Common.{◌∙◌, ◌^◌, refl, sym, arith}
use Rattle.dm_lex.proofs.NumberLemmas.{fails, ends}
use Rattle.dm_lex.proofs.numeral.with_digits.Goals as goal

pub returns-in_err-longer : goal.returns-in_err-longer
returns-in_err-longer c =
    let over = fails (2 ^ 128) c.args.digits.now c.loop-digit.digit-index c.loop-digit.longer _ _ (omega arith) refl (sym c.in_err-longer.ensures) c.loop-digit.invariant.0 in
    c.from_residual.ensures ∙ sym over

pub returns : goal.returns
returns c = sym (ends (2 ^ 128) c.args.digits.now c.loop-digit.digit-index c.loop-digit.longer _ (omega arith) c.loop-digit.invariant.1 c.loop-digit.invariant.0)
