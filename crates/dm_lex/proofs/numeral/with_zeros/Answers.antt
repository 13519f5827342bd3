use Rattle.std.proofs.Common.{◌∙◌, ◌^◌, sym, ap, arith}
use Rattle.dm_time.specs.Texts.{with_digit}
use Rattle.dm_lex.proofs.NumberLemmas.{below, zero_more}
use Rattle.dm_lex.proofs.numeral.with_zeros.Goals as goal

pub returns-in_err-longer : goal.returns-in_err-longer
returns-in_err-longer c =
    let none = sym c.in_err-longer.was ∙ c.with_digit.ensures ∙ ap (λ n. below (2 ^ 128) (with_digit n 48)) c.loop.invariant.0 in
    c.from_residual.ensures ∙ zero_more (2 ^ 128) c.args.number c.loop.counter none c.args.zeros (omega arith)
