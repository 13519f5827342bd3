use Rattle.std.proofs.Common.{◌∙◌, ◌^◌, fold, replicate, ap}
use Rattle.dm_time.specs.Texts.{with_digit}
use Rattle.dm_lex.proofs.NumberLemmas.{below, found, stays_great, joined}
use Rattle.dm_lex.proofs.numeral.joined_number.Goals as goal

pub returns-in_err-with_digits : goal.returns-in_err-with_digits
returns-in_err-with_digits c =
    let whole = c.args.whole.now in
    let fraction = c.args.fraction.now in
    let zeros = replicate c.args.zeros 48 in
    let none = stays_great (2 ^ 128) (fold with_digit 0 whole) fraction c.in_err-with_digits.ensures in
    c.from_residual.ensures
    ∙ stays_great (2 ^ 128) (fold with_digit (fold with_digit 0 whole) fraction) zeros none
    ∙ ap (below (2 ^ 128)) (joined whole fraction zeros)

pub returns-in_err-behind_point : goal.returns-in_err-behind_point
returns-in_err-behind_point c =
    let whole = c.args.whole.now in
    let fraction = c.args.fraction.now in
    let zeros = replicate c.args.zeros 48 in
    let same = found (2 ^ 128) _ _ c.in_ok-with_digits.ensures in
    let none = c.in_err-behind_point.ensures ∙ ap (λ n. below (2 ^ 128) (fold with_digit n fraction)) same in
    c.from_residual-in_err-behind_point.ensures
    ∙ stays_great (2 ^ 128) (fold with_digit (fold with_digit 0 whole) fraction) zeros none
    ∙ ap (below (2 ^ 128)) (joined whole fraction zeros)
