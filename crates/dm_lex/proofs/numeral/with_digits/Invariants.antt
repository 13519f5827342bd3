use Rattle.std.proofs.Common.{◌≡◌, ◌<◌, ◌^◌, drop, fold}
use Rattle.dm_time.specs.Texts.{with_digit}
use Rattle.dm_lex.proofs.numeral.with_digits.Given as goal

abbrev pub invariant-loop-digit : goal.invariant-loop-digit
invariant-loop-digit l = (fold with_digit l.longer (drop l.digit-index l.digits) ≡ fold with_digit l.number l.digits) × (l.longer < 2 ^ 128)
