use Rattle.std.proofs.Common.{◌≡◌, ◌<◌, ◌^◌, fold, replicate}
use Rattle.dm_time.specs.Texts.{with_digit}
use Rattle.dm_lex.proofs.numeral.with_zeros.Given as goal

abbrev pub invariant-loop : goal.invariant-loop
invariant-loop l = (l.longer ≡ fold with_digit l.number (replicate l.counter 48)) × (l.longer < 2 ^ 128)
