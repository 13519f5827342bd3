use Rattle.std.proofs.Common.{◌≡◌, ◌^◌, ◌<◌, take}
use Rattle.dm_words.specs.Words.{value_of_digits}
use Rattle.dm_words.proofs.numbers.value_of_digits.Given as goal

abbrev pub invariant-loop-digit : goal.invariant-loop-digit
invariant-loop-digit l = (l.number ≡ value_of_digits (take l.digit-index l.digits)) × (l.number < 10 ^ l.digit-index)
