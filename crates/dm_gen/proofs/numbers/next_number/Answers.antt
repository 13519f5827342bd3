use Rattle.std.proofs.Common.{rules}
use Rattle.dm_gen.specs.Numbers.{next_number}
use Rattle.dm_gen.proofs.numbers.next_number.Goals as goal

pub returns : goal.returns
unfolding next_number
returns c = search rules
