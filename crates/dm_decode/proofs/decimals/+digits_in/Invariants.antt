use Rattle.std.proofs.Common.{◌+◌}
use Rattle.dm_decode.proofs.decimals.+digits_in.Given as goal

abbrev pub decreases-digits_in : goal.decreases-digits_in
decreases-digits_in l = l.whole + l.fraction
