use Rattle.dm_stream.proofs.Heads.{the_heads, they_are}
use Rattle.dm_stream.proofs.stream.Stream.new.Goals as goal

pub returns-in_err-advance-clause-exist : goal.returns-in_err-advance-clause-exist
returns-in_err-advance-clause-exist c = (the_heads, they_are)

pub returns-clause-exist : goal.returns-clause-exist
returns-clause-exist c = (the_heads, they_are)
