use Rattle.std.proofs.Common.{◌≡◌, vec_len}
use Rattle.dm_top.proofs.tests.run.Given as goal

-- a name for each text
abbrev pub invariant-loop-name : goal.invariant-loop-name
invariant-loop-name l = vec_len l.names ≡ vec_len l.contents
