use Rattle.std.proofs.Common.{refl}
use Rattle.dm_grammar.specs.Determinism.{is_ready}
use Rattle.dm_grammar.proofs.tests.settings.Goals as goal

pub read-requires-clause-ready : goal.read-requires-clause-ready
unfolding is_ready
read-requires-clause-ready c = refl
