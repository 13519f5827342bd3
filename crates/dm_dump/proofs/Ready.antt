use Rattle.std.proofs.Common.{◌≡◌, true, refl}
use Rattle.dm_grammar.specs.Determinism.{is_ready}
use Rattle.dm_dump.specs.Terminals.{in_class}
use Rattle.dm_dump.specs.Productions.{dump_grammar}

-- One token of look-ahead tells how a dump goes on.
pub dump_ready : is_ready in_class dump_grammar ≡ true
unfolding is_ready
dump_ready = refl
