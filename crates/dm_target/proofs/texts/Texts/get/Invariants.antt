use Rattle.std.proofs.Common.{◌≡◌}
use Rattle.std.specs.FinMap as fin
use Rattle.std.specs.FinMap.{find}
use Rattle.dm_schema.specs.Names.{name_cmp}
use Rattle.dm_target.proofs.texts.Texts.get.Given as goal

abbrev pub invariant-loop-other : goal.invariant-loop-other
invariant-loop-other l = find name_cmp l.name l.other-iterator ≡ fin.get l.self l.name
