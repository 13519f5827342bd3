use Rattle.std.proofs.Common.{◌≡◌, ◌++◌, take}
use Rattle.std.specs.List.{flat_map}
use Rattle.dm_stmt.specs.Texts.{meta_text}
use Rattle.dm_stmt.proofs.metas.push_each_meta.Given as goal

abbrev pub invariant-loop-pair : goal.invariant-loop-pair
invariant-loop-pair l = l.out.items ≡ l.initial.out.items ++ flat_map meta_text (take l.pair-index l.pairs)
