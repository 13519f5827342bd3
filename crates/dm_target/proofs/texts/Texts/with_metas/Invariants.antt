use Rattle.std.proofs.Common.{◌≡◌, drop}
use Rattle.dm_target.specs.Contents.{with_metas}
use Rattle.dm_target.proofs.texts.Texts.with_metas.Given as goal

abbrev pub invariant-loop-pair : goal.invariant-loop-pair
invariant-loop-pair l = with_metas (drop l.pair-index l.pairs) l.made ≡ with_metas l.pairs l.self
