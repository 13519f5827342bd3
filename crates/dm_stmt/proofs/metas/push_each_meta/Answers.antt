use Rattle.std.proofs.Common.{arith}
use Rattle.dm_text.proofs.Joins.{one_more}
use Rattle.dm_stmt.specs.Texts.{meta_text}
use Rattle.dm_stmt.proofs.metas.push_each_meta.Goals as goal

pub loop-pair-preserved : goal.loop-pair-preserved
loop-pair-preserved c = one_more meta_text c.args.pairs.now c.loop-pair.pair-index c.pair-item.result c.args.out.now.items _ _ (omega arith) c.pair-item.is c.loop-pair.invariant c.in_ok-push_meta.ensures
