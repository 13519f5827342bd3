use Rattle.std.proofs.Common.{sym, ap}
use Rattle.dm_meta.specs.Texts.{or_not_meta}
use Rattle.dm_meta.proofs.Values.{entry_of-others}
use Rattle.dm_meta.proofs.lock.entry_of.Goals as goal

pub returns-then-values-ne2-clause-value : goal.returns-then-values-ne2-clause-value
returns-then-values-ne2-clause-value c = ap or_not_meta (sym (entry_of-others c.args.values.now c.if-values-ne2.true))
