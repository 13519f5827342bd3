use Rattle.std.specs.Prelude.{codes}
use Rattle.json.proofs.Numbered.{HasNumbers-get}
use Rattle.dm_meta.proofs.lock.lock_in.Goals as goal

pub order_in-requires : goal.order_in-requires
order_in-requires c = HasNumbers-get (codes "order") _ _ c.requires c.in-Some.ensures
