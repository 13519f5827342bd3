use Rattle.json.proofs.Numbered.{HasNumbers-get}
use Rattle.dm_meta.proofs.reading.whole_at.Goals as goal

pub whole-requires : goal.whole-requires
whole-requires c = HasNumbers-get c.args.key.now _ _ c.requires c.in-Some.ensures
