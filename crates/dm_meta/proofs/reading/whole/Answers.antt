use Rattle.json.specs.Value.{value_view}
use Rattle.dm_meta.proofs.Numbers.{whole_told}
use Rattle.dm_meta.proofs.reading.whole.Goals as goal

pub returns : goal.returns
returns c = whole_told (value_view c.args.value.now) c.as_u64.result c.requires c.as_u64.ensures
