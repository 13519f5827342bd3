-- The law of values, whose bytes are known.
use Rattle.std.proofs.Common.{true}
use Rattle.dm_reread.proofs.Rereading.{value_is_reread}
use Rattle.dm_reread.proofs.reread.law_of_values.Goals as goal

pub returns : goal.returns
returns c = value_is_reread c.args.kind true c.args.value.now c.requires.formed c.requires.fits c.value_bytes.ensures
