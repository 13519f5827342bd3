use Rattle.std.proofs.Common.{sym}
use Rattle.dm_alter.proofs.Formed.{columns_formed, keys_formed, formed_columns, formed_keys}
use Rattle.dm_alter.proofs.changed.changed.Goals as goal

pub returns-clause-columns : goal.returns-clause-columns
returns-clause-columns g c =
    let reads = g.R.DefaultReading.reads c.args.reading.now in
    let schema = c.args.schema.now in
    rw c.in_ok-columns.ensures (columns_formed reads schema c.args.change.now (formed_columns schema c.uniques.ensures.formed) c.requires)

pub returns-clause-uniques : goal.returns-clause-uniques
returns-clause-uniques g c =
    let reads = g.R.DefaultReading.reads c.args.reading.now in
    let schema = c.args.schema.now in
    rw (c.in_ok-uniques.ensures reads schema (sym c.uniques.ensures.uniques)) (keys_formed reads schema c.args.change.now (formed_keys schema c.uniques.ensures.formed) c.requires)
