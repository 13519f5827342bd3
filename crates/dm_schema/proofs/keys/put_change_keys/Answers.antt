use Rattle.std.proofs.Common.{fold}
use Rattle.std.proofs.lemmas.List.Sums.{fold-append}
use Rattle.dm_schema.specs.Keys.{row_keys, with_key}
use Rattle.dm_schema.proofs.keys.put_change_keys.Goals as goal

pub returns-in_ok-put_row_keys-in-Update : goal.returns-in_ok-put_row_keys-in-Update
returns-in_ok-put_row_keys-in-Update c =
    let schema = c.args.schema.now in
    rw (c.in-Update.is, fold-append with_key c.args.keys.now.items (row_keys schema c.in-Update.old) (row_keys schema c.in-Update.new), ← c.in_ok-put_row_keys-in-Update.ensures)
    c.put_row_keys-in-Update.ensures
