use Rattle.std.proofs.lemmas.Result.{on_ok_weaker}
use Rattle.dm_report.proofs.Parts.{table_printed}
use Rattle.dm_report.proofs.shows.push_named_table.Goals as goal

pub returns : goal.returns
returns c =
    let listed = rw (← c.deref.ensures.value) at c.in_ok-rows.ensures in
    on_ok_weaker c.push_table.result
    (table_printed c.args.name.now c.args.table.now c.schema.result.now c.rows.result.now _ c.args.text.now.items c.push_title.new.text.items c.push_table.new.out.items c.schema.ensures c.rows.ensures.entries listed c.in_ok-push_title.ensures)
    c.push_table.ensures
