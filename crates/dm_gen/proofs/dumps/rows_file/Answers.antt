use Rattle.dm_gen.proofs.DumpFiles.{rows_behind}
use Rattle.dm_gen.proofs.dumps.rows_file.Goals as goal

pub returns : goal.returns
returns c =
    rows_behind c.args.source c.in_ok-table.table c.in_ok-schema.schema c.in_ok-rows.rows c.in_ok-dump.dump.items c.deref.result.now c.in_ok-create.create.items c.deref-2.result.now c.in_ok-text.text.items
    c.in_ok-table.ensures c.in_ok-schema.ensures c.in_ok-rows.ensures.value c.in_ok-dump.ensures.value c.deref.ensures.value c.in_ok-create.ensures c.deref-2.ensures.value c.in_ok-text.ensures
