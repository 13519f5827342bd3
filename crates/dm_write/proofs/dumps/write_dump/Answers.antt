-- The text is the dump's, which is read back.
use Rattle.std.proofs.Common.{◌∙◌}
use Rattle.dm_write.proofs.Dumping.{dump_joined}
use Rattle.dm_write.proofs.BackAgain.{written_back}
use Rattle.dm_write.proofs.dumps.write_dump.Goals as goal

pub returns-clause-read_back : goal.returns-clause-read_back
returns-clause-read_back c =
    written_back c.args.table.now c.args.schema.now c.args.rows.now c.columns-columns.result.now c.as_slice-rows.result.now c.push_rows.new.out.items c.columns-columns.ensures.formed c.columns-columns.ensures.columns c.as_slice-rows.ensures
    c.column_lengths.ensures c.column_bytes.ensures c.requires c.rows_bytes.ensures
    (dump_joined c.args.table.now c.deref.result.now c.deref-2.result.now c.args.schema.now c.columns-columns.result.now c.args.rows.now c.as_slice-rows.result.now c.new-text.result.items _ _ (c.deref.ensures.value ∙ c.in_ok-name.ensures) (c.deref-2.ensures.value ∙ c.in_ok-name.ensures) c.columns-columns.ensures.columns c.as_slice-rows.ensures c.new-text.ensures.items c.in_ok-push_create.ensures c.in_ok-push_rows.ensures)
