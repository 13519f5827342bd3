use Rattle.dm_schema.specs.declared.row_change.RowChange.TheVariants as change
use Rattle.dm_encode.specs.Events.{rows_body}
use Rattle.dm_encode.proofs.Sizes.{event_small}
use Rattle.dm_encode.proofs.tests.insert_bytes.Goals as goal

pub write_rows-requires-clause-size : goal.write_rows-requires-clause-size
write_rows-requires-clause-size c = event_small 30 (rows_body 5 c.args.schema.now (change.Insert c.args.row)) _ _ c.is_short.result c.deref.ensures.value c.in_ok-body.ensures.value c.is_short.ensures c.if-not-is_short.false
