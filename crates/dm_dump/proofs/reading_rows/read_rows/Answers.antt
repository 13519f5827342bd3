use Rattle.std.proofs.Common.{◌≡◌, Result}
use Rattle.dm_dump.specs.declared.fault.DumpFault.{DumpFault}
use Rattle.dm_dump.specs.declared.inserts.Inserts.{Inserts}
use Rattle.dm_dump.specs.Dumps.{OrMemory}
use Rattle.dm_dump.specs.Gatherings.{gathered_in}
use Rattle.dm_dump.specs.Rows.{HasRows}
use Rattle.dm_dump.proofs.DumpLemmas.{rows_read}
use Rattle.dm_dump.proofs.OrderLaws.{rows_readable}
use Rattle.dm_dump.proofs.reading_rows.read_rows.Goals as goal

pub returns-clause-says : goal.returns-clause-says
returns-clause-says c =
    rows_read c.args.text.now c.args.table.now c.args.schema.now c.columns.result.now (gathered_in c.in_ok-read.read.rows) c.in_ok-read.read.ending c.unless_inserts.result c.columns.ensures.columns
    c.in_ok-read.ensures.rows c.in_ok-read.ensures.ending c.unless_inserts.ensures

pub returns-clause-readable : goal.returns-clause-readable
returns-clause-readable c =
    rows_readable c.args.text.now c.args.table.now c.args.schema.now c.unless_inserts.result c.columns.ensures.formed
    (rows_read c.args.text.now c.args.table.now c.args.schema.now c.columns.result.now (gathered_in c.in_ok-read.read.rows) c.in_ok-read.read.ending c.unless_inserts.result c.columns.ensures.columns
    c.in_ok-read.ensures.rows c.in_ok-read.ensures.ending c.unless_inserts.ensures)
