use Rattle.std.proofs.Common.{Option, subst}
use Rattle.dm_dump.specs.declared.fault.Fault.{Fault}
use Rattle.dm_snapshot.specs.Snapshots.{rows_unless, AnswersFile}
use Rattle.dm_snapshot.proofs.FileLemmas.{rows_said}
use Rattle.dm_snapshot.proofs.rows.read_inserts.Goals as goal

pub returns-clause-rows : goal.returns-clause-rows
returns-clause-rows c =
    let P : Option Fault → Type 0 = λ early. AnswersFile c.rows_unless.result (rows_unless early c.read_rows-rows.result) in
    let answers = subst P c.create_place.ensures c.rows_unless.ensures.rows in
    λ r are. rows_said r are c.args.text.now c.args.table.now c.args.schema.now c.in_ok-outline.outline c.read_rows-rows.result c.rows_unless.result c.in_ok-outline.ensures c.read_rows-rows.ensures.says answers c.rows_unless.ensures.memory
