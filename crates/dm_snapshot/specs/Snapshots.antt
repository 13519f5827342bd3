-- The dump of a table: a file that creates it, and files with its rows.
use Rattle.std.specs.Prelude.{◌≡◌, ⊤, ℕ, ◌+◌, Bool, true, false, List, [], ◌∷◌, length, Option, Some, None, Result, Ok, Err}
use Rattle.std.specs.Option.{option_map}
use Rattle.std.specs.List.{list_all}
use Rattle.dm_syntax.specs.declared.fault.DdlFault.{DdlFault}
use Rattle.dm_syntax.specs.declared.parsing.Extent.TheVariants as extent
use Rattle.dm_syntax.specs.Parsing.{Says}
use Rattle.dm_ddl.specs.declared.statements.Statement.{Statement}
use Rattle.dm_ddl.specs.Statements.{statement_unless}
use Rattle.dm_schema.specs.Layout.{Layout}
use Rattle.dm_schema.specs.Names.{Text}
use Rattle.dm_dump.specs.declared.fault.Fault.{Fault}
use Rattle.dm_dump.specs.declared.fault.DumpCause.TheVariants as cause
use Rattle.dm_dump.specs.declared.fault.DumpFault.{DumpFault}
use Rattle.dm_dump.specs.declared.fault.DumpFault.TheVariants as dump
use Rattle.dm_dump.specs.declared.outline.Span.{Span}
use Rattle.dm_dump.specs.declared.outline.Outline.{Outline}
use Rattle.dm_dump.specs.declared.inserts.Inserts.{Inserts}
use Rattle.dm_dump.specs.declared.dump.Created.{Created}
use Rattle.dm_dump.specs.Outlines.{least, HasOutline}
use Rattle.dm_dump.specs.Rows.{HasRows, are_readable}
use Rattle.dm_dump.specs.Dumps.{bytes_in, lower, create_fault, created_by}
use Rattle.dm_task.specs.declared.task.SourceTable.{SourceTable}
use Rattle.dm_files.specs.declared.files.NamedFile.{NamedFile}
use Rattle.dm_files.specs.Files.{bytes_of}
use Rattle.dm_snapshot.specs.declared.snapshot.RowsFile.{RowsFile}
use Rattle.dm_snapshot.specs.declared.snapshot.Snapshot.{Snapshot}
use Rattle.dm_snapshot.specs.declared.snapshot.SnapshotFault.{SnapshotFault}
use Rattle.dm_snapshot.specs.declared.snapshot.SnapshotFault.TheVariants as fault

-- what statements and dumps say by their grammars
pub record DumpReadings : Type 0 where
  pub statement : List ℕ → Result Statement DdlFault
  pub outline : List ℕ → Outline
  pub inserts : List ℕ → Text → Layout → Result Inserts DumpFault

pub record AreDumpReadings (r : DumpReadings) : Type 0 where
  pub statements : (text : List ℕ) → Says extent.Whole (statement_unless text) text (r.statement text)
  pub outlines : (text : List ℕ) → HasOutline text (r.outline text)
  pub rows : (text table : List ℕ) (layout : Layout) → HasRows text table layout (r.inserts text table layout)

-- The file of the CREATE TABLE.

-- an INSERT is no statement of it
abbrev pub insert_fault : Outline → Option Fault
insert_fault outline = option_map (λ at. record { at = at; cause = cause.Statement }) outline.first_insert

-- its schema, unless there is another fault
abbrev pub schema_unless : Option Fault → Layout → Result Layout Fault
schema_unless None layout = Ok layout
schema_unless (Some f) layout = Err f

-- the schema that its CREATE TABLE says
abbrev pub schema_by : Outline → Span → Option Created → Result Layout Fault
schema_by outline span None = Err (lower (least outline.fault (insert_fault outline)) (create_fault span outline.fault))
schema_by outline span (Some created) = schema_unless (least outline.fault (insert_fault outline)) created.schema

abbrev pub schema_with : DumpReadings → List ℕ → Outline → Result Layout Fault
schema_with r text outline = by outline.create where
  by : Option Span → Result Layout Fault
  by None = Err (lower (least outline.fault (insert_fault outline)) (record { at = length text; cause = cause.NoCreate }))
  by (Some span) = schema_by outline span (created_by (r.statement (bytes_in text span)))

-- the schema that a file creates, or its fault of the least place
abbrev pub schema_in : DumpReadings → List ℕ → Result Layout Fault
schema_in r text = schema_with r text (r.outline text)

-- The files of rows.

-- a CREATE TABLE is one too many
abbrev pub create_place : Outline → Option Fault
create_place outline = option_map (λ span. record { at = span.from; cause = cause.SecondCreate }) outline.create

-- what reading the rows answers never lacks memory
abbrev pub rows_unless : Option Fault → Result Inserts DumpFault → Result Inserts Fault
rows_unless None (Ok inserts) = Ok inserts
rows_unless (Some f) (Ok inserts) = Err f
rows_unless early (Err (dump.At at cause)) = Err (lower early (record { at = at; cause = cause }))
rows_unless None (Err dump.Memory) = Ok (record { places = []; orders = [] })
rows_unless (Some f) (Err dump.Memory) = Err f

-- where the rows of a file stand, or its fault of the least place
abbrev pub inserts_in : DumpReadings → List ℕ → Text → Layout → Result Inserts Fault
inserts_in r text table layout = rows_unless (create_place (r.outline text)) (r.inserts text table layout)

-- The whole dump.

abbrev pub refused : Text → Fault → SnapshotFault
refused file f = fault.Dump file f.at f.cause

abbrev pub with_rows : Text → ℕ → Result Inserts Fault → Result (List RowsFile) SnapshotFault → Result (List RowsFile) SnapshotFault
with_rows file number (Err f) behind = Err (refused file f)
with_rows file number (Ok inserts) (Err e) = Err e
with_rows file number (Ok inserts) (Ok files) = Ok (record { number = number; inserts = inserts } ∷ files)

-- the rows of the files of these names, the first of which has this number
abbrev pub rows_from : DumpReadings → List NamedFile → Text → Layout → ℕ → List Text → Result (List RowsFile) SnapshotFault
rows_from r files table layout number [] = Ok []
rows_from r files table layout number (name ∷ names) =
    with_rows name number (inserts_in r (bytes_of files number) table layout) (rows_from r files table layout (number + 1) names)

abbrev pub with_schema : Layout → Result (List RowsFile) SnapshotFault → Result Snapshot SnapshotFault
with_schema layout (Err e) = Err e
with_schema layout (Ok rows) = Ok (record { schema = layout; files = rows })

abbrev pub snapshot_by : DumpReadings → List NamedFile → SourceTable → ℕ → Result Layout Fault → Result Snapshot SnapshotFault
snapshot_by r files table number (Err f) = Err (refused table.create f)
snapshot_by r files table number (Ok layout) = with_schema layout (rows_from r files table.table layout (number + 1) table.rows)

-- the dump of a table whose first file has this number, or the first file's fault that has one
abbrev pub snapshot_of : DumpReadings → List NamedFile → SourceTable → ℕ → Result Snapshot SnapshotFault
snapshot_of r files table number = snapshot_by r files table number (schema_in r (bytes_of files number))

-- What a call answers.

abbrev pub is_memory : SnapshotFault → Bool
is_memory fault.Memory = true
is_memory (fault.Dump file at cause) = false

-- what a call answered of one file is what was expected, or there was no memory
abbrev pub AnswersFile : {A : Type 0} → Result A DumpFault → Result A Fault → Type 0
AnswersFile (Ok value) expected = Ok value ≡ expected
AnswersFile (Err (dump.At at cause)) expected = Err (record { at = at; cause = cause }) ≡ expected
AnswersFile (Err dump.Memory) expected = ⊤

-- at each place of the snapshot's rows stands a row, in the order of literals in force there
abbrev pub is_readable : List NamedFile → Snapshot → Bool
is_readable files snapshot = list_all (λ f. are_readable (bytes_of files f.number) snapshot.schema f.inserts) snapshot.files
