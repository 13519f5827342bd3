-- A dump that is loaded whole: one CREATE TABLE, and then its rows.
use Rattle.std.specs.Prelude.{◌≡◌, ⊤, ℕ, ◌-◌, Bool, false, ◌&&◌, nat_lt, nat_le, List, length, take, drop, Option, Some, None, Result, Ok, Err, if◌then◌else◌}
use Rattle.dm_syntax.specs.declared.fault.DdlFault.{DdlFault}
use Rattle.dm_syntax.specs.declared.fault.DdlFault.TheVariants as ddl
use Rattle.dm_syntax.specs.declared.parsing.Extent.TheVariants as extent
use Rattle.dm_syntax.specs.Parsing.{Says}
use Rattle.dm_ddl.specs.declared.statements.Statement.{Statement}
use Rattle.dm_ddl.specs.declared.statements.Statement.TheVariants as statement
use Rattle.dm_ddl.specs.Statements.{statement_unless}
use Rattle.dm_dump.specs.declared.fault.Fault.{Fault}
use Rattle.dm_dump.specs.declared.fault.DumpCause.TheVariants as cause
use Rattle.dm_dump.specs.declared.fault.DumpFault.{DumpFault}
use Rattle.dm_dump.specs.declared.fault.DumpFault.TheVariants as fault
use Rattle.dm_dump.specs.declared.outline.Span.{Span}
use Rattle.dm_dump.specs.declared.outline.Outline.{Outline}
use Rattle.dm_dump.specs.declared.inserts.Inserts.{Inserts}
use Rattle.dm_dump.specs.declared.dump.Dump.{Dump}
use Rattle.dm_dump.specs.declared.dump.Created.{Created}
use Rattle.dm_dump.specs.Outlines.{is_lex, HasOutline}
use Rattle.dm_dump.specs.Rows.{refused, unless, HasRows}

-- What a call answered holds, or there was no memory.
abbrev pub OrMemory : {A : Type 0} → (Result A DumpFault → Type 0) → Result A DumpFault → Type 0
OrMemory Holds (Ok value) = Holds (Ok value)
OrMemory Holds (Err fault.Memory) = ⊤
OrMemory Holds (Err (fault.At at cause)) = Holds (Err (fault.At at cause))

-- the bytes of a span
abbrev pub bytes_in : List ℕ → Span → List ℕ
bytes_in text span = take (span.to - span.from) (drop span.from text)

-- of two faults the one of the lower place
abbrev pub lower : Option Fault → Fault → Fault
lower None g = g
lower (Some f) g = if nat_lt g.at f.at then g else f

-- a CREATE TABLE begins before the place
abbrev pub precedes : Option Span → ℕ → Bool
precedes None at = false
precedes (Some span) at = nat_lt span.from at

-- the first INSERT is no statement where no CREATE TABLE precedes it
abbrev pub early_insert : Outline → Option Fault
early_insert outline = by outline.first_insert where
  by : Option ℕ → Option Fault
  by None = None
  by (Some at) = if precedes outline.create at then None else Some (record { at = at; cause = cause.Statement })

-- there is no CREATE TABLE
abbrev pub without_create : List ℕ → Outline → Fault
without_create text outline = lower outline.fault (lower (early_insert outline) (record { at = length text; cause = cause.NoCreate }))

-- a lexical fault in the span
abbrev pub tears : Span → Fault → Bool
tears span f = is_lex f.cause && nat_le span.from f.at && nat_lt f.at span.to

-- The statement says no schema; but where a lexical fault stands in it, that is the fault.
abbrev pub create_fault : Span → Option Fault → Fault
create_fault span None = record { at = span.from; cause = cause.Create }
create_fault span (Some f) = if tears span f then f else record { at = span.from; cause = cause.Create }

-- the CREATE TABLE says no schema
abbrev pub without_schema : Outline → Span → Fault
without_schema outline span = lower outline.fault (lower (early_insert outline) (create_fault span outline.fault))

-- the table that a statement creates, if it does
abbrev pub created_by : Result Statement DdlFault → Option Created
created_by (Ok (statement.Create table schema only_new)) = Some (record { table = table.table; schema = schema })
created_by (Ok (statement.Alter table changes)) = None
created_by (Ok statement.Other) = None
created_by (Err e) = None

-- the same, where reading the statement may have lacked memory
abbrev pub created_or_memory : Result Statement DdlFault → Result (Option Created) DumpFault
created_or_memory (Ok statement) = Ok (created_by (Ok statement))
created_or_memory (Err ddl.Memory) = Err fault.Memory
created_or_memory (Err (ddl.Lex at)) = Ok None
created_or_memory (Err (ddl.Syntax at)) = Ok None
created_or_memory (Err (ddl.Unsupported at)) = Ok None
created_or_memory (Err (ddl.Made e)) = Ok None

-- what the statement says, by its grammar
abbrev pub SaysCreate : List ℕ → Option Created → Type 0
SaysCreate text created =
    (said : Result Statement DdlFault) × Says extent.Whole (statement_unless text) text said × (created ≡ created_by said)

-- the rows, or the fault of the least place
abbrev pub dump_of : Option Fault → Created → Result Inserts DumpFault → Result Dump DumpFault
dump_of early created (Ok inserts) = unless early (record { table = created.table; schema = created.schema; inserts = inserts })
dump_of early created (Err (fault.At at cause)) = Err (refused (lower early (record { at = at; cause = cause })))
dump_of early created (Err fault.Memory) = Err fault.Memory

abbrev pub HasTable : List ℕ → Option Fault → Created → Result Dump DumpFault → Type 0
HasTable text early created answer =
    (rows : Result Inserts DumpFault) × HasRows text created.table created.schema rows × (answer ≡ dump_of early created rows)

-- what the first CREATE TABLE says
abbrev pub DumpBy : List ℕ → Outline → Span → Option Created → Result Dump DumpFault → Type 0
DumpBy text outline span None answer = answer ≡ Err (refused (without_schema outline span))
DumpBy text outline span (Some created) answer = HasTable text (early_insert outline) created answer

abbrev pub DumpWith : List ℕ → Outline → Option Span → Result Dump DumpFault → Type 0
DumpWith text outline None answer = answer ≡ Err (refused (without_create text outline))
DumpWith text outline (Some span) answer = (created : Option Created) × SaysCreate (bytes_in text span) created × DumpBy text outline span created answer

-- the table, its schema and its rows, or the fault of the least place
abbrev pub IsDump : List ℕ → Result Dump DumpFault → Type 0
IsDump text answer = (outline : Outline) × HasOutline text outline × DumpWith text outline outline.create answer
