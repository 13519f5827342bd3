-- What a statement says: the schema that it creates, the changes that it makes, or neither.
use Rattle.std.specs.Prelude.{ℕ, Bool, true, ◌||◌, List, [], Option, Some, None, Result, Ok, Err, if◌then◌else◌}
use Rattle.std.specs.List.{list_any, list_all}
use Rattle.dm_schema.specs.Effect.{is_change}
use Rattle.dm_schema.specs.Layout.{Layout}
use Rattle.dm_schema.specs.declared.fault.SchemaFault.{SchemaFault}
use Rattle.dm_schema.specs.declared.fault.SchemaFault.TheVariants as schema_fault
use Rattle.dm_syntax.specs.declared.fault.DdlFault.{DdlFault}
use Rattle.dm_syntax.specs.declared.fault.DdlFault.TheVariants as fault
use Rattle.dm_syntax.specs.declared.piece.Piece.{Piece}
use Rattle.dm_syntax.specs.declared.role.TheConstants as role
use Rattle.dm_ddl.specs.declared.statements.Statement.{Statement}
use Rattle.dm_ddl.specs.declared.statements.Statement.TheVariants as statement
use Rattle.dm_syntax.specs.Pieces.{has_role}
use Rattle.dm_ddl.specs.Names.{first_table}
use Rattle.dm_ddl.specs.Bounds.{items_of, first_excess}
use Rattle.dm_ddl.specs.Columns.{is_unfit}
use Rattle.dm_ddl.specs.Creating.{schema_in}
use Rattle.dm_ddl.specs.Altering.{changes_in}

-- an ALTER TABLE, or what is one by another name
abbrev pub alters : List Piece → Bool
alters pieces = has_role role.ALTER_TABLE pieces || has_role role.UNIQUE_INDEX pieces || has_role role.PLAIN_INDEX pieces || has_role role.DROP_INDEX pieces

abbrev pub create_of : List ℕ → List Piece → Result Layout SchemaFault → Result Statement DdlFault
create_of text pieces (Ok schema) = Ok (statement.Create (first_table text pieces) schema (has_role role.EXISTS pieces))
create_of text pieces (Err e) = Err (fault.Made e)

-- a column whose default is none of its values is a fault of the statement
abbrev pub alter_of : List ℕ → List Piece → Result Statement DdlFault
alter_of text pieces =
    if list_any (is_unfit text []) (items_of pieces) then Err (fault.Made schema_fault.DefaultUnfit)
    else Ok (statement.Alter (first_table text pieces) (changes_in text (items_of pieces)))

abbrev pub statement_of : List ℕ → List Piece → Result Statement DdlFault
statement_of text pieces =
    if has_role role.CREATE_TABLE pieces then create_of text pieces (schema_in text (items_of pieces))
    else if alters pieces then alter_of text pieces
    else Ok statement.Other

-- a number out of range comes before the grammar's fault, which stands behind it
abbrev pub unless_excess : Option Piece → Result Statement DdlFault → Result Statement DdlFault
unless_excess (Some p) rest = Err (fault.Unsupported p.token.from)
unless_excess None rest = rest

abbrev pub unless_fault : Option DdlFault → Result Statement DdlFault → Result Statement DdlFault
unless_fault (Some e) rest = Err e
unless_fault None rest = rest

-- what the pieces say, up to the first fault
abbrev pub statement_unless : List ℕ → List Piece → Option DdlFault → Result Statement DdlFault
statement_unless text pieces fault = unless_excess (first_excess text (items_of pieces)) (unless_fault fault (statement_of text pieces))

-- the changes of a statement are such of which schemas can be made
abbrev pub are_changes : Statement → Bool
are_changes (statement.Create table schema only_new) = true
are_changes (statement.Alter table changes) = list_all is_change changes
are_changes statement.Other = true
