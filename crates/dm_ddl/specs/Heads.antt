-- The heads of statements: what kind of statement it is, and the tables that it names.
use Rattle.std.specs.Prelude.{ℕ, List, Option, Some, None, Result, Ok, Err, if◌then◌else◌}
use Rattle.dm_syntax.specs.declared.fault.DdlFault.{DdlFault}
use Rattle.dm_ddl.specs.declared.heads.Head.{Head}
use Rattle.dm_ddl.specs.declared.heads.Head.TheVariants as head
use Rattle.dm_syntax.specs.declared.piece.Piece.{Piece}
use Rattle.dm_syntax.specs.declared.role.TheConstants as role
use Rattle.dm_syntax.specs.Pieces.{has_role}
use Rattle.dm_ddl.specs.Names.{tables_in, first_table}

-- what the roles of a statement's head say of it
abbrev pub head_of : List ℕ → List Piece → Head
head_of text pieces =
    if has_role role.CREATE_TABLE pieces then head.Create (first_table text pieces) (has_role role.EXISTS pieces)
    else if has_role role.ALTER_TABLE pieces then head.Alter (first_table text pieces)
    else if has_role role.UNIQUE_INDEX pieces then head.CreateIndex (first_table text pieces)
    else if has_role role.PLAIN_INDEX pieces then head.CreateIndex (first_table text pieces)
    else if has_role role.DROP_INDEX pieces then head.DropIndex (first_table text pieces)
    else if has_role role.DROP_TABLE pieces then head.DropTable (tables_in text pieces)
    else if has_role role.TRUNCATE pieces then head.Truncate (first_table text pieces)
    else if has_role role.RENAME_TABLE pieces then head.Rename (tables_in text pieces)
    else if has_role role.ROW_STATEMENT pieces then head.RowStatement
    else head.NotTable

-- the head, unless the grammar has a fault
abbrev pub head_unless : List ℕ → List Piece → Option DdlFault → Result Head DdlFault
head_unless text pieces (Some fault) = Err fault
head_unless text pieces None = Ok (head_of text pieces)
