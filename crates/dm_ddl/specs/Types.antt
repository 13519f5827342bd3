-- The kind of column that a type's words say, after MySQL's manual, "Data Types".
use Rattle.std.specs.Prelude.{ℕ, ◌==◌, List, if◌then◌else◌}
use Rattle.std.specs.Option.{option_map_or}
use Rattle.dm_schema.specs.declared.column.Kind.{Kind}
use Rattle.dm_schema.specs.declared.column.Kind.TheVariants as kind
use Rattle.dm_syntax.specs.declared.piece.Piece.{Piece}
use Rattle.dm_syntax.specs.declared.role.TheConstants as role
use Rattle.dm_syntax.specs.declared.terminal.TheConstants as terminal
use Rattle.dm_syntax.specs.Pieces.{first_with, has_role}
use Rattle.dm_ddl.specs.Bounds.{number_or, precision_in}

-- the word of the type
abbrev pub type_word : List Piece → ℕ
type_word item = option_map_or (λ p. p.kind) (first_with role.TYPE item) terminal.TIMESTAMP

-- an integer of so many bytes; ZEROFILL is unsigned too
abbrev pub integer_kind : ℕ → List Piece → Kind
integer_kind size item = if has_role role.UNSIGNED item then kind.Unsigned size else kind.Signed size

-- CHAR and BINARY without a length have one character or byte; DATETIME and TIMESTAMP without one no fraction
abbrev pub kind_of_word : List ℕ → List Piece → ℕ → Kind
kind_of_word text item word =
    if word == terminal.TINYINT then integer_kind 1 item
    else if word == terminal.SMALLINT then integer_kind 2 item
    else if word == terminal.MEDIUMINT then integer_kind 3 item
    else if word == terminal.INT then integer_kind 4 item
    else if word == terminal.BIGINT then integer_kind 8 item
    else if word == terminal.BOOL then kind.Signed 1
    else if word == terminal.DECIMAL then kind.Decimal (precision_in text item) (number_or text role.SCALE 0 item)
    else if word == terminal.CHAR then kind.Char (number_or text role.CHAR_LENGTH 1 item)
    else if word == terminal.BINARY then kind.Binary (number_or text role.CHAR_LENGTH 1 item)
    else if word == terminal.VARCHAR then kind.Varchar (number_or text role.STRING_LENGTH 0 item)
    else if word == terminal.VARBINARY then kind.Varbinary (number_or text role.STRING_LENGTH 0 item)
    else if word == terminal.TINYTEXT then kind.Text 1
    else if word == terminal.TEXT then kind.Text 2
    else if word == terminal.MEDIUMTEXT then kind.Text 3
    else if word == terminal.LONGTEXT then kind.Text 4
    else if word == terminal.TINYBLOB then kind.Blob 1
    else if word == terminal.BLOB then kind.Blob 2
    else if word == terminal.MEDIUMBLOB then kind.Blob 3
    else if word == terminal.LONGBLOB then kind.Blob 4
    else if word == terminal.DATE then kind.Date
    else if word == terminal.YEAR then kind.Year
    else if word == terminal.DATETIME then kind.Datetime (number_or text role.FRACTION 0 item)
    else kind.Timestamp (number_or text role.FRACTION 0 item)

-- the kind of the column that an item defines
abbrev pub kind_in : List ℕ → List Piece → Kind
kind_in text item = kind_of_word text item (type_word item)
