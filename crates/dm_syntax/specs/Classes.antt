-- The classes of terminals that the grammar names.
use Rattle.std.specs.Prelude.{ℕ, Bool, true, not, ◌&&◌, ◌||◌, ◌==◌, nat_lt, nat_le, if◌then◌else◌}
use Rattle.dm_syntax.specs.declared.terminal.TheConstants as terminal
use Rattle.dm_syntax.specs.declared.class.TheConstants as class

abbrev pub is_between : ℕ → ℕ → ℕ → Bool
is_between low high kind = nat_le low kind && nat_le kind high

-- the words have the kinds from INTRODUCER on
abbrev pub is_word : ℕ → Bool
is_word kind = nat_le terminal.INTRODUCER kind

abbrev pub is_name : ℕ → Bool
is_name kind = kind == terminal.QUOTED || is_word kind

-- CONSTRAINT, PRIMARY, UNIQUE, KEY, INDEX, FULLTEXT, SPATIAL, CHECK, FOREIGN, COLUMN, PARTITION, LIKE, SELECT
abbrev pub begins_definition : ℕ → Bool
begins_definition = is_between terminal.CONSTRAINT terminal.SELECT

-- the words that begin a definition or a change of the table are names of columns in backquotes alone
abbrev pub is_column_name : ℕ → Bool
is_column_name kind = is_name kind && not (begins_definition kind)

abbrev pub is_type : ℕ → Bool
is_type = is_between terminal.TINYINT terminal.TIMESTAMP

-- what makes a table of another, or splits it into partitions
abbrev pub is_query_word : ℕ → Bool
is_query_word kind = is_between terminal.PARTITION terminal.SELECT kind || kind == terminal.AS

abbrev pub begins_row_statement : ℕ → Bool
begins_row_statement kind = kind == terminal.ROW_WORD || kind == terminal.UPDATE

abbrev pub begins_other_rename : ℕ → Bool
begins_other_rename kind =
    kind == terminal.COLUMN || kind == terminal.KEY || kind == terminal.INDEX || kind == terminal.TO || kind == terminal.AS

-- What behind a name would be its second part: a point, or a number that begins with one, as in `db.2024_log`.
abbrev pub continues_name : ℕ → Bool
continues_name kind = kind == terminal.POINT || kind == terminal.FRACTIONAL

abbrev pub is_name_in : ℕ → ℕ → Bool
is_name_in number kind =
    if number == class.NAME then is_name kind
    else if number == class.WORD then is_word kind
    else if number == class.COLUMN_NAME then is_column_name kind
    else if number == class.KEY_NAME then is_column_name kind && not (kind == terminal.USING)
    else if number == class.TABLE_NAME then is_name kind && not (kind == terminal.IF)
    else if number == class.TRUNCATED then is_name kind && not (kind == terminal.TABLE)
    else is_name kind && not (begins_other_rename kind)

abbrev pub is_type_in : ℕ → ℕ → Bool
is_type_in number kind =
    if number == class.INTEGER then is_between terminal.TINYINT terminal.BIGINT kind
    else if number == class.SHORT_STRING then is_between terminal.CHAR terminal.BINARY kind
    else if number == class.LONG_STRING then is_between terminal.VARCHAR terminal.VARBINARY kind
    else if number == class.LOB then is_between terminal.TINYTEXT terminal.LONGBLOB kind
    else if number == class.TIME then is_between terminal.DATETIME terminal.TIMESTAMP kind
    else is_word kind && not (is_type kind)

abbrev pub is_part_in : ℕ → ℕ → Bool
is_part_in number kind =
    if number == class.OTHER_SET then is_word kind && not (kind == terminal.CHARACTER_SET)
    else if number == class.NUMBER then is_between terminal.WHOLE terminal.FRACTIONAL kind
    else if number == class.PLAIN_LITERAL then is_between terminal.STRING terminal.FRACTIONAL kind || is_between terminal.NULL terminal.TRUTH kind
    else if number == class.KEY_OR_INDEX then is_between terminal.KEY terminal.INDEX kind
    else if number == class.PLAIN_KEY then is_between terminal.KEY terminal.FULLTEXT kind
    else if number == class.ANOTHER_TABLE then is_between terminal.LIKE terminal.SELECT kind
    else if number == class.QUERY then is_query_word kind
    else if number == class.TABLE_OPTION then not (is_query_word kind || is_between terminal.CHARSET terminal.CHARACTER kind)
    else if number == class.OPTION_WORD then is_between terminal.OPTION terminal.AUTO_INCREMENT kind
    else if number == class.OPTION_VALUE then is_word kind || kind == terminal.STRING || is_between terminal.WHOLE terminal.FRACTIONAL kind
    else is_word kind && not (is_between terminal.ALTER terminal.AUTO_INCREMENT kind)

abbrev pub is_rest_in : ℕ → ℕ → Bool
is_rest_in number kind =
    if number == class.ROW then begins_row_statement kind
    else if number == class.ANY then true
    else if number == class.BEHIND_NAME then not (continues_name kind)
    else if number == class.BEHIND_CREATED then not (continues_name kind || kind == terminal.NOT)
    else if number == class.BEHIND_NAMES then not (continues_name kind || kind == terminal.COMMA)
    else if number == class.BEHIND_DROPPED then not (continues_name kind || kind == terminal.COMMA || kind == terminal.EXISTS)
    else if number == class.OTHER_STATEMENT then not (is_between terminal.CREATE terminal.RENAME kind || begins_row_statement kind)
    else if number == class.NOT_CREATED then not (kind == terminal.TABLE || is_between terminal.UNIQUE terminal.FULLTEXT kind)
    else if number == class.NOT_DROPPED then not (kind == terminal.TABLE || kind == terminal.INDEX)
    else if number == class.NOT_TABLE then not (kind == terminal.TABLE)
    else not (kind == terminal.INDEX)

-- what is in a class, by its number: names, types, parts of definitions and changes, and what is passed over
abbrev pub in_class : ℕ → ℕ → Bool
in_class number kind =
    if nat_lt number 128 then kind == number
    else if nat_lt number class.INTEGER then is_name_in number kind
    else if nat_lt number class.OTHER_SET then is_type_in number kind
    else if nat_lt number class.ROW then is_part_in number kind
    else is_rest_in number kind
