-- The grammar of the statements that are read, after MySQL's manual, "Data Definition Statements". A production is a
-- sequence, a choice or a repetition of others; a token stands for its terminal or a class of them, with the role that
-- it has there. What is known and not supported has the role `unsupported`: reading stops there.
use Rattle.std.specs.Prelude.{ℕ, Bool, false, ◌&&◌, ◌==◌, List, [], ◌∷◌, if◌then◌else◌}
use Rattle.dm_grammar.specs.Grammar.{Grammar, Empty, Word, Skip, Seq, Or, Many, unsupported}
use Rattle.dm_grammar.specs.Meaning.{list}
use Rattle.dm_syntax.specs.declared.terminal.TheConstants as terminal
use Rattle.dm_syntax.specs.declared.class.TheConstants as class
use Rattle.dm_syntax.specs.declared.role.TheConstants as role

-- one behind another
abbrev pub all_of : List Grammar → Grammar
all_of [] = Empty
all_of (g ∷ []) = g
all_of (g ∷ h ∷ gs) = Seq g (all_of (h ∷ gs))

abbrev pub one_of : List Grammar → Grammar
one_of [] = Empty
one_of (g ∷ []) = g
one_of (g ∷ h ∷ gs) = Or g (one_of (h ∷ gs))

abbrev pub optional : Grammar → Grammar
optional g = Or Empty g

-- a token that says nothing by itself
abbrev pub plain : ℕ → Grammar
plain its_class = Word its_class role.FILLER

-- one or more, with a comma between two of them, which has a role
abbrev pub separated : Grammar → ℕ → Grammar
separated item comma = list item terminal.COMMA comma

-- any tokens, up to the end
abbrev pub anything : Grammar
anything = Many (plain class.ANY)

-- nothing, or a token of a class and what stands behind it
abbrev pub rest_from : ℕ → Grammar
rest_from its_class = optional (Seq (plain its_class) anything)

-- Names of tables.

-- .table
abbrev pub second_part : Grammar
second_part = optional (Seq (plain terminal.POINT) (Word class.NAME role.NAME_SECOND))

-- [database.]table, where the first word is of a class
abbrev pub table_name_from : ℕ → Grammar
table_name_from its_class = Seq (Word its_class role.NAME_PART) second_part

abbrev pub table_name : Grammar
table_name = table_name_from class.NAME

-- [IF ..] table_name: IF is a name where no such clause begins with it
abbrev pub table_name_behind : Grammar → Grammar
table_name_behind clause = Or (Seq (Word terminal.IF role.NAME_PART) (Or (Seq clause table_name) second_part)) (table_name_from class.TABLE_NAME)

-- .table, and anything behind it
abbrev pub second_and_rest : Grammar
second_and_rest = all_of (plain terminal.POINT ∷ Word class.NAME role.NAME_SECOND ∷ anything ∷ [])

-- [database.]table, where the first word is of a class, and what stands behind it, which isn't read
abbrev pub table_name_and_rest : ℕ → Grammar
table_name_and_rest its_class = Seq (Word its_class role.NAME_PART) (Or second_and_rest (rest_from class.BEHIND_NAME))

abbrev pub exists : Grammar
exists = Word terminal.EXISTS role.EXISTS

abbrev pub not_exists : Grammar
not_exists = Seq (plain terminal.NOT) exists

-- Types.

-- (n)
abbrev pub in_brackets : ℕ → Grammar
in_brackets its_role = all_of (plain terminal.OPENING ∷ Word terminal.WHOLE its_role ∷ plain terminal.CLOSING ∷ [])

-- {TINYINT | SMALLINT | MEDIUMINT | INT | INTEGER | BIGINT} [(m)] [SIGNED | UNSIGNED | ZEROFILL] ..
abbrev pub integer_type : Grammar
integer_type =
    all_of (Word class.INTEGER role.TYPE ∷ optional (in_brackets role.FILLER)
    ∷ Many (Or (plain terminal.SIGNED) (Word terminal.UNSIGNED role.UNSIGNED)) ∷ [])

-- {DECIMAL | DEC | NUMERIC} [(m [, d])]
abbrev pub decimal_type : Grammar
decimal_type =
    all_of (Word terminal.DECIMAL role.TYPE
    ∷ optional (all_of (plain terminal.OPENING ∷ Word terminal.WHOLE role.PRECISION
    ∷ optional (Seq (plain terminal.COMMA) (Word terminal.WHOLE role.SCALE)) ∷ plain terminal.CLOSING ∷ []))
    ∷ optional (Word terminal.UNSIGNED unsupported) ∷ [])

-- {CHAR | BINARY} [(n)], {VARCHAR | VARBINARY} (n)
abbrev pub string_type : Grammar
string_type =
    Or (Seq (Word class.SHORT_STRING role.TYPE) (optional (in_brackets role.CHAR_LENGTH)))
    (Seq (Word class.LONG_STRING role.TYPE) (in_brackets role.STRING_LENGTH))

-- {TINY | MEDIUM | LONG}{TEXT | BLOB}, without a length
abbrev pub lob_type : Grammar
lob_type = Seq (Word class.LOB role.TYPE) (optional (Word terminal.OPENING unsupported))

-- DATE, YEAR [(4)], {DATETIME | TIMESTAMP} [(fsp)]
abbrev pub time_type : Grammar
time_type =
    one_of (Word terminal.DATE role.TYPE
    ∷ Seq (Word terminal.YEAR role.TYPE) (optional (in_brackets role.YEAR_WIDTH))
    ∷ Seq (Word class.TIME role.TYPE) (optional (in_brackets role.FRACTION)) ∷ [])

-- the types, {BOOL | BOOLEAN} among them; another word in their place isn't supported
abbrev pub data_type : Grammar
data_type =
    one_of (integer_type ∷ Word terminal.BOOL role.TYPE ∷ decimal_type ∷ string_type ∷ lob_type ∷ time_type
    ∷ Word class.OTHER_TYPE unsupported ∷ [])

-- Columns.

-- {CURRENT_TIMESTAMP | NOW | LOCALTIME | LOCALTIMESTAMP} [( [fsp] )]
abbrev pub moment : ℕ → Grammar
moment its_role =
    Seq (Word terminal.NOW its_role)
    (optional (all_of (plain terminal.OPENING ∷ optional (Word terminal.WHOLE role.NOW_FRACTION) ∷ plain terminal.CLOSING ∷ [])))

-- NULL | TRUE | FALSE | string | hexadecimal | [-] number | introducer string
abbrev pub literal : Grammar
literal =
    one_of (Word class.PLAIN_LITERAL role.LITERAL
    ∷ Seq (Word terminal.MINUS role.MINUS) (Word class.NUMBER role.LITERAL)
    ∷ Seq (plain terminal.INTRODUCER) (Word terminal.STRING role.LITERAL) ∷ [])

-- DEFAULT {literal | moment}; an expression in brackets isn't supported
abbrev pub default_value : Grammar
default_value =
    Seq (Word terminal.DEFAULT role.DEFAULT)
    (one_of (literal ∷ moment role.NOW ∷ Word terminal.OPENING unsupported ∷ []))

-- {CHARSET | CHARACTER SET}
abbrev pub character_set : Grammar
character_set = Or (plain terminal.CHARSET) (Seq (plain terminal.CHARACTER) (plain terminal.SET))

-- utf8mb4, utf8mb3, utf8 or ascii
abbrev pub set_name : Grammar
set_name = Or (plain terminal.CHARACTER_SET) (Word class.OTHER_SET unsupported)

-- What may stand behind a column's type: NOT NULL, NULL, DEFAULT .., ON UPDATE moment, AUTO_INCREMENT, UNIQUE [KEY],
-- [PRIMARY] KEY, COMMENT string, COLLATE name, a character set, {COLUMN_FORMAT | STORAGE} word, VISIBLE, INVISIBLE. A KEY
-- right behind UNIQUE belongs to it, which the token before tells. GENERATED, REFERENCES and AS aren't supported.
abbrev pub column_attribute : Grammar
column_attribute =
    one_of (Seq (Word terminal.NOT role.NOT_NULL) (plain terminal.NULL)
    ∷ Word terminal.NULL role.NULL_WRITTEN
    ∷ default_value
    ∷ all_of (plain terminal.ON ∷ plain terminal.UPDATE ∷ moment role.FILLER ∷ [])
    ∷ Word terminal.AUTO_INCREMENT role.AUTO_INCREMENT
    ∷ Word terminal.UNIQUE role.UNIQUE_COLUMN
    ∷ Word terminal.KEY role.KEY_COLUMN
    ∷ Seq (plain terminal.PRIMARY) (Word terminal.KEY role.KEY_COLUMN)
    ∷ Seq (plain terminal.COMMENT) (plain terminal.STRING)
    ∷ Seq (plain terminal.COLLATE) (plain class.WORD)
    ∷ Seq character_set set_name
    ∷ Seq (plain terminal.STORAGE) (plain class.WORD)
    ∷ plain terminal.VISIBLE
    ∷ Word terminal.GENERATED unsupported
    ∷ Word terminal.AS unsupported
    ∷ [])

-- col_name data_type, and attributes in any order
abbrev pub column_definition : Grammar
column_definition = all_of (Word class.COLUMN_NAME role.COLUMN_NAME ∷ data_type ∷ Many column_attribute ∷ [])

-- Keys.

-- USING {BTREE | HASH}
abbrev pub index_type : Grammar
index_type = optional (Seq (plain terminal.USING) (plain terminal.BTREE))

-- col_name [ASC | DESC]; a prefix length and an expression aren't supported
abbrev pub key_part : Grammar
key_part =
    Or (Word terminal.OPENING unsupported)
    (all_of (Word class.NAME role.KEY_PART ∷ optional (Word terminal.OPENING unsupported) ∷ optional (plain terminal.ASC) ∷ []))

-- (key_part, ..)
abbrev pub key_parts : Grammar
key_parts = all_of (plain terminal.OPENING ∷ separated key_part role.FILLER ∷ plain terminal.CLOSING ∷ [])

abbrev pub key_body : Grammar
key_body = all_of (index_type ∷ key_parts ∷ index_type ∷ [])

-- PRIMARY KEY [index_type] (key_part, ..) [index_type]
abbrev pub primary_key : Grammar
primary_key = all_of (plain terminal.PRIMARY ∷ Word terminal.KEY role.PRIMARY_KEY ∷ key_body ∷ [])

-- UNIQUE [INDEX | KEY] [index_name] [index_type] (key_part, ..) [index_type]
abbrev pub unique_key : Grammar
unique_key =
    all_of (Word terminal.UNIQUE role.UNIQUE_KEY ∷ optional (plain class.KEY_OR_INDEX) ∷ optional (Word class.KEY_NAME role.KEY_NAME) ∷ key_body ∷ [])

-- {INDEX | KEY | FULLTEXT | SPATIAL} .., passed over
abbrev pub plain_key : Grammar
plain_key = Seq (Word class.PLAIN_KEY role.PLAIN_KEY) (Skip 0)

abbrev pub foreign_key : Grammar
foreign_key = Word terminal.FOREIGN unsupported

-- [CONSTRAINT [symbol]] {primary_key | unique_key | check | foreign_key}
abbrev pub constraint : Grammar → Grammar
constraint check =
    Seq (optional (Seq (plain terminal.CONSTRAINT) (optional (Word class.COLUMN_NAME role.CONSTRAINT_NAME))))
    (one_of (primary_key ∷ unique_key ∷ check ∷ foreign_key ∷ []))

-- CREATE TABLE.

-- CHECK .., passed over
abbrev pub check_definition : Grammar
check_definition = Seq (plain terminal.CHECK) (Skip 0)

abbrev pub create_definition : Grammar
create_definition = one_of (column_definition ∷ constraint check_definition ∷ plain_key ∷ Word class.ANOTHER_TABLE unsupported ∷ [])

-- options are passed over, but for character sets; AS, SELECT, LIKE and PARTITION aren't supported
abbrev pub table_option : Grammar
table_option =
    one_of (all_of (character_set ∷ optional (plain terminal.EQUALS) ∷ set_name ∷ []) ∷ plain class.TABLE_OPTION ∷ Word class.QUERY unsupported ∷ [])

-- (create_definition, ..) [table_options]
abbrev pub table_body : Grammar
table_body =
    all_of (Word terminal.OPENING role.DEFINITION ∷ separated create_definition role.DEFINITION ∷ plain terminal.CLOSING ∷ Many table_option ∷ [])

-- TABLE [IF NOT EXISTS] tbl_name
abbrev pub create_table_head : Grammar
create_table_head = Seq (Word terminal.TABLE role.CREATE_TABLE) (table_name_behind not_exists)

abbrev pub create_table : Grammar
create_table = Seq create_table_head (Or table_body (Word class.QUERY unsupported))

-- ALTER TABLE.

-- [FIRST | AFTER col_name]
abbrev pub spot : Grammar
spot = optional (Or (Word terminal.FIRST role.FIRST) (Seq (plain terminal.AFTER) (Word class.NAME role.AFTER_NAME)))

abbrev pub placed_column : Grammar
placed_column = Seq column_definition spot

-- (column_definition, ..)
abbrev pub added_columns : Grammar
added_columns = all_of (Word terminal.OPENING role.ADD_MORE ∷ separated column_definition role.ADD_MORE ∷ plain terminal.CLOSING ∷ [])

abbrev pub maybe_column : Grammar
maybe_column = optional (plain terminal.COLUMN)

-- a key that is added; CHECK, FOREIGN KEY and PARTITION aren't supported
abbrev pub added_key : Grammar
added_key = one_of (constraint (Word terminal.CHECK unsupported) ∷ plain_key ∷ Word terminal.PARTITION unsupported ∷ [])

-- ADD [COLUMN] column_definition [spot] | ADD [COLUMN] (column_definition, ..) | ADD {a key}
abbrev pub add_change : Grammar
add_change =
    Seq (Word terminal.ADD role.ADD)
    (Or (Seq maybe_column (Or placed_column added_columns)) added_key)

-- {MODIFY [COLUMN] | CHANGE [COLUMN] old_col_name} column_definition [spot]
abbrev pub modify_change : Grammar
modify_change =
    Seq (Or (Seq (Word terminal.MODIFY role.MODIFY) maybe_column)
    (all_of (Word terminal.CHANGE role.CHANGE ∷ maybe_column ∷ Word class.COLUMN_NAME role.OLD_NAME ∷ [])))
    placed_column

-- DROP [COLUMN] col_name | DROP {INDEX | KEY} index_name | DROP PRIMARY KEY
abbrev pub drop_change : Grammar
drop_change =
    Seq (Word terminal.DROP role.DROP)
    (one_of (Seq maybe_column (Word class.COLUMN_NAME role.DROPPED_COLUMN)
    ∷ Seq (plain class.KEY_OR_INDEX) (Word class.NAME role.DROPPED_KEY)
    ∷ Seq (plain terminal.PRIMARY) (Word terminal.KEY role.PRIMARY_KEY)
    ∷ foreign_key
    ∷ Word terminal.PARTITION unsupported
    ∷ []))

-- ALTER [COLUMN] col_name {SET DEFAULT literal | DROP DEFAULT}
abbrev pub alter_change : Grammar
alter_change =
    all_of (Word terminal.ALTER role.ALTER ∷ maybe_column ∷ Word class.COLUMN_NAME role.ALTERED
    ∷ Or (all_of (plain terminal.SET ∷ plain terminal.DEFAULT ∷ Or literal (Word terminal.OPENING unsupported) ∷ []))
    (Seq (plain terminal.DROP) (plain terminal.DEFAULT)) ∷ [])

-- RENAME COLUMN a TO b | RENAME {INDEX | KEY} a TO b | RENAME [TO] tbl_name
abbrev pub rename_change : Grammar
rename_change =
    Seq (Word terminal.RENAME role.RENAME)
    (one_of (all_of (plain terminal.COLUMN ∷ plain class.NAME ∷ plain terminal.TO ∷ plain class.NAME ∷ [])
    ∷ all_of (plain class.KEY_OR_INDEX ∷ Word class.NAME role.RENAMED_KEY ∷ plain terminal.TO ∷ plain class.NAME ∷ [])
    ∷ Seq (Or (Seq (plain terminal.TO) (plain class.NAME)) (plain class.RENAMED)) (optional (Seq (plain terminal.POINT) (plain class.NAME)))
    ∷ Word terminal.AS unsupported
    ∷ []))

-- FORCE | {ENGINE | COMMENT | AUTO_INCREMENT | ALGORITHM | LOCK} [=] value
abbrev pub option_change : Grammar
option_change =
    Or (Word terminal.FORCE role.NO_EFFECT)
    (all_of (Word class.OPTION_WORD role.NO_EFFECT ∷ optional (plain terminal.EQUALS) ∷ plain class.OPTION_VALUE ∷ []))

-- another word in place of a change isn't supported
abbrev pub alter_option : Grammar
alter_option =
    one_of (add_change ∷ modify_change ∷ drop_change ∷ alter_change ∷ rename_change ∷ option_change ∷ Word class.OTHER_CHANGE unsupported ∷ [])

-- TABLE tbl_name
abbrev pub alter_table_head : Grammar
alter_table_head = Seq (Word terminal.TABLE role.ALTER_TABLE) table_name

abbrev pub alter_table : Grammar
alter_table = Seq alter_table_head (separated alter_option role.FILLER)

-- CREATE INDEX and DROP INDEX.

-- INDEX index_name [index_type] ON tbl_name
abbrev pub create_index_on : ℕ → Grammar → Grammar
create_index_on its_role table =
    all_of (Word terminal.INDEX its_role ∷ Word class.NAME role.KEY_NAME ∷ index_type ∷ plain terminal.ON ∷ table ∷ [])

abbrev pub create_index_head : ℕ → Grammar
create_index_head its_role = create_index_on its_role table_name

abbrev pub create_unique_index : Grammar
create_unique_index = all_of (create_index_head role.UNIQUE_INDEX ∷ key_parts ∷ index_type ∷ [])

-- the key of another index is passed over, and what stands behind it too
abbrev pub create_plain_index : Grammar
create_plain_index =
    all_of (create_index_head role.PLAIN_INDEX ∷ plain terminal.OPENING ∷ separated (Skip 0) role.FILLER ∷ plain terminal.CLOSING ∷ anything ∷ [])

-- INDEX index_name ON tbl_name
abbrev pub drop_index_on : Grammar → Grammar
drop_index_on table = all_of (Word terminal.INDEX role.DROP_INDEX ∷ Word class.NAME role.DROPPED_KEY ∷ plain terminal.ON ∷ table ∷ [])

abbrev pub drop_index : Grammar
drop_index = drop_index_on table_name

-- Statements that are told by their heads alone.

-- , tbl_name ..
abbrev pub more_names : Grammar
more_names = Seq (Many (Seq (plain terminal.COMMA) table_name)) (rest_from class.BEHIND_NAMES)

-- TABLE [IF EXISTS] tbl_name, ..
abbrev pub drop_table : Grammar
drop_table =
    Seq (Word terminal.TABLE role.DROP_TABLE)
    (Or (Seq (Word terminal.IF role.NAME_PART)
    (Or (all_of (exists ∷ table_name ∷ more_names ∷ []))
    (Seq second_part (Or (all_of (plain terminal.COMMA ∷ table_name ∷ more_names ∷ [])) (rest_from class.BEHIND_DROPPED)))))
    (Seq (table_name_from class.TABLE_NAME) more_names))

-- TRUNCATE [TABLE] tbl_name
abbrev pub truncate_table : Grammar
truncate_table =
    Seq (Word terminal.TRUNCATE role.TRUNCATE)
    (Or (Seq (plain terminal.TABLE) (table_name_and_rest class.NAME)) (table_name_and_rest class.TRUNCATED))

-- TABLE tbl_name TO tbl_name, ..
abbrev pub rename_table : Grammar
rename_table =
    all_of (Word terminal.TABLE role.RENAME_TABLE
    ∷ separated (all_of (table_name ∷ plain terminal.TO ∷ table_name ∷ [])) role.FILLER ∷ rest_from class.BEHIND_NAMES ∷ [])

-- Statements.

-- CREATE TABLE ..
abbrev pub create_table_statement : Grammar
create_table_statement = Seq (plain terminal.CREATE) create_table

-- ALTER TABLE ..
abbrev pub alter_table_statement : Grammar
alter_table_statement = Seq (plain terminal.ALTER) alter_table

-- what CREATE UNIQUE INDEX, another CREATE INDEX and DROP INDEX are behind their first word
pub record Indexes : Type 0 where
  pub unique_index : Grammar
  pub plain_index : Grammar
  pub dropped_index : Grammar

-- any other statement; one that begins with words not named here is one of another kind, and is passed over
abbrev pub any_other : Indexes → Grammar
any_other indexes =
    optional (one_of
    (Seq (plain terminal.CREATE)
    (one_of (Seq (plain terminal.UNIQUE) (Or indexes.unique_index (rest_from class.NOT_INDEX))
    ∷ Seq (plain terminal.FULLTEXT) (Or indexes.plain_index (rest_from class.NOT_INDEX))
    ∷ indexes.plain_index
    ∷ rest_from class.NOT_CREATED
    ∷ []))
    ∷ Seq (plain terminal.ALTER) (rest_from class.NOT_TABLE)
    ∷ Seq (plain terminal.DROP) (one_of (drop_table ∷ indexes.dropped_index ∷ rest_from class.NOT_DROPPED ∷ []))
    ∷ truncate_table
    ∷ Seq (plain terminal.RENAME) (Or rename_table (rest_from class.NOT_TABLE))
    ∷ Seq (Word class.ROW role.ROW_STATEMENT) anything
    ∷ Seq (plain class.OTHER_STATEMENT) anything
    ∷ []))

abbrev pub other_statement : Grammar
other_statement = any_other (record { unique_index = create_unique_index; plain_index = create_plain_index; dropped_index = drop_index })

-- a statement begins with a word, and TABLE behind it
abbrev pub begins_table : ℕ → List ℕ → Bool
begins_table word [] = false
begins_table word (kind ∷ []) = false
begins_table word (kind ∷ next ∷ kinds) = kind == word && next == terminal.TABLE

-- The grammar of a statement, which its first two words tell.
abbrev pub statement_grammar : List ℕ → Grammar
statement_grammar kinds =
    if begins_table terminal.CREATE kinds then create_table_statement
    else if begins_table terminal.ALTER kinds then alter_table_statement
    else other_statement

-- Heads: statements of which only the names of their tables are read.

abbrev pub create_table_start : Grammar
create_table_start =
    all_of (plain terminal.CREATE ∷ Word terminal.TABLE role.CREATE_TABLE
    ∷ Or (Seq (Word terminal.IF role.NAME_PART)
    (one_of (Seq not_exists (table_name_and_rest class.NAME) ∷ second_and_rest ∷ rest_from class.BEHIND_CREATED ∷ [])))
    (table_name_and_rest class.TABLE_NAME) ∷ [])

abbrev pub alter_table_start : Grammar
alter_table_start = all_of (plain terminal.ALTER ∷ Word terminal.TABLE role.ALTER_TABLE ∷ table_name_and_rest class.NAME ∷ [])

abbrev pub other_start : Grammar
other_start = any_other (record {
  unique_index = create_index_on role.UNIQUE_INDEX (table_name_and_rest class.NAME);
  plain_index = create_index_on role.PLAIN_INDEX (table_name_and_rest class.NAME);
  dropped_index = drop_index_on (table_name_and_rest class.NAME);
})

abbrev pub head_grammar : List ℕ → Grammar
head_grammar kinds =
    if begins_table terminal.CREATE kinds then create_table_start
    else if begins_table terminal.ALTER kinds then alter_table_start
    else other_start
