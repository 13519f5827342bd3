-- How columns, keys and tables are read. It serves the proof alone.
use Rattle.std.specs.Prelude.{ℕ, Bool, true, false, ◌&&◌, List, [], codes, Option, Some, None, if◌then◌else◌}
use Rattle.std.specs.Result.{result_ok}
use Rattle.std.specs.List.{list_all}
use Rattle.dm_schema.specs.declared.column.Kind.{Kind}
use Rattle.dm_schema.specs.declared.column.Kind.TheVariants as kind
use Rattle.dm_schema.specs.declared.column.Column.{Column}
use Rattle.dm_schema.specs.declared.column.UniqueKey.{UniqueKey}
use Rattle.dm_schema.specs.declared.column.DefaultRule.{DefaultRule}
use Rattle.dm_schema.specs.declared.column.DefaultRule.TheVariants as default
use Rattle.dm_schema.specs.Kinds.{is_kind, is_column, is_key}
use Rattle.dm_schema.specs.Layout.{Layout}
use Rattle.dm_schema.specs.Schemas.{joined_schema_of}
use Rattle.dm_stmt_read.specs.Readers.{Reader, just, failing, given, ◌>>=◌, further, one_if, accept, expect, value, number, small, name, names}

-- Kinds.

-- a number in brackets
unfoldable pub in_brackets : Reader ℕ
in_brackets =
    expect (codes "(") >>= λ _.
    number >>= λ n.
    expect (codes ")") >>= λ _.
    just n

-- the digits of a fraction, if there are any
unfoldable pub fraction : Reader ℕ
fraction = accept (codes "(") >>= λ is. if is then (small >>= λ digits. expect (codes ")") >>= λ _. just digits) else just 0

-- the bytes of an integer type, if one stands there
unfoldable pub integer_size : Reader (Option ℕ)
integer_size =
    accept (codes "TINYINT") >>= λ is. if is then just (Some 1) else (
    accept (codes "SMALLINT") >>= λ is. if is then just (Some 2) else (
    accept (codes "MEDIUMINT") >>= λ is. if is then just (Some 3) else (
    accept (codes "INT") >>= λ is. if is then just (Some 4) else (
    accept (codes "BIGINT") >>= λ is. if is then just (Some 8) else just None))))

unfoldable pub integer_kind : ℕ → Reader Kind
integer_kind size = accept (codes " UNSIGNED") >>= λ is. just (if is then kind.Unsigned size else kind.Signed size)

-- a text or a blob, if one stands there
unfoldable pub text_kind : Reader (Option Kind)
text_kind =
    accept (codes "TINYTEXT") >>= λ is. if is then just (Some (kind.Text 1)) else (
    accept (codes "TEXT") >>= λ is. if is then just (Some (kind.Text 2)) else (
    accept (codes "MEDIUMTEXT") >>= λ is. if is then just (Some (kind.Text 3)) else (
    accept (codes "LONGTEXT") >>= λ is. if is then just (Some (kind.Text 4)) else just None)))

unfoldable pub blob_kind : Reader (Option Kind)
blob_kind =
    accept (codes "TINYBLOB") >>= λ is. if is then just (Some (kind.Blob 1)) else (
    accept (codes "BLOB") >>= λ is. if is then just (Some (kind.Blob 2)) else (
    accept (codes "MEDIUMBLOB") >>= λ is. if is then just (Some (kind.Blob 3)) else (
    accept (codes "LONGBLOB") >>= λ is. if is then just (Some (kind.Blob 4)) else just None)))

unfoldable pub decimal_kind : Reader Kind
decimal_kind =
    small >>= λ precision.
    expect (codes ",") >>= λ _.
    small >>= λ scale.
    expect (codes ")") >>= λ _.
    just (kind.Decimal precision scale)

-- a kind with a length
unfoldable pub sized_kind : Reader (Option Kind)
sized_kind =
    accept (codes "VARCHAR") >>= λ is. if is then (in_brackets >>= λ most. just (Some (kind.Varchar most))) else (
    accept (codes "CHAR") >>= λ is. if is then (in_brackets >>= λ most. just (Some (kind.Char most))) else (
    accept (codes "VARBINARY") >>= λ is. if is then (in_brackets >>= λ most. just (Some (kind.Varbinary most))) else (
    accept (codes "BINARY") >>= λ is. if is then (in_brackets >>= λ size. just (Some (kind.Binary size))) else just None)))

-- any other kind
unfoldable pub other_kind : Reader Kind
other_kind =
    accept (codes "DECIMAL(") >>= λ is. if is then decimal_kind else (
    accept (codes "DATETIME") >>= λ is. if is then (fraction >>= λ digits. just (kind.Datetime digits)) else (
    accept (codes "TIMESTAMP") >>= λ is. if is then (fraction >>= λ digits. just (kind.Timestamp digits)) else (
    accept (codes "DATE") >>= λ is. if is then just kind.Date else (
    expect (codes "YEAR") >>= λ _. just kind.Year))))

-- what there is, or else what is read
abbrev pub or_else : {A : Type 0} → Reader A → Option A → Reader A
or_else reader None = reader
or_else reader (Some x) = just x

abbrev pub or_integer : Reader Kind → Option ℕ → Reader Kind
or_integer reader None = reader
or_integer reader (Some size) = integer_kind size

unfoldable pub any_kind : Reader Kind
any_kind = integer_size >>= or_integer (text_kind >>= or_else (blob_kind >>= or_else (sized_kind >>= or_else other_kind)))

-- a kind whose numbers are in range
unfoldable pub read_kind : Reader Kind
read_kind = any_kind >>= λ k. if is_kind k then just k else failing

-- Columns.

unfoldable pub nullable : Reader Bool
nullable = accept (codes " NOT NULL") >>= λ no. if no then just false else (expect (codes " NULL") >>= λ _. just true)

unfoldable pub written_default : Kind → Reader DefaultRule
written_default k =
    accept (codes "CURRENT_TIMESTAMP") >>= λ now.
    if now then (fraction >>= λ _. just default.Now) else (value k >>= λ v. just (default.Const v))

unfoldable pub default_rule : Kind → Reader DefaultRule
default_rule k = accept (codes " DEFAULT ") >>= λ is. if is then written_default k else just default.Nothing

unfoldable pub column : Reader Column
column =
    name >>= λ name.
    expect (codes " ") >>= λ _.
    read_kind >>= λ k.
    nullable >>= λ nullable.
    default_rule k >>= λ rule.
    just (record { name = name; kind = k; nullable = nullable; default_rule = rule })

unfoldable pub unique_key : Reader UniqueKey
unique_key =
    name >>= λ name.
    expect (codes " ") >>= λ _.
    names >>= λ columns.
    just (record { name = name; columns = columns })

-- Tables.

unfoldable pub column_item : Reader Column
column_item = column >>= λ c. expect (codes ", ") >>= λ _. just c

-- a column and what parts it from what follows, up to the primary key
unfoldable pub next_column : Reader (Option Column)
next_column = accept (codes "PRIMARY KEY ") >>= λ ends. if ends then just None else (column_item >>= λ c. just (Some c))

unfoldable pub next_unique : Reader (Option UniqueKey)
next_unique = accept (codes ", UNIQUE KEY ") >>= one_if unique_key

-- the schema of columns and keys, if they are one
unfoldable pub layout_of : List Column → List (List ℕ) → List UniqueKey → Option Layout
layout_of columns primary uniques = if list_all is_column columns && list_all is_key uniques then result_ok (joined_schema_of columns primary uniques) else None

unfoldable pub layout : Reader Layout
layout =
    further next_column [] >>= λ columns.
    names >>= λ primary.
    further next_unique [] >>= λ uniques.
    given (layout_of columns primary uniques)
