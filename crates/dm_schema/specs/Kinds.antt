-- What is asked of kinds, defaults, names and keys before they can make a schema.
use Rattle.std.specs.Prelude.{ℕ, Bool, true, false, not, ◌&&◌, ◌||◌, ◌==◌, nat_le, List, length}
use Rattle.std.specs.List.{list_any}
use Rattle.dm_value.specs.declared.value.Value.{Value}
use Rattle.dm_value.specs.declared.value.Value.TheVariants as value
use Rattle.dm_schema.specs.declared.column.Kind.{Kind}
use Rattle.dm_schema.specs.declared.column.Kind.TheVariants as kind
use Rattle.dm_schema.specs.declared.column.DefaultRule.{DefaultRule}
use Rattle.dm_schema.specs.declared.column.DefaultRule.TheVariants as default
use Rattle.dm_schema.specs.declared.column.Column.{Column}
use Rattle.dm_schema.specs.declared.column.UniqueKey.{UniqueKey}

-- at least low, and at most high
abbrev pub is_between : ℕ → ℕ → ℕ → Bool
is_between low high n = nat_le low n && nat_le n high

-- the bytes of TINYINT, SMALLINT, MEDIUMINT, INT and BIGINT
abbrev pub is_integer_size : ℕ → Bool
is_integer_size size = size == 1 || size == 2 || size == 3 || size == 4 || size == 8

-- A kind's numbers are in range: sizes of integers, precision and scale, the bytes of a length prefix, the digits of a
-- fraction, and the lengths of CHAR and BINARY. The other lengths have 16 bits.
abbrev pub is_kind : Kind → Bool
is_kind (kind.Signed size) = is_integer_size size
is_kind (kind.Unsigned size) = is_integer_size size
is_kind (kind.Decimal precision scale) = is_between 1 38 precision && nat_le scale precision
is_kind (kind.Char most) = nat_le most 255
is_kind (kind.Varchar most) = true
is_kind (kind.Text prefix) = is_between 1 4 prefix
is_kind (kind.Binary size) = nat_le size 255
is_kind (kind.Varbinary most) = true
is_kind (kind.Blob prefix) = is_between 1 4 prefix
is_kind kind.Date = true
is_kind kind.Year = true
is_kind (kind.Datetime digits) = nat_le digits 6
is_kind (kind.Timestamp digits) = nat_le digits 6

abbrev pub is_null : Value → Bool
is_null value.Null = true
is_null (value.Int n) = false
is_null (value.Bytes bytes) = false
is_null (value.Dec d) = false
is_null (value.Date d) = false
is_null (value.Moment m) = false
is_null (value.Stamp s) = false

-- a constant default isn't NULL
abbrev pub is_rule : DefaultRule → Bool
is_rule default.Nothing = true
is_rule (default.Const v) = not (is_null v)
is_rule default.Now = true

-- a name without ASCII capital letters, in which names of columns and keys are kept
abbrev pub is_folded : List ℕ → Bool
is_folded name = not (list_any (is_between 65 90) name)

-- a column of which a schema can be made
abbrev pub is_column : Column → Bool
is_column c = is_folded c.name && is_kind c.kind && is_rule c.default_rule

-- a unique key of which a schema can be made: it has one column at least
abbrev pub is_key : UniqueKey → Bool
is_key k = is_folded k.name && not (length k.columns == 0)
