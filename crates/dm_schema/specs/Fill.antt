-- What rows have in a column that they don't say.
use Rattle.std.specs.Prelude.{ℕ, pos, Bool, true, false, [], replicate, Option, Some, None}
use Rattle.dm_value.specs.declared.value.Value.{Value}
use Rattle.dm_value.specs.declared.value.Value.TheVariants as value
use Rattle.dm_schema.specs.declared.column.Kind.{Kind}
use Rattle.dm_schema.specs.declared.column.Kind.TheVariants as kind
use Rattle.dm_schema.specs.declared.column.DefaultRule.{DefaultRule}
use Rattle.dm_schema.specs.declared.column.DefaultRule.TheVariants as default
use Rattle.dm_schema.specs.declared.column.Column.{Column}

-- the zero of a kind; days, years and moments have none
abbrev pub zero_of : Kind → Option Value
zero_of (kind.Signed size) = Some (value.Int (pos 0))
zero_of (kind.Unsigned size) = Some (value.Int (pos 0))
zero_of (kind.Decimal precision scale) = Some (value.Dec (record { digits = pos 0; scale = scale }))
zero_of (kind.Char most) = Some (value.Bytes [])
zero_of (kind.Varchar most) = Some (value.Bytes [])
zero_of (kind.Text prefix) = Some (value.Bytes [])
zero_of (kind.Binary size) = Some (value.Bytes (replicate size 0))
zero_of (kind.Varbinary most) = Some (value.Bytes [])
zero_of (kind.Blob prefix) = Some (value.Bytes [])
zero_of kind.Date = None
zero_of kind.Year = None
zero_of (kind.Datetime digits) = None
zero_of (kind.Timestamp digits) = None

abbrev pub fill_by : DefaultRule → Bool → Kind → Option Value
fill_by (default.Const v) nullable k = Some v
fill_by default.Nothing true k = Some value.Null
fill_by default.Nothing false k = zero_of k
fill_by default.Now nullable k = None

-- The fill of a column, which rows get that were there before it: its constant default; else NULL where it is nullable
-- without a default; else, without a default, the zero of its kind.
abbrev pub fill : Column → Option Value
fill c = fill_by c.default_rule c.nullable c.kind

abbrev pub missing_by : DefaultRule → Bool → Option Value
missing_by (default.Const v) nullable = Some v
missing_by default.Nothing true = Some value.Null
missing_by default.Nothing false = None
missing_by default.Now nullable = None

-- The constant fill for missing, which rows get that don't name the column: its constant default, or NULL where it is
-- nullable without a default.
abbrev pub fill_for_missing : Column → Option Value
fill_for_missing c = missing_by c.default_rule c.nullable
