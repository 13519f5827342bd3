-- The lengths of kinds that no schema bounds.
use Rattle.std.specs.Prelude.{Bool, true, nat_le}
use Rattle.dm_schema.specs.declared.column.Kind.{Kind}
use Rattle.dm_schema.specs.declared.column.Kind.TheVariants as kind

-- the length of a VARCHAR or VARBINARY has 16 bits
abbrev pub has_length : Kind → Bool
has_length (kind.Signed size) = true
has_length (kind.Unsigned size) = true
has_length (kind.Decimal precision scale) = true
has_length (kind.Char most) = true
has_length (kind.Varchar most) = nat_le most 65535
has_length (kind.Text prefix) = true
has_length (kind.Binary size) = true
has_length (kind.Varbinary most) = nat_le most 65535
has_length (kind.Blob prefix) = true
has_length kind.Date = true
has_length kind.Year = true
has_length (kind.Datetime digits) = true
has_length (kind.Timestamp digits) = true
