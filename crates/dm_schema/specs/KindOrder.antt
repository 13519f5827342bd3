-- The order of kinds: by size within a family.
use Rattle.std.specs.Prelude.{ℕ, nat_le, Bool, false, ◌&&◌, ◌||◌, Option, Some, None}
use Rattle.dm_schema.specs.declared.column.Kind.{Kind}
use Rattle.dm_schema.specs.declared.column.Kind.TheVariants as kind
use Rattle.dm_schema.specs.declared.kind_order.Family.{Family}
use Rattle.dm_schema.specs.declared.kind_order.Family.TheVariants as family
use Rattle.dm_schema.specs.contracts.column.KindPartialEq.TheImpl as kind_eq
use Rattle.dm_schema.specs.contracts.kind_order.FamilyPartialEq.TheImpl as family_eq

abbrev pub family_of : Kind → Family
family_of (kind.Signed size) = family.Signed
family_of (kind.Unsigned size) = family.Unsigned
family_of (kind.Decimal precision scale) = family.Decimal
family_of (kind.Char most) = family.Char
family_of (kind.Varchar most) = family.Varchar
family_of (kind.Text prefix) = family.Text
family_of (kind.Binary size) = family.Binary
family_of (kind.Varbinary most) = family.Varbinary
family_of (kind.Blob prefix) = family.Blob
family_of kind.Date = family.Date
family_of kind.Year = family.Year
family_of (kind.Datetime digits) = family.Datetime
family_of (kind.Timestamp digits) = family.Timestamp

-- the size of a kind in a family that is ordered by size
abbrev pub size_of : Kind → Option ℕ
size_of (kind.Signed size) = Some size
size_of (kind.Unsigned size) = Some size
size_of (kind.Decimal precision scale) = None
size_of (kind.Char most) = Some most
size_of (kind.Varchar most) = Some most
size_of (kind.Text prefix) = Some prefix
size_of (kind.Binary size) = None
size_of (kind.Varbinary most) = Some most
size_of (kind.Blob prefix) = Some prefix
size_of kind.Date = None
size_of kind.Year = None
size_of (kind.Datetime digits) = None
size_of (kind.Timestamp digits) = None

abbrev pub same_kind : Kind → Kind → Bool
same_kind = (kind_eq.ghosts).eq

abbrev pub same_family : Kind → Kind → Bool
same_family a b = (family_eq.ghosts).eq (family_of a) (family_of b)

abbrev pub size_at_most : Option ℕ → Option ℕ → Bool
size_at_most None high = false
size_at_most (Some low) None = false
size_at_most (Some low) (Some high) = nat_le low high

-- equal kinds, or kinds of one ordered family by size
abbrev pub kind_at_most : Kind → Kind → Bool
kind_at_most low high = same_kind low high || (same_family low high && size_at_most (size_of low) (size_of high))

-- one is at most the other
abbrev pub comparable : Kind → Kind → Bool
comparable a b = kind_at_most a b || kind_at_most b a
