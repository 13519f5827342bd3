-- How many bytes the value of a kind has.
use Rattle.std.specs.Prelude.{◌≡◌, ⊤, ℕ, ◌+◌}
use Rattle.dm_schema.specs.declared.column.Kind.{Kind}
use Rattle.dm_schema.specs.declared.column.Kind.TheVariants as kind
use Rattle.dm_decode.specs.Decimals.{decimal_width}
use Rattle.dm_decode.specs.Values.{fraction_width}

-- So many bytes are those of one value, where the kind says how many there are.
abbrev pub HasWidth : Kind → ℕ → Type 0
HasWidth (kind.Signed size) count = count ≡ size
HasWidth (kind.Unsigned size) count = count ≡ size
HasWidth (kind.Decimal precision scale) count = count ≡ decimal_width precision scale
HasWidth (kind.Char most) count = ⊤
HasWidth (kind.Varchar most) count = ⊤
HasWidth (kind.Text prefix) count = ⊤
HasWidth (kind.Binary size) count = ⊤
HasWidth (kind.Varbinary most) count = ⊤
HasWidth (kind.Blob prefix) count = ⊤
HasWidth kind.Date count = count ≡ 3
HasWidth kind.Year count = count ≡ 1
HasWidth (kind.Datetime digits) count = count ≡ 5 + fraction_width digits
HasWidth (kind.Timestamp digits) count = count ≡ 4 + fraction_width digits
