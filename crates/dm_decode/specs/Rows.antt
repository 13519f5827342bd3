-- A row image: a bitmap of the columns that are NULL, and the bytes of the others, one behind another.
use Rattle.std.specs.Prelude.{◌≡◌, ⊤, ℕ, ◌+◌, not, Bool, true, false, ◌==◌, List, [], ◌∷◌, length, Option, Some, None, Result, Ok, Err, if◌then◌else◌}
use Rattle.std.specs.Bool.{MatchBool}
use Rattle.std.specs.List.{zip, find}
use Rattle.dm_value.specs.declared.value.Value.{Value}
use Rattle.dm_value.specs.declared.value.Value.TheVariants as value
use Rattle.dm_schema.specs.declared.column.Column.{Column}
use Rattle.dm_schema.specs.Layout.{Layout}
use Rattle.dm_base.specs.Reading.{Reading, piece}
use Rattle.dm_binlog.specs.declared.bodies.ColumnMap.{ColumnMap}
use Rattle.dm_binlog.specs.Bodies.{bitmap_length, is_set}
use Rattle.dm_decode.specs.declared.fault.RowFault.{RowFault}
use Rattle.dm_decode.specs.declared.fault.RowFault.TheVariants as fault
use Rattle.dm_decode.specs.declared.flaw.Flaw.{Flaw}
use Rattle.dm_decode.specs.declared.flaw.Flaw.TheVariants as flaw
use Rattle.dm_decode.specs.Types.{goes_with}
use Rattle.dm_decode.specs.Values.{value_bytes, fitting_value}

abbrev pub is_memory : RowFault → Bool
is_memory fault.Memory = true
is_memory fault.Count = false
is_memory (fault.TypeDiffers column) = false
is_memory fault.Short = false
is_memory (fault.BadDecimal column) = false
is_memory (fault.BadDate column) = false
is_memory (fault.Unfit column) = false

-- a column of the schema and what the table map says of it
abbrev pub Place : Type 0
Place = Column × ColumnMap

abbrev pub flawed : Column → Flaw → RowFault
flawed column flaw.GreatGroup = fault.BadDecimal column.name
flawed column flaw.NoDate = fault.BadDate column.name
flawed column flaw.NotOfKind = fault.Unfit column.name
flawed column flaw.Memory = fault.Memory

-- a value and where the next one begins, or the fault
abbrev pub Read : Type 0
Read = Result (Value × Reading) RowFault

-- the value that bytes are, if there are so many
abbrev pub from_bytes : Column → Option (List ℕ × Reading) → Read
from_bytes column None = Err fault.Short
from_bytes column (Some read) = by (fitting_value column.kind read.0) where
  by : Result Value Flaw → Read
  by (Ok v) = Ok (v, read.1)
  by (Err e) = Err (flawed column e)

-- NULL has no bytes
abbrev pub value_at : Place → Bool → Reading → Read
value_at p true r = if p.0.nullable then Ok (value.Null, r) else Err (fault.Unfit p.0.name)
value_at p false r = from_bytes p.0 (value_bytes p.0.kind p.1 r)

abbrev pub with_value : Value → Result (List Value × Reading) RowFault → Result (List Value × Reading) RowFault
with_value v (Ok rest) = Ok (v ∷ rest.0, rest.1)
with_value v (Err e) = Err e

abbrev pub and_rest : Read → (Reading → Result (List Value × Reading) RowFault) → Result (List Value × Reading) RowFault
and_rest (Ok read) rest = with_value read.0 (rest read.1)
and_rest (Err e) rest = Err e

-- the values of the columns from a number on
abbrev pub values_from : List ℕ → ℕ → List Place → Reading → Result (List Value × Reading) RowFault
values_from nulls number [] r = Ok ([], r)
values_from nulls number (p ∷ ps) r = and_rest (value_at p (is_set nulls number) r) (λ after. values_from nulls (number + 1) ps after)

-- the first column whose type isn't that of its kind
abbrev pub differing : List Place → Option Place
differing places = find (λ p. not (goes_with p.0.kind p.1)) places

abbrev pub values_behind : List Place → Option (List ℕ × Reading) → Result (List Value × Reading) RowFault
values_behind places None = Err fault.Short
values_behind places (Some nulls) = values_from nulls.0 0 places nulls.1

abbrev pub typed_row : List Place → Option Place → List ℕ → Result (List Value × Reading) RowFault
typed_row places (Some p) bytes = Err (fault.TypeDiffers p.0.name)
typed_row places None bytes = values_behind places (piece (bitmap_length (length places)) (record { bytes = bytes; place = 0 }))

abbrev pub taken : Result (List Value × Reading) RowFault → Result (List Value × ℕ) RowFault
taken (Ok read) = Ok (read.0, read.1.place)
taken (Err e) = Err e

-- The row that bytes begin with, in the schema's order of columns, and how many bytes it takes; or the first fault.
unfoldable pub row_of : List ColumnMap → Layout → List ℕ → Result (List Value × ℕ) RowFault
row_of maps layout bytes =
    if not (length maps == length layout.columns) then Err fault.Count
    else taken (typed_row (zip layout.columns maps) (differing (zip layout.columns maps)) bytes)

-- what a call answered that reads so: the value, and the place behind it; or its fault, unless memory lacks
abbrev pub Decodes : {A : Type 0} → Result (A × Reading) RowFault → Result A RowFault → Reading → Type 0
Decodes expected (Ok x) after = expected ≡ Ok (x, after)
Decodes expected (Err e) after = MatchBool (is_memory e) ⊤ (expected ≡ Err e)
