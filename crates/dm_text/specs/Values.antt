-- Values as SQL literals.
use Rattle.std.specs.Prelude.{ℕ, ℤ, pos, int_lt, unsigned_abs, ◌+◌, ◌/◌, ◌%◌, ◌^◌, nat_lt, Bool, true, false, ◌==◌, List, [], ◌∷◌, ◌++◌, codes, if◌then◌else◌}
use Rattle.std.specs.List.{flat_map}
use Rattle.std.specs.Fmt.{decimal, signed_decimal}
use Rattle.dm_value.specs.declared.value.Dec.{Dec}
use Rattle.dm_value.specs.declared.value.Value.{Value}
use Rattle.dm_value.specs.declared.value.Value.TheVariants as value
use Rattle.dm_schema.specs.declared.column.Kind.{Kind}
use Rattle.dm_schema.specs.declared.column.Column.{Column}
use Rattle.dm_time.specs.Written.{digits_of, day_text, moment_text, stamp_text}
use Rattle.dm_text.specs.Names.{with_commas}
use Rattle.dm_text.specs.Kinds.{fraction_digits, is_binary}

-- `\0 \n \r \Z \' \\`, and every other byte as it is
abbrev pub escaped : ℕ → List ℕ
escaped b =
    if b == 0 then codes "\\0"
    else if b == 10 then codes "\\n"
    else if b == 13 then codes "\\r"
    else if b == 26 then codes "\\Z"
    else if b == 39 then codes "\\'"
    else if b == 92 then codes "\\\\"
    else b ∷ []

-- a text in single quotes
abbrev pub in_quotes : List ℕ → List ℕ
in_quotes text = 39 ∷ text ++ 39 ∷ []

abbrev pub string_text : List ℕ → List ℕ
string_text bytes = in_quotes (flat_map escaped bytes)

-- a digit in base 16, from A on a capital letter
abbrev pub hex_digit : ℕ → ℕ
hex_digit n = if nat_lt n 10 then 48 + n else 55 + n

abbrev pub hex_pair : ℕ → List ℕ
hex_pair b = hex_digit (b / 16) ∷ hex_digit (b % 16) ∷ []

-- bytes in base 16 behind 0x; without any byte an empty string
abbrev pub binary_text : List ℕ → List ℕ
binary_text [] = codes "''"
binary_text (b ∷ bytes) = codes "0x" ++ flat_map hex_pair (b ∷ bytes)

abbrev pub bytes_text : Bool → List ℕ → List ℕ
bytes_text true bytes = binary_text bytes
bytes_text false bytes = string_text bytes

-- the sign of a negative number
abbrev pub sign_text : ℤ → List ℕ
sign_text z = if int_lt z (pos 0) then 45 ∷ [] else []

-- the digits behind the point, with the point, where there are any
abbrev pub places_text : ℕ → ℕ → List ℕ
places_text scale n = if scale == 0 then [] else 46 ∷ digits_of scale n

-- a decimal, with one digit at least before the point
abbrev pub decimal_text : Dec → List ℕ
decimal_text d = sign_text d.digits ++ decimal (unsigned_abs d.digits / 10 ^ d.scale) ++ places_text d.scale (unsigned_abs d.digits)

-- A value of a column of the kind. The kind tells bytes that are a text from others, and how many digits a fraction has.
abbrev pub value_text : Kind → Value → List ℕ
value_text k value.Null = codes "NULL"
value_text k (value.Int n) = signed_decimal n
value_text k (value.Dec d) = decimal_text d
value_text k (value.Bytes bytes) = bytes_text (is_binary k) bytes
value_text k (value.Date d) = in_quotes (day_text d)
value_text k (value.Moment m) = in_quotes (moment_text (fraction_digits k) m)
value_text k (value.Stamp s) = in_quotes (stamp_text (fraction_digits k) s)

-- the texts of a row's values, by the kinds of the columns
abbrev pub value_texts : List Column → List Value → List (List ℕ)
value_texts [] row = []
value_texts (c ∷ cs) [] = []
value_texts (c ∷ cs) (v ∷ vs) = value_text c.kind v ∷ value_texts cs vs

-- (value,value)
abbrev pub tuple_text : List Column → List Value → List ℕ
tuple_text columns row = 40 ∷ with_commas (value_texts columns row) ++ 41 ∷ []
