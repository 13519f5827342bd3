-- The values of literals, by the kind of the column that they stand for, after MySQL's manual, "Literal Values".
use Rattle.std.specs.Prelude.{ℕ, ℤ, pos, neg_ℤ, ◌+◌, ◌-◌, ◌*◌, ◌%◌, nat_lt, nat_le, nat_eq, Bool, true, false, not, ◌&&◌, ◌==◌, List, [], ◌∷◌, ◌++◌, map, length, take, drop, replicate, codes, Option, Some, None, option_and_then, if◌then◌else◌}
use Rattle.std.specs.Option.{option_map}
use Rattle.std.specs.List.{list_all, suffix_len}
use Rattle.std.specs.Cmp.Lexicographic.{pointwise}
use Rattle.dm_value.specs.declared.value.Value.{Value}
use Rattle.dm_value.specs.declared.value.Value.TheVariants as value
use Rattle.dm_value.specs.declared.value.Dec.{Dec}
use Rattle.dm_schema.specs.declared.column.Kind.{Kind}
use Rattle.dm_schema.specs.declared.column.Kind.TheVariants as kind
use Rattle.dm_schema.specs.Kinds.{is_between}
use Rattle.dm_schema.specs.Fits.{fits_kind}
use Rattle.dm_time.specs.Texts.{number_of, day_of, moment_of, stamp_of}
use Rattle.dm_lex.specs.declared.token.TokenKind.{TokenKind}
use Rattle.dm_lex.specs.declared.token.TokenKind.TheVariants as token
use Rattle.dm_lex.specs.Lexemes.{is_digit, is_hex_digit, digits_length, starts}

-- Words.

-- an ASCII letter without its case
abbrev pub lower : ℕ → ℕ
lower b = if is_between 65 90 b then b + 32 else b

-- a word, whose letters' case doesn't count
abbrev pub is_word : List ℕ → List ℕ → Bool
is_word word bytes = pointwise nat_eq (map lower bytes) word

-- Strings.

-- What a backslash and a byte stand for: MySQL's escapes. `\%` and `\_` stay two characters, and any other byte stands
-- for itself.
abbrev pub unescaped : ℕ → List ℕ
unescaped b =
    if b == 48 then 0 ∷ []
    else if b == 98 then 8 ∷ []
    else if b == 110 then 10 ∷ []
    else if b == 114 then 13 ∷ []
    else if b == 116 then 9 ∷ []
    else if b == 90 then 26 ∷ []
    else if b == 37 then 92 ∷ 37 ∷ []
    else if b == 95 then 92 ∷ 95 ∷ []
    else b ∷ []

-- what stands behind an opening quote, up to the closing one: two quotes stand for one
abbrev pub unquoted : ℕ → List ℕ → List ℕ
unquoted quote [] = []
unquoted quote (b ∷ []) = []
unquoted quote (b ∷ c ∷ bs) =
    if b == 92 then unescaped c ++ unquoted quote bs
    else if b == quote then b ∷ unquoted quote bs
    else b ∷ unquoted quote (c ∷ bs)

abbrev pub string_of : List ℕ → List ℕ
string_of [] = []
string_of (quote ∷ bs) = unquoted quote bs

-- Hexadecimal literals.

abbrev pub hex_digit : ℕ → ℕ
hex_digit b = if is_digit b then b - 48 else lower b - 87

-- a byte for each pair of digits
abbrev pub hex_pairs : List ℕ → List ℕ
hex_pairs [] = []
hex_pairs (high ∷ []) = []
hex_pairs (high ∷ low ∷ digits) = (16 * hex_digit high + hex_digit low) ∷ hex_pairs digits

-- behind `0x`, or between the quotes behind `x`
abbrev pub hex_digits : List ℕ → List ℕ
hex_digits bytes = if starts 48 bytes then drop 2 bytes else take (length bytes - 3) (drop 2 bytes)

-- an odd count has a zero before it
abbrev pub hex_of : List ℕ → List ℕ
hex_of bytes = by (hex_digits bytes) where
  by : List ℕ → List ℕ
  by digits = if length digits % 2 == 0 then hex_pairs digits else hex_pairs (48 ∷ digits)

-- Numbers.

abbrev pub with_sign : Bool → ℕ → ℤ
with_sign true n = neg_ℤ (pos n)
with_sign false n = pos n

-- digits alone, one at least
abbrev pub integer_of : Bool → List ℕ → Option ℤ
integer_of minus digits = if not (length digits == 0) && list_all is_digit digits then Some (with_sign minus (number_of digits)) else None

-- the digits behind a number's point, without the zeros at their end
abbrev pub fraction_of : List ℕ → List ℕ
fraction_of bytes = by (drop (digits_length bytes + 1) bytes) where
  by : List ℕ → List ℕ
  by digits = take (length digits - suffix_len (λ b. b == 48) digits) digits

-- digits, and perhaps a point with further digits; one digit at least
abbrev pub is_decimal : List ℕ → Bool
is_decimal bytes = by (drop (digits_length bytes) bytes) where
  by : List ℕ → Bool
  by [] = not (length bytes == 0)
  by (point ∷ digits) = point == 46 && list_all is_digit digits && nat_lt 1 (length bytes)

-- a number with so many digits behind the point, filled up by zeros
abbrev pub decimal_of : ℕ → Bool → List ℕ → Option Dec
decimal_of scale minus bytes =
    if is_decimal bytes && nat_le (length (fraction_of bytes)) scale
    then Some (record { digits = with_sign minus (number_of (take (digits_length bytes) bytes ++ fraction_of bytes ++ replicate (scale - length (fraction_of bytes)) 48)); scale = scale })
    else None

-- a string of a number may have a minus
abbrev pub signed : {A : Type 0} → (Bool → List ℕ → Option A) → List ℕ → Option A
signed read text = if starts 45 text then read true (drop 1 text) else read false text

-- The families.

abbrev pub without_blanks_at_end : List ℕ → List ℕ
without_blanks_at_end bytes = take (length bytes - suffix_len (λ b. b == 32) bytes) bytes

abbrev pub padded : ℕ → List ℕ → List ℕ
padded size bytes = bytes ++ replicate (size - length bytes) 0

-- bytes as a value of a text kind or of a binary kind
abbrev pub value_of_bytes : Kind → List ℕ → Option Value
value_of_bytes (kind.Char most) bytes = Some (value.Bytes (without_blanks_at_end bytes))
value_of_bytes (kind.Varchar most) bytes = Some (value.Bytes bytes)
value_of_bytes (kind.Text prefix) bytes = Some (value.Bytes bytes)
value_of_bytes (kind.Binary size) bytes = Some (value.Bytes (padded size bytes))
value_of_bytes (kind.Varbinary most) bytes = Some (value.Bytes bytes)
value_of_bytes (kind.Blob prefix) bytes = Some (value.Bytes bytes)
value_of_bytes _ bytes = None

-- a number as a value of a kind of numbers
abbrev pub value_of_number : Kind → Bool → List ℕ → Option Value
value_of_number (kind.Signed size) minus bytes = option_map value.Int (integer_of minus bytes)
value_of_number (kind.Unsigned size) minus bytes = option_map value.Int (integer_of minus bytes)
value_of_number kind.Year minus bytes = option_map value.Int (integer_of minus bytes)
value_of_number (kind.Decimal precision scale) minus bytes = option_map value.Dec (decimal_of scale minus bytes)
value_of_number _ minus bytes = None

-- a string: of a number, of a time, or of bytes
abbrev pub value_of_string : Kind → List ℕ → Option Value
value_of_string (kind.Signed size) text = signed (value_of_number (kind.Signed size)) text
value_of_string (kind.Unsigned size) text = signed (value_of_number (kind.Unsigned size)) text
value_of_string kind.Year text = signed (value_of_number kind.Year) text
value_of_string (kind.Decimal precision scale) text = signed (value_of_number (kind.Decimal precision scale)) text
value_of_string kind.Date text = option_map value.Date (day_of text)
value_of_string (kind.Datetime digits) text = option_map value.Moment (moment_of digits text)
value_of_string (kind.Timestamp digits) text = option_map value.Stamp (stamp_of digits text)
value_of_string k text = value_of_bytes k text

-- TRUE and FALSE are numbers of an integer kind
abbrev pub value_of_truth : Kind → ℕ → Option Value
value_of_truth (kind.Signed size) n = Some (value.Int (pos n))
value_of_truth (kind.Unsigned size) n = Some (value.Int (pos n))
value_of_truth kind.Year n = Some (value.Int (pos n))
value_of_truth _ n = None

-- a value that is one of the kind
abbrev pub fitting : Kind → Option Value → Option Value
fitting k o = option_and_then (λ v. if fits_kind k v then Some v else None) o

abbrev pub value_of_word : Kind → List ℕ → Option Value
value_of_word k bytes =
    if is_word (codes "null") bytes then Some value.Null
    else if is_word (codes "true") bytes then fitting k (value_of_truth k 1)
    else if is_word (codes "false") bytes then fitting k (value_of_truth k 0)
    else None

-- The value of a token; NULL is one of each kind. A minus stands before numbers alone.
abbrev pub literal_of : Kind → Bool → TokenKind → List ℕ → Option Value
literal_of k minus token.Number bytes = fitting k (value_of_number k minus bytes)
literal_of k false token.Word bytes = value_of_word k bytes
literal_of k false token.Text bytes = fitting k (value_of_string k (string_of bytes))
literal_of k false token.Hex bytes = if list_all is_hex_digit (hex_digits bytes) then fitting k (value_of_bytes k (hex_of bytes)) else None
literal_of k _ _ bytes = None
