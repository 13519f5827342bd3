-- The SQL types of kinds.
use Rattle.std.specs.Prelude.{ℕ, Bool, true, false, ◌==◌, List, [], ◌∷◌, ◌++◌, codes, if◌then◌else◌}
use Rattle.std.specs.Fmt.{decimal}
use Rattle.dm_schema.specs.declared.column.Kind.{Kind}
use Rattle.dm_schema.specs.declared.column.Kind.TheVariants as kind

-- MySQL's names of the integer types, by their bytes
abbrev pub integer_text : ℕ → List ℕ
integer_text size =
    if size == 1 then codes "TINYINT"
    else if size == 2 then codes "SMALLINT"
    else if size == 3 then codes "MEDIUMINT"
    else if size == 4 then codes "INT"
    else codes "BIGINT"

-- TINY, MEDIUM and LONG before TEXT and BLOB, by the bytes of the length prefix
abbrev pub prefix_text : ℕ → List ℕ
prefix_text size =
    if size == 1 then codes "TINY"
    else if size == 2 then []
    else if size == 3 then codes "MEDIUM"
    else codes "LONG"

-- a number in brackets
abbrev pub in_brackets : ℕ → List ℕ
in_brackets n = 40 ∷ decimal n ++ 41 ∷ []

-- the number of a fraction's digits in brackets, where there are any
abbrev pub fraction_text : ℕ → List ℕ
fraction_text digits = if digits == 0 then [] else in_brackets digits

abbrev pub kind_text : Kind → List ℕ
kind_text (kind.Signed size) = integer_text size
kind_text (kind.Unsigned size) = integer_text size ++ codes " UNSIGNED"
kind_text (kind.Decimal precision scale) = codes "DECIMAL(" ++ decimal precision ++ 44 ∷ decimal scale ++ 41 ∷ []
kind_text (kind.Char most) = codes "CHAR" ++ in_brackets most
kind_text (kind.Varchar most) = codes "VARCHAR" ++ in_brackets most
kind_text (kind.Text prefix) = prefix_text prefix ++ codes "TEXT"
kind_text (kind.Binary size) = codes "BINARY" ++ in_brackets size
kind_text (kind.Varbinary most) = codes "VARBINARY" ++ in_brackets most
kind_text (kind.Blob prefix) = prefix_text prefix ++ codes "BLOB"
kind_text kind.Date = codes "DATE"
kind_text kind.Year = codes "YEAR"
kind_text (kind.Datetime digits) = codes "DATETIME" ++ fraction_text digits
kind_text (kind.Timestamp digits) = codes "TIMESTAMP" ++ fraction_text digits

-- the digits of a kind's fraction of seconds; none where it has no moments
abbrev pub fraction_digits : Kind → ℕ
fraction_digits (kind.Signed size) = 0
fraction_digits (kind.Unsigned size) = 0
fraction_digits (kind.Decimal precision scale) = 0
fraction_digits (kind.Char most) = 0
fraction_digits (kind.Varchar most) = 0
fraction_digits (kind.Text prefix) = 0
fraction_digits (kind.Binary size) = 0
fraction_digits (kind.Varbinary most) = 0
fraction_digits (kind.Blob prefix) = 0
fraction_digits kind.Date = 0
fraction_digits kind.Year = 0
fraction_digits (kind.Datetime digits) = digits
fraction_digits (kind.Timestamp digits) = digits

-- whether a kind's bytes are no text
abbrev pub is_binary : Kind → Bool
is_binary (kind.Signed size) = false
is_binary (kind.Unsigned size) = false
is_binary (kind.Decimal precision scale) = false
is_binary (kind.Char most) = false
is_binary (kind.Varchar most) = false
is_binary (kind.Text prefix) = false
is_binary (kind.Binary size) = true
is_binary (kind.Varbinary most) = true
is_binary (kind.Blob prefix) = true
is_binary kind.Date = false
is_binary kind.Year = false
is_binary (kind.Datetime digits) = false
is_binary (kind.Timestamp digits) = false
