-- What a header looks like, byte by byte.
use Rattle.std.specs.Prelude.{ℕ, Bool, ◌==◌, List, take, drop, codes, if◌then◌else◌}
use Rattle.std.specs.List.{list_all, zip}
use Rattle.dm_schema.specs.Kinds.{is_between}

-- a header, in which each 0 stands for a digit
abbrev pub header_shape : List ℕ
header_shape = codes "-- dm 0000000000\n"

abbrev pub stands_for : ℕ → ℕ → Bool
stands_for sign byte = if sign == 48 then is_between 48 57 byte else byte == sign

-- as far as shape and bytes both go, each byte is one that the sign at its place stands for
abbrev pub begins_as : List ℕ → List ℕ → Bool
begins_as shape bytes = list_all (λ p. stands_for p.0 p.1) (zip shape bytes)

-- the digits of the header that bytes begin with
abbrev pub length_digits : List ℕ → List ℕ
length_digits bytes = take 10 (drop 6 bytes)
