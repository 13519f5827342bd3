-- DECIMAL in MySQL's binary form: groups of nine digits in four bytes, with smaller groups at both ends.
use Rattle.std.specs.Prelude.{ℕ, ℤ, pos, neg_ℤ, ◌+◌, ◌-◌, ◌*◌, ◌/◌, ◌%◌, ◌^◌, nat_lt, Bool, true, false, ◌==◌, List, [], ◌∷◌, ◌++◌, map, sum, take, drop, replicate, Option, Some, None, slice_index_or, if◌then◌else◌}
use Rattle.std.specs.Option.{option_map}
use Rattle.dm_value.specs.declared.value.Dec.{Dec}
use Rattle.dm_base.specs.Reading.{be_value}

-- the bytes of a group of so many digits, up to nine
abbrev pub group_width : ℕ → ℕ
group_width digits = slice_index_or (0 ∷ 1 ∷ 1 ∷ 2 ∷ 2 ∷ 3 ∷ 3 ∷ 4 ∷ 4 ∷ 4 ∷ []) digits 0

-- a group, if it has digits
abbrev pub some_group : ℕ → List ℕ
some_group digits = if digits == 0 then [] else digits ∷ []

-- The digits of the groups of so many digits before the point and behind it: before the point the small group comes
-- first, behind it last.
abbrev pub groups : ℕ → ℕ → List ℕ
groups whole fraction = some_group (whole % 9) ++ replicate (whole / 9) 9 ++ replicate (fraction / 9) 9 ++ some_group (fraction % 9)

abbrev pub groups_width : List ℕ → ℕ
groups_width gs = sum (map group_width gs)

abbrev pub decimal_width : ℕ → ℕ → ℕ
decimal_width precision scale = groups_width (groups (precision - scale) scale)

-- the number of the groups' digits behind those before; none where a group has too great a number
abbrev pub digits_in : List ℕ → ℕ → List ℕ → Option ℕ
digits_in [] before bytes = Some before
digits_in (g ∷ gs) before bytes =
    if nat_lt (be_value (take (group_width g) bytes)) (10 ^ g)
    then digits_in gs (before * 10 ^ g + be_value (take (group_width g) bytes)) (drop (group_width g) bytes)
    else None

abbrev pub is_negative : List ℕ → Bool
is_negative [] = false
is_negative (b ∷ bs) = nat_lt b 128

-- of a negative number all bits are inverted
abbrev pub upright_byte : Bool → ℕ → ℕ
upright_byte true b = 255 - b
upright_byte false b = b

abbrev pub upright : List ℕ → List ℕ
upright bytes = map (upright_byte (is_negative bytes)) bytes

-- the highest bit is the sign's
abbrev pub without_sign : List ℕ → List ℕ
without_sign [] = []
without_sign (b ∷ bs) = (b - 128) ∷ bs

abbrev pub signed_by : Bool → ℕ → ℤ
signed_by true n = neg_ℤ (pos n)
signed_by false n = pos n

abbrev pub decimal_of : ℕ → ℕ → List ℕ → Option Dec
decimal_of precision scale bytes =
    option_map (λ n. record { digits = signed_by (is_negative bytes) n; scale = scale }) (digits_in (groups (precision - scale) scale) 0 (without_sign (upright bytes)))
