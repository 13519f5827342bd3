-- Numbers that 128 bits with a sign hold, both ways.
use Rattle.std.specs.Prelude.{ℤ, ◌^◌, nat_lt, unsigned_abs, Bool, Option, Some, None, option_and_then, if◌then◌else◌}
use Rattle.dm_value.specs.declared.value.Dec.{Dec}

abbrev pub is_held : ℤ → Bool
is_held n = nat_lt (unsigned_abs n) (2 ^ 127)

-- the number, if it is held
abbrev pub held : Option ℤ → Option ℤ
held o = option_and_then (λ n. if is_held n then Some n else None) o

-- the decimal, if its digits are held
abbrev pub held_decimal : Option Dec → Option Dec
held_decimal o = option_and_then (λ d. if is_held d.digits then Some d else None) o
