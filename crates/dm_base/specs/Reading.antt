-- Reading numbers and pieces off the front of bytes.
use Rattle.std.specs.Prelude.{◌≡◌, ℕ, ◌+◌, ◌*◌, nat_le, nat_lt, ◌==◌, List, [], ◌∷◌, take, drop, length, fold, Option, Some, None, if◌then◌else◌}

-- bytes, and how many of them were read
pub record Reading : Type 0 where
  pub bytes : List ℕ
  pub place : ℕ

abbrev pub left_of : Reading → List ℕ
left_of r = drop r.place r.bytes

-- what reads a value, and how far it comes; nothing where the bytes have no such value
abbrev pub Reader : Type 0 → Type 0
Reader A = Reading → Option (A × Reading)

-- a value that comes of itself
abbrev pub just : {A : Type 0} → A → Reader A
just x r = Some (x, r)

abbrev pub failing : {A : Type 0} → Reader A
failing r = None

abbrev pub and_then : {A B : Type 0} → Option (A × Reading) → (A → Reader B) → Option (B × Reading)
and_then None next = None
and_then (Some read) next = next read.0 read.1

infixl 10 ◌>>=◌
abbrev pub ◌>>=◌ : {A B : Type 0} → Reader A → (A → Reader B) → Reader B
(reader >>= next) r = and_then (reader r) next

-- the next bytes, if there are so many
abbrev pub piece : ℕ → Reader (List ℕ)
piece count r =
    if nat_le (r.place + count) (length r.bytes) then Some (take count (left_of r), record { bytes = r.bytes; place = r.place + count })
    else None

-- a number whose lowest byte comes first
abbrev pub le_value : List ℕ → ℕ
le_value [] = 0
le_value (b ∷ bs) = b + 256 * le_value bs

-- a number whose highest byte comes first
abbrev pub be_value : List ℕ → ℕ
be_value bytes = fold (λ n b. 256 * n + b) 0 bytes

abbrev pub le : ℕ → Reader ℕ
le width = piece width >>= λ bytes. just (le_value bytes)

abbrev pub be : ℕ → Reader ℕ
be width = piece width >>= λ bytes. just (be_value bytes)

-- A length-encoded number: a first byte below 251 is the number, and behind 252, 253 and 254 come 2, 3 and 8 bytes of
-- it. 251 and 255 begin none.
abbrev pub lenenc : Reader ℕ
lenenc =
    le 1 >>= λ first.
    if nat_lt first 251 then just first
    else if first == 252 then le 2
    else if first == 253 then le 3
    else if first == 254 then le 8
    else failing

-- what a call answered that reads so: the value, and the place behind it; or nothing, and the place is unchanged
abbrev pub Reads : {A : Type 0} → Reader A → Reading → Option A → Reading → Type 0
Reads reader before None after = (reader before ≡ None) × (after ≡ before)
Reads reader before (Some x) after = reader before ≡ Some (x, after)

-- the same where nothing is said of the place behind nothing
abbrev pub Gives : {A : Type 0} → Reader A → Reading → Option A → Reading → Type 0
Gives reader before None after = reader before ≡ None
Gives reader before (Some x) after = reader before ≡ Some (x, after)
