-- Patterns of names, and which names match them.
use Rattle.std.specs.Prelude.{ℕ, Bool, true, false, ◌&&◌, ◌||◌, ◌==◌, nat_lt, List, [], ◌∷◌, map, drop, if◌then◌else◌}
use Rattle.dm_route.specs.declared.sign.Sign.{Sign}
use Rattle.dm_route.specs.declared.sign.Sign.TheVariants.{Run, Character, Byte}
use Rattle.dm_route.specs.Characters.{character_length}

-- `*` is a run, `?` a character
abbrev pub sign_of : ℕ → Sign
sign_of b = if b == 42 then Run else if b == 63 then Character else Byte b

-- the signs of a pattern's text
abbrev pub signs_of : List ℕ → List Sign
signs_of = map sign_of

-- how many bytes a sign that isn't a run takes at the front; 0 where it takes none
abbrev pub width : Sign → List ℕ → ℕ
width Run name = 0
width Character name = character_length name
width (Byte b) [] = 0
width (Byte b) (first ∷ rest) = if first == b then 1 else 0

-- whether something stands at the front, of so many bytes, and what is behind it passes
abbrev pub passes_behind : ℕ → (List ℕ → Bool) → List ℕ → Bool
passes_behind length passes name = nat_lt 0 length && passes (drop length name)

-- whether what stands at some place of the name passes, from the front to the end
abbrev pub matches_somewhere : (List ℕ → Bool) → List ℕ → Bool
matches_somewhere passes [] = passes []
matches_somewhere passes (b ∷ bs) = passes (b ∷ bs) || matches_somewhere passes bs

abbrev pub is_empty : List ℕ → Bool
is_empty [] = true
is_empty (b ∷ bs) = false

-- whether a name matches a pattern
abbrev pub matches : List Sign → List ℕ → Bool
matches [] name = is_empty name
matches (Run ∷ signs) name = matches_somewhere (matches signs) name
matches (Character ∷ signs) name = passes_behind (width Character name) (matches signs) name
matches (Byte b ∷ signs) name = passes_behind (width (Byte b) name) (matches signs) name
