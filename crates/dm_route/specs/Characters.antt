-- The characters of UTF-8.
use Rattle.std.specs.Prelude.{ℕ, Bool, true, false, ◌&&◌, nat_le, List, [], ◌∷◌, length, if◌then◌else◌}

-- the bytes that may stand behind the first of a character
abbrev pub following : ℕ × ℕ
following = (0x80, 0xBF)

-- the characters, by the least and the greatest that each byte may be (the Unicode Standard, table 3-7)
abbrev pub characters : List (List (ℕ × ℕ))
characters =
    ((0x00, 0x7F) ∷ [])
    ∷ ((0xC2, 0xDF) ∷ following ∷ [])
    ∷ ((0xE0, 0xE0) ∷ (0xA0, 0xBF) ∷ following ∷ [])
    ∷ ((0xE1, 0xEC) ∷ following ∷ following ∷ [])
    ∷ ((0xED, 0xED) ∷ (0x80, 0x9F) ∷ following ∷ [])
    ∷ ((0xEE, 0xEF) ∷ following ∷ following ∷ [])
    ∷ ((0xF0, 0xF0) ∷ (0x90, 0xBF) ∷ following ∷ following ∷ [])
    ∷ ((0xF1, 0xF3) ∷ following ∷ following ∷ following ∷ [])
    ∷ ((0xF4, 0xF4) ∷ (0x80, 0x8F) ∷ following ∷ following ∷ [])
    ∷ []

-- whether the bytes at the front lie between these
unfoldable pub lies_in : List ℕ → List (ℕ × ℕ) → Bool
lies_in name [] = true
lies_in [] (bounds ∷ others) = false
lies_in (b ∷ bs) (bounds ∷ others) = nat_le bounds.0 b && nat_le b bounds.1 && lies_in bs others

-- how many bytes the first of these characters has that stands at the front; 0 where none does
abbrev pub length_among : List (List (ℕ × ℕ)) → List ℕ → ℕ
length_among [] name = 0
length_among (bounds ∷ others) name = if lies_in name bounds then length bounds else length_among others name

-- how many bytes the character at the front has; 0 where there is none
unfoldable pub character_length : List ℕ → ℕ
character_length name = length_among characters name
