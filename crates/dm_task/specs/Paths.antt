-- Paths into a task file.
use Rattle.std.specs.Prelude.{ℕ, List, [], ◌∷◌, ◌++◌}
use Rattle.std.specs.Fmt.{decimal}

-- bytes of a text
abbrev pub Text : Type 0
Text = List ℕ

-- the keys and the places, from the outermost in; the file itself has the empty path
abbrev pub Path : Type 0
Path = List ℕ

-- a key of the table at a path
abbrev pub below : Path → Text → Path
below [] key = key
below (b ∷ bs) key = (b ∷ bs) ++ 46 ∷ key

-- an element of the array at a path, counted from 0
abbrev pub element : Path → ℕ → Path
element path place = path ++ 91 ∷ (decimal place ++ 93 ∷ [])
