-- Places in a task file, as the code hands them down.
use Rattle.dm_task.specs.declared.place.Place.{Place}
use Rattle.dm_task.specs.declared.place.Place.TheVariants as place
use Rattle.std.specs.Prelude.{List, [], ◌∷◌}
use Rattle.std.specs.Borrow.{Bor}
use Rattle.dm_task.specs.Paths.{Text, Path, below, element}

-- the path of a place
abbrev pub path_of : Place → Path
path_of (place.Key table key) = below table.now key.now
path_of (place.Element array number) = element array.now number

-- texts that are lent
abbrev pub texts : List (Bor Text) → List Text
texts [] = []
texts (text ∷ rest) = text.now ∷ texts rest
