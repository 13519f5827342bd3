-- Names in byte order, each once.
use Rattle.std.specs.Prelude.{List, [], ◌∷◌}
use Rattle.std.specs.declared.cmp.Ordering.{Ordering}
use Rattle.std.specs.declared.cmp.Ordering.TheVariants.{Less, Equal, Greater}
use Rattle.dm_schema.specs.Names.{Text, name_cmp}

-- a name put where it belongs, unless it is there
abbrev pub with_name : Text → List Text → List Text
with_name name [] = name ∷ []
with_name name (n ∷ ns) = by (name_cmp name n) (with_name name ns) where
  by : Ordering → List Text → List Text
  by Less rest = name ∷ n ∷ ns
  by Equal rest = n ∷ ns
  by Greater rest = n ∷ rest

-- the names of a list in byte order, each once
abbrev pub name_set : List Text → List Text
name_set [] = []
name_set (n ∷ ns) = with_name n (name_set ns)
