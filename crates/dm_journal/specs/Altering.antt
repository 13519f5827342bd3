-- Which changes of a record a schema can be changed by.
use Rattle.std.specs.Prelude.{Bool, true}
use Rattle.std.specs.List.{list_all}
use Rattle.dm_schema.specs.declared.change.Change.{Change}
use Rattle.dm_schema.specs.declared.change.Change.TheVariants as change
use Rattle.dm_schema.specs.Kinds.{is_folded}

-- a key that the change adds has columns without capital letters alone, as columns of a schema are named
abbrev pub names_folded : Change → Bool
names_folded (change.AddUnique key named) = list_all is_folded key.columns
names_folded _ = true
