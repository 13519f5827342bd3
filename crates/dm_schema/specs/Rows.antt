-- The values of a row, by the names of columns.
use Rattle.std.specs.Prelude.{ℕ, List, [], ◌∷◌, map, Option, Some, None, unwrap_or}
use Rattle.std.specs.Option.{option_map}
use Rattle.std.specs.List.{find, zip}
use Rattle.dm_value.specs.declared.value.Value.{Value}
use Rattle.dm_value.specs.declared.value.Value.TheVariants as value
use Rattle.dm_schema.specs.declared.column.Column.{Column}
use Rattle.dm_schema.specs.Names.{Text, same_name}
use Rattle.dm_schema.specs.Layout.{Layout}

-- the value of a row in the column of a name
abbrev pub cell : List Column → List Value → Text → Option Value
cell columns row name = option_map (λ p. p.1) (find (λ p. same_name p.0.name name) (zip columns row))

-- the values of a row in the columns of these names; NULL where there is none
abbrev pub values_at : List Column → List Value → List Text → List Value
values_at columns row names = map (λ n. unwrap_or (cell columns row n) value.Null) names

-- the values of a row under the primary key
abbrev pub key_of : Layout → List Value → List Value
key_of layout row = values_at layout.columns row layout.primary
