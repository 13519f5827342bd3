-- Where a row's values stand, by place in place of name.
use Rattle.std.specs.Prelude.{List, map, unwrap_or, option_and_then, slice_get}
use Rattle.std.specs.List.{position}
use Rattle.dm_value.specs.declared.value.Value.{Value}
use Rattle.dm_value.specs.declared.value.Value.TheVariants as value
use Rattle.dm_schema.specs.declared.column.Column.{Column}
use Rattle.dm_schema.specs.Fill.{fill}
use Rattle.dm_schema.specs.Names.{Text, same_name}
use Rattle.dm_top.specs.declared.places.Origin.{Origin}
use Rattle.dm_top.specs.Rows.{Row}

-- the value that stands there, or the one for rows that have none
abbrev pub value_from : Row → Origin → Value
value_from row o = unwrap_or (option_and_then (slice_get row) o.place) o.otherwise

abbrev pub values_from : List Origin → Row → Row
values_from origins row = map (value_from row) origins

abbrev pub origin_of : List Column → Text → Value → Origin
origin_of columns name otherwise = record { place = position (λ c. same_name c.name name) columns; otherwise = otherwise }

-- of the columns of these names; NULL where there is none
abbrev pub key_origins : List Column → List Text → List Origin
key_origins columns names = map (λ name. origin_of columns name value.Null) names

-- a column's fill, or NULL
abbrev pub filled : Column → Value
filled column = unwrap_or (fill column) value.Null

-- of the join's columns, in a row of these; the fill where there is none
abbrev pub column_origins : List Column → List Column → List Origin
column_origins joined columns = map (λ c. origin_of columns c.name (filled c)) joined
