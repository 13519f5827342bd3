-- How a schema is made of its parts.
use Rattle.dm_schema.specs.Layout.{Layout}
use Rattle.dm_schema.specs.Effect.{Making}
use Rattle.dm_schema.specs.Schemas.{schema_of, joined_schema_of}
use Rattle.dm_alter.specs.declared.changed.Bound.{Bound}
use Rattle.dm_alter.specs.declared.changed.Bound.TheVariants as bound
use Rattle.dm_alter.specs.declared.changed.Parts.{Parts}

abbrev pub making_of : Bound → Making
making_of bound.Read = schema_of
making_of bound.Joined = joined_schema_of

abbrev pub layout_of : Parts → Layout
layout_of parts = record { columns = parts.columns.items; primary = parts.primary; uniques = parts.uniques.items }
