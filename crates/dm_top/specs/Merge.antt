-- The rows of dumps as one list, and such a list in the order of values. `Load` says what comes of it.
use Rattle.std.specs.Prelude.{◌≡◌, Bool, true, not, List, map, filter, Option, Some, None, if◌then◌else◌}
use Rattle.std.specs.List.{flat_map, list_any}
use Rattle.std.specs.List.Sorted.{IsPermutation, IsStrictlySortedBy}
use Rattle.std.specs.Option.{option_map}
use Rattle.dm_value.specs.Order.{row_cmp}
use Rattle.dm_schema.specs.Layout.{Layout}
use Rattle.dm_schema.specs.Names.{repeats}
use Rattle.dm_schema.specs.Rows.{key_of}
use Rattle.dm_top.specs.declared.places.Origin.{Origin}
use Rattle.dm_top.specs.declared.rows.Orders.{Orders}
use Rattle.dm_top.specs.Rows.{Row, Entry, Said, rows_in, widened}
use Rattle.dm_top.specs.Rows as rows
use Rattle.dm_top.specs.Load.{same_row, is_null, rows_by_key}
use Rattle.dm_top.specs.Places.{value_from, values_from}

-- orders of columns that are lent
abbrev pub orders_seen : Orders → rows.Orders
orders_seen o = record { now = option_map (λ names. names.now) o.now; coming = o.coming.now }

-- a dump's rows over the join
abbrev pub wide_rows : Layout → Said → List Row
wide_rows joined said = map (widened joined.columns said.dump.schema.columns) (rows_in said)

abbrev pub all_rows : Layout → List Said → List Row
all_rows joined said = flat_map (wide_rows joined) said

abbrev pub under_key : Layout → Row → Entry
under_key joined row = (key_of joined row, row)

-- The rows in the order of their values at some places, each value before the next; none where two rows have the same.
abbrev pub AreInOrder : List Origin → List Row → Option (List Row) → Type 0
AreInOrder origins rows None = repeats same_row (map (values_from origins) rows) ≡ true
AreInOrder origins rows (Some sorted) = IsPermutation rows sorted × IsStrictlySortedBy row_cmp (map (values_from origins) sorted)

-- the rows by primary key; none where two have one key
abbrev pub by_primary_key : Layout → List Row → Option (List Row)
by_primary_key joined rows = if repeats same_row (map (key_of joined) rows) then None else Some (rows_by_key (map (under_key joined) rows))

-- whether a row has a NULL at some of these places
abbrev pub has_null : List Origin → Row → Bool
has_null origins row = list_any (λ o. is_null (value_from row o)) origins

abbrev pub without_null : List Origin → List Row → List Row
without_null origins rows = filter (λ row. not (has_null origins row)) rows
