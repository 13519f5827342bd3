-- What `load` prints of dumps: the join of their schemas, and the rows of all of them by primary key, a column that a
-- dump lacks filled.
use Rattle.std.specs.Prelude.{◌≡◌, ℕ, ◌+◌, ◌*◌, nat_lt, Bool, true, false, ◌||◌, List, [], ◌∷◌, length, map, fold, codes, Option, Some, None, Result, Ok, Err, if◌then◌else◌}
use Rattle.std.specs.List.{list_any, filter_map}
use Rattle.std.specs.Ordering.{eq_by_cmp}
use Rattle.std.specs.FinMap as fin
use Rattle.std.specs.FinMap.{FinMap}
use Rattle.dm_list.specs.Answer.{first_refusal}
use Rattle.dm_value.specs.declared.value.Value.{Value}
use Rattle.dm_value.specs.declared.value.Value.TheVariants as value
use Rattle.dm_value.specs.Order.{row_cmp}
use Rattle.dm_schema.specs.declared.column.UniqueKey.{UniqueKey}
use Rattle.dm_schema.specs.declared.table_name.TableName.{TableName}
use Rattle.dm_schema.specs.Layout.{Layout}
use Rattle.dm_schema.specs.Names.{Text, repeats}
use Rattle.dm_schema.specs.Rows.{values_at}
use Rattle.dm_join.specs.declared.no_join.NoJoin.{NoJoin}
use Rattle.dm_join.specs.declared.no_join.NoJoin.TheVariants as no_join
use Rattle.dm_join.specs.Join.{join}
use Rattle.dm_dump.specs.declared.dump.Dump.{Dump}
use Rattle.dm_dump.specs.declared.fault.DumpFault.{DumpFault}
use Rattle.dm_dump.specs.declared.fault.DumpFault.TheVariants as fault
use Rattle.dm_dump.specs.Dumps.{IsDump}
use Rattle.dm_report.specs.declared.status.Status.{Status}
use Rattle.dm_report.specs.declared.status.Status.TheVariants as status
use Rattle.dm_report.specs.declared.status.Which.{Which}
use Rattle.dm_report.specs.declared.status.Which.TheVariants as which
use Rattle.dm_report.specs.Texts.{table_text}
use Rattle.dm_top.specs.Reading.{Named}
use Rattle.dm_top.specs.Rows.{Said, Row, Entry, all_entries}

-- Dumps.

-- how it ends at a dump's first fault
abbrev pub bad_dump : Text → DumpFault → Status
bad_dump name (fault.At at cause) = status.Dump name at cause
bad_dump name fault.Memory = status.Memory

abbrev pub with_dump : Said → Result (List Said) Status → Result (List Said) Status
with_dump said (Ok others) = Ok (said ∷ others)
with_dump said (Err s) = Err s

-- A file that is a dump, behind which others come; or how it ends at its first fault.
abbrev pub GoesOn : (Result (List Said) Status → Type 0) → Named → Result Dump DumpFault → Result (List Said) Status → Type 0
GoesOn Others file (Err f) outcome = outcome ≡ Err (bad_dump file.0 f)
GoesOn Others file (Ok dump) outcome = (others : Result (List Said) Status) × Others others × (outcome ≡ with_dump (record { text = file.1; dump = dump }) others)

-- What these files say, each of which is a dump; or how it ends at the first that is none.
abbrev pub ReadsDumps : List Named → Result (List Said) Status → Type 0
ReadsDumps [] outcome = outcome ≡ Ok []
ReadsDumps (file ∷ files) outcome = (read : Result Dump DumpFault) × IsDump file.1 read × GoesOn (ReadsDumps files) file read outcome

-- Limits.

-- how many rows all dumps have together at most
abbrev pub most_items : ℕ
most_items = 4000000

-- how many values all rows have together at most
abbrev pub most_values : ℕ
most_values = 64000000

-- how many rows the dumps have
abbrev pub items_of : List Said → ℕ
items_of [] = 0
items_of (said ∷ rest) = length said.dump.inserts.places + items_of rest

-- how many values their rows have
abbrev pub values_of : List Said → ℕ
values_of [] = 0
values_of (said ∷ rest) = length said.dump.inserts.places * length said.dump.schema.columns + values_of rest

-- Keys.

abbrev pub same_row : Row → Row → Bool
same_row = eq_by_cmp row_cmp

abbrev pub keys_of : List Entry → List Row
keys_of entries = map (λ e. e.0) entries

abbrev pub is_null : Value → Bool
is_null value.Null = true
is_null v = false

-- a row's values under a unique key; none where a NULL is among them, since such values are equal to none
abbrev pub unique_values : Layout → UniqueKey → Row → Option Row
unique_values joined key row = if list_any is_null (values_at joined.columns row key.columns) then None else Some (values_at joined.columns row key.columns)

abbrev pub values_under : Layout → List Row → UniqueKey → List Row
values_under joined rows key = filter_map (unique_values joined key) rows

-- The table.

-- the map from primary key to row
abbrev pub map_of : List Entry → FinMap row_cmp Row
map_of entries = fold (λ m e. fin.insert m e.0 e.1) fin.empty entries

-- the rows by primary key
abbrev pub rows_by_key : List Entry → List Row
rows_by_key entries = fin.values (map_of entries)

-- two rows have the same values under the primary key, or under a unique key
abbrev pub clash : Layout → List Entry → Bool
clash joined entries =
    repeats same_row (keys_of entries) || list_any (λ key. repeats same_row (values_under joined (rows_by_key entries) key)) joined.uniques

-- the text of the table with these entries
abbrev pub merged_text : Layout → List Entry → Text
merged_text joined entries = table_text joined.columns joined.primary joined.uniques (rows_by_key entries) (length (rows_by_key entries))

-- What `load` is called by where no table is named.
abbrev pub load_table : TableName
load_table = record { db = codes "load"; table = codes "load" }

-- the text, or how it ends where rows clash, over the join or the reason that there is none
abbrev pub merged_over : Result Layout NoJoin → List Said → Result Text Status
merged_over (Err (no_join.At column cause)) said = Err (status.First load_table column cause)
merged_over (Err no_join.Memory) said = Err status.Memory
merged_over (Ok joined) said = if clash joined (all_entries joined said) then Err status.Unlawful else Ok (merged_text joined (all_entries joined said))

-- no dump has no table
abbrev pub merged_from : List Said → Result Text Status
merged_from [] = Ok []
merged_from (first ∷ rest) = merged_over (join (map (λ s. s.dump.schema) (first ∷ rest))) (first ∷ rest)

-- The text of dumps, or how it ends: too many rows, too many values, schemas without a join, rows that clash.
abbrev pub merged_of : List Said → Result Text Status
merged_of said = by (first_refusal ((nat_lt most_items (items_of said), which.Items) ∷ (nat_lt most_values (values_of said), which.Values) ∷ [])) where
  by : Option Which → Result Text Status
  by (Some limit) = Err (status.Limit limit)
  by None = merged_from said
