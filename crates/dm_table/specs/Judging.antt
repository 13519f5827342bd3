-- The parts of an operation's and of an alteration's refusals, each over a list in its order.
use Rattle.std.specs.Prelude.{Bool, true, false, not, ◌&&◌, List, [], ◌∷◌, map, Result, is_none}
use Rattle.dm_schema.specs.declared.column.Column.{Column}
use Rattle.dm_schema.specs.declared.column.UniqueKey.{UniqueKey}
use Rattle.dm_schema.specs.Layout.{Layout}
use Rattle.dm_schema.specs.Names.{Text, has_column}
use Rattle.dm_schema.specs.Keys.{key_number}
use Rattle.dm_table.specs.declared.op.RowOp.{RowOp}
use Rattle.dm_table.specs.declared.fault.TableFault.{TableFault}
use Rattle.dm_table.specs.declared.fault.TableFault.TheVariants as fault
use Rattle.dm_table.specs.Contents.{Row, RowMap}
use Rattle.std.specs.Option.{option_map_or}
use Rattle.dm_list.specs.Answer.{first_refusal, unless_refused}
use Rattle.dm_table.specs.Alterations.{alter_refusals, reshaped, is_unfit_column, is_shared}
use Rattle.dm_table.specs.Operations.{is_unfit, needs_row, needs_room, old_row, is_other, is_primary_taken, is_unique_taken}
use Rattle.dm_table.specs.Indexing.{told_place}

-- memory is wanting
abbrev pub is_memory : TableFault → Bool
is_memory fault.NoTable = false
is_memory fault.TableExists = false
is_memory fault.PrimaryDiffers = false
is_memory (fault.UnknownColumn column) = false
is_memory (fault.Unfit column) = false
is_memory fault.Missing = false
is_memory (fault.Duplicate key) = false
is_memory fault.Memory = true

abbrev pub unknown_refusals : List Column → List Text → List (Bool × TableFault)
unknown_refusals columns names = map (λ name. (not (has_column columns name), fault.UnknownColumn name)) names

abbrev pub unfit_refusals : Layout → RowOp → List Column → List (Bool × TableFault)
unfit_refusals layout o columns = map (λ c. (is_unfit layout o c, fault.Unfit c.name)) columns

abbrev pub missing_refusals : RowOp → RowMap → List (Bool × TableFault)
missing_refusals o rows = (needs_row o && is_none (old_row o rows), fault.Missing) ∷ []

-- of an operation that leaves this row
abbrev pub primary_refusals : Layout → RowOp → RowMap → Row → List (Bool × TableFault)
primary_refusals layout o rows row = (needs_room o && is_primary_taken layout o rows row, fault.Duplicate 0) ∷ []

abbrev pub unique_refusals : Layout → RowOp → RowMap → Row → List UniqueKey → List (Bool × TableFault)
unique_refusals layout o rows row keys = map (λ key. (needs_room o && is_unique_taken layout o rows row key, fault.Duplicate (key_number layout.uniques key))) keys

-- the same as an index tells it
abbrev pub is_told_taken : Layout → RowOp → RowMap → RowMap → Row → UniqueKey → Bool
is_told_taken layout o rows index row key = option_map_or (is_other o) (told_place key layout.columns rows index row) false

abbrev pub told_refusals : Layout → RowOp → RowMap → RowMap → Row → List UniqueKey → List (Bool × TableFault)
told_refusals layout o rows index row keys = map (λ key. (needs_room o && is_told_taken layout o rows index row key, fault.Duplicate (key_number layout.uniques key))) keys

abbrev pub unfit_column_refusals : List Column → RowMap → List Column → List (Bool × TableFault)
unfit_column_refusals before rows columns = map (λ c. (is_unfit_column before rows c, fault.Unfit c.name)) columns

abbrev pub shared_refusals : Layout → RowMap → List UniqueKey → List (Bool × TableFault)
shared_refusals after rows keys = map (λ key. (is_shared key after.columns rows, fault.Duplicate (key_number after.uniques key))) keys

-- the rows of an altered table, or the first refusal
abbrev pub altered_rows : Layout → RowMap → Layout → Result RowMap TableFault
altered_rows before rows after = unless_refused (first_refusal (alter_refusals (record { layout = before; rows = rows }) after)) (reshaped before.columns after.columns rows)
