-- The effect of an ALTER TABLE on a schema: its changes from left to right, up to the first that has a fault.
use Rattle.std.specs.Prelude.{ℕ, ◌+◌, ◌/◌, ◌%◌, nat_lt, Bool, true, false, not, ◌&&◌, ◌||◌, ◌==◌, List, [], ◌∷◌, ◌++◌, map, length, Option, Some, None, is_some, is_none, unwrap_or, option_and_then, Result, Ok, Err, codes, if◌then◌else◌}
use Rattle.std.specs.Option.{option_map, option_map_or}
use Rattle.std.specs.List.{list_any, list_all, find, filter, flat_map, range_with_len}
use Rattle.dm_list.specs.Answer.{first_refusal}
use Rattle.dm_value.specs.declared.value.Value.{Value}
use Rattle.dm_value.specs.declared.value.Value.TheVariants as value
use Rattle.dm_schema.specs.declared.column.Kind.{Kind}
use Rattle.dm_schema.specs.declared.column.Column.{Column}
use Rattle.dm_schema.specs.declared.column.UniqueKey.{UniqueKey}
use Rattle.dm_schema.specs.declared.column.DefaultRule.{DefaultRule}
use Rattle.dm_schema.specs.declared.column.DefaultRule.TheVariants as default
use Rattle.dm_schema.specs.declared.change.Change.{Change}
use Rattle.dm_schema.specs.declared.change.Change.TheVariants as change
use Rattle.dm_schema.specs.declared.change.Spot.{Spot}
use Rattle.dm_schema.specs.declared.change.Spot.TheVariants as spot
use Rattle.dm_schema.specs.declared.fault.EffectFault.{EffectFault}
use Rattle.dm_schema.specs.declared.fault.EffectFault.TheVariants as fault
use Rattle.dm_schema.specs.declared.fault.SchemaFault.{SchemaFault}
use Rattle.dm_schema.specs.declared.fault.SchemaFault.TheVariants as schema_fault
use Rattle.dm_schema.specs.Layout.{Layout}
use Rattle.dm_schema.specs.Names.{Text, same_name, column_at, has_column}
use Rattle.dm_schema.specs.Fill.{fill}
use Rattle.dm_schema.specs.Kinds.{is_column, is_key, is_folded}
use Rattle.dm_schema.specs.KindOrder.{comparable}
use Rattle.dm_schema.specs.Schemas.{schema_of, joined_schema_of, all_columns}

-- a change of whose column or key a schema can be made
abbrev pub is_change : Change → Bool
is_change (change.Add column spot) = is_column column
is_change (change.Drop name) = true
is_change (change.Modify column spot null_written) = is_column column
is_change (change.SetDefault name text) = true
is_change (change.AddUnique key named) = is_key key && list_all is_folded key.columns
is_change (change.DropKey name) = true
is_change (change.RenameKey name) = true
is_change (change.Refused cause) = true
is_change change.NoEffect = true

-- what a default's text says of a kind: its value, if it has one; NULL among them
abbrev pub Reading : Type 0
Reading = Kind → List ℕ → Option Value

-- how a schema is made of columns and keys
abbrev pub Making : Type 0
Making = List Column → List Text → List UniqueKey → Result Layout SchemaFault

abbrev pub is_among : List Text → Text → Bool
is_among names name = list_any (λ n. same_name n name) names

-- Places of columns.

abbrev pub without_column : List Column → Text → List Column
without_column columns name = filter (λ c. not (same_name c.name name)) columns

-- a column behind the one of a name
abbrev pub put_after : Text → Column → List Column → List Column
put_after name column columns = flat_map (λ c. if same_name c.name name then c ∷ column ∷ [] else c ∷ []) columns

-- another column at its spot
abbrev pub placed : Spot → Column → List Column → List Column
placed spot.Keep column columns = columns ++ column ∷ []
placed spot.Last column columns = columns ++ column ∷ []
placed spot.First column columns = column ∷ columns
placed (spot.After name) column columns = put_after name column columns

-- in the place of the column that has its name
abbrev pub replaced : Column → List Column → List Column
replaced column columns = map (λ c. if same_name c.name column.name then column else c) columns

-- a column that is there, as it is now; behind itself it stays where it is
abbrev pub modified : Spot → Column → List Column → List Column
modified spot.Keep column columns = replaced column columns
modified spot.Last column columns = without_column columns column.name ++ column ∷ []
modified spot.First column columns = column ∷ without_column columns column.name
modified (spot.After name) column columns =
    if same_name name column.name then replaced column columns else put_after name column (without_column columns column.name)

-- the spot names no column that isn't there
abbrev pub stands : List Column → Spot → Bool
stands columns spot.Keep = true
stands columns spot.Last = true
stands columns spot.First = true
stands columns (spot.After name) = has_column columns name

-- Keys.

abbrev pub has_key : List UniqueKey → Text → Bool
has_key uniques name = list_any (λ k. same_name k.name name) uniques

-- a column of the primary key or of a unique key
abbrev pub is_key_column : Layout → Text → Bool
is_key_column layout name = is_among layout.primary name || list_any (λ k. is_among k.columns name) layout.uniques

-- the second name of a kind has `_2` behind it, the third `_3`
abbrev pub numbered : Text → ℕ → Text
numbered name number =
    if number == 1 then name
    else if nat_lt number 10 then name ++ 95 ∷ (48 + number) ∷ []
    else name ++ 95 ∷ (48 + number / 10) ∷ (48 + number % 10) ∷ []

-- `primary` counts as taken
abbrev pub is_taken : List UniqueKey → Text → Bool
is_taken uniques name = has_key uniques name || same_name name (codes "primary")

abbrev pub first_column : UniqueKey → Text
first_column key = name_of key.columns where
  name_of : List Text → Text
  name_of [] = []
  name_of (n ∷ ns) = n

-- The name of a unique key that is written without one: the first that isn't taken of its first column's name and those
-- numbered from 2 on. With 16 keys at most, one of 18 is free.
abbrev pub free_name : List UniqueKey → Text → Text
free_name uniques name = unwrap_or (find (λ n. not (is_taken uniques n)) (map (numbered name) (range_with_len 1 18))) name

abbrev pub named_key : List UniqueKey → UniqueKey → Bool → UniqueKey
named_key uniques key true = key
named_key uniques key false = record { name = free_name uniques (first_column key); columns = key.columns }

-- Defaults.

-- the rule that a default's value gives; none where NULL isn't one of the column's values
abbrev pub rule_by : Bool → Option Value → Option DefaultRule
rule_by nullable None = None
rule_by nullable (Some value.Null) = if nullable then Some default.Nothing else None
rule_by nullable (Some (value.Int n)) = Some (default.Const (value.Int n))
rule_by nullable (Some (value.Bytes bytes)) = Some (default.Const (value.Bytes bytes))
rule_by nullable (Some (value.Dec d)) = Some (default.Const (value.Dec d))
rule_by nullable (Some (value.Date d)) = Some (default.Const (value.Date d))
rule_by nullable (Some (value.Moment m)) = Some (default.Const (value.Moment m))
rule_by nullable (Some (value.Stamp s)) = Some (default.Const (value.Stamp s))

-- the rule that a text gives a column; the empty text is DROP DEFAULT
abbrev pub rule_of : Reading → Column → List ℕ → Option DefaultRule
rule_of read column text = if length text == 0 then Some default.Nothing else rule_by column.nullable (read column.kind text)

abbrev pub with_rule : Column → DefaultRule → Column
with_rule column rule = record { name = column.name; kind = column.kind; nullable = column.nullable; default_rule = rule }

-- the column with the rule that a text gives it; none where it gives none
abbrev pub with_default : Reading → List Column → Text → List ℕ → Option Column
with_default read columns name text = option_and_then (λ c. option_map (with_rule c) (rule_of read c text)) (column_at columns name)

-- The changes.

abbrev pub adds : Change → Text → Bool
adds (change.Add column spot) name = same_name column.name name
adds c name = false

abbrev pub drops : Change → Text → Bool
drops (change.Drop dropped) name = same_name dropped name
drops c name = false

-- the changes before have added a column of this name
abbrev pub was_added : List Change → Text → Bool
was_added before name = list_any (λ c. adds c name) before

-- the changes before have dropped a column of this name
abbrev pub was_dropped : List Change → Text → Bool
was_dropped before name = list_any (λ c. drops c name) before

-- a column of the primary key stays NOT NULL
abbrev pub modified_column : Layout → Column → Column
modified_column layout column =
    if is_among layout.primary column.name then record { name = column.name; kind = column.kind; nullable = false; default_rule = column.default_rule }
    else column

abbrev pub has_no_fill : Option Column → Bool
has_no_fill None = false
has_no_fill (Some column) = is_none (fill column)

abbrev pub differs_in_family : Option Column → Column → Bool
differs_in_family None after = false
differs_in_family (Some before) after = not (comparable before.kind after.kind)

-- why a change has no effect on a schema, behind those before it, in the order of the faults
abbrev pub refusals_of : Reading → List Change → Layout → Change → List (Bool × EffectFault)
refusals_of read before layout (change.Add column spot) =
    (not (stands layout.columns spot), fault.UnknownColumn)
    ∷ (has_column layout.columns column.name, fault.ColumnExists)
    ∷ (was_dropped before column.name, fault.Readd)
    ∷ (has_no_fill (Some column), fault.NoFill)
    ∷ []
refusals_of read before layout (change.Drop name) =
    (not (has_column layout.columns name), fault.UnknownColumn)
    ∷ (is_key_column layout name, fault.KeyColumn)
    ∷ (was_added before name, fault.Readd)
    ∷ []
refusals_of read before layout (change.Modify column spot null_written) =
    (null_written && is_among layout.primary column.name, fault.PrimaryChange)
    ∷ (not (has_column layout.columns column.name && stands layout.columns spot), fault.UnknownColumn)
    ∷ (differs_in_family (column_at layout.columns column.name) column, fault.FamilyChange)
    ∷ (was_added before column.name && has_no_fill (Some column), fault.NoFill)
    ∷ []
refusals_of read before layout (change.SetDefault name text) =
    (not (has_column layout.columns name), fault.UnknownColumn)
    ∷ (was_added before name && has_no_fill (with_default read layout.columns name text), fault.NoFill)
    ∷ (is_none (with_default read layout.columns name text), fault.Made schema_fault.DefaultUnfit)
    ∷ []
refusals_of read before layout (change.AddUnique key named) =
    (not (all_columns layout.columns key.columns), fault.UnknownColumn)
    ∷ (named && has_key layout.uniques key.name, fault.KeyExists)
    ∷ []
refusals_of read before layout (change.DropKey name) = []
refusals_of read before layout (change.RenameKey name) = (has_key layout.uniques name, fault.Renames) ∷ []
refusals_of read before layout (change.Refused cause) = (true, cause) ∷ []
refusals_of read before layout change.NoEffect = []

abbrev pub with_columns : Layout → List Column → Layout
with_columns layout columns = record { columns = columns; primary = layout.primary; uniques = layout.uniques }

abbrev pub with_uniques : Layout → List UniqueKey → Layout
with_uniques layout uniques = record { columns = layout.columns; primary = layout.primary; uniques = uniques }

-- the columns and keys after a change that isn't refused
abbrev pub changed : Reading → Layout → Change → Layout
changed read layout (change.Add column spot) = with_columns layout (placed spot column layout.columns)
changed read layout (change.Drop name) = with_columns layout (without_column layout.columns name)
changed read layout (change.Modify column spot null_written) = with_columns layout (modified spot (modified_column layout column) layout.columns)
changed read layout (change.SetDefault name text) =
    option_map_or (λ c. with_columns layout (replaced c layout.columns)) (with_default read layout.columns name text) layout
changed read layout (change.AddUnique key named) = with_uniques layout (layout.uniques ++ named_key layout.uniques key named ∷ [])
changed read layout (change.DropKey name) = with_uniques layout (filter (λ k. not (same_name k.name name)) layout.uniques)
changed read layout (change.RenameKey name) = layout
changed read layout (change.Refused cause) = layout
changed read layout change.NoEffect = layout

-- the schema, if it can be made
abbrev pub made : Making → Layout → Result Layout EffectFault
made make layout = by (make layout.columns layout.primary layout.uniques) where
  by : Result Layout SchemaFault → Result Layout EffectFault
  by (Ok after) = Ok after
  by (Err e) = Err (fault.Made e)

-- one change, behind those before it
abbrev pub step : Making → Reading → List Change → Layout → Change → Result Layout EffectFault
step make read before layout c = by (first_refusal (refusals_of read before layout c)) where
  by : Option EffectFault → Result Layout EffectFault
  by (Some e) = Err e
  by None = made make (changed read layout c)

-- one change after another
abbrev pub steps : Making → Reading → List Change → Result Layout EffectFault → List Change → Result Layout EffectFault
steps make read before layout [] = layout
steps make read before (Err e) (c ∷ cs) = Err e
steps make read before (Ok layout) (c ∷ cs) = steps make read (before ++ c ∷ []) (step make read before layout c) cs

-- the schema after a statement's changes, or the first fault
unfoldable pub ddl_effect : Reading → Layout → List Change → Result Layout EffectFault
ddl_effect read layout changes = steps schema_of read [] (Ok layout) changes

-- the same without the bound on columns, which a join of schemas may pass
unfoldable pub joined_effect : Reading → Layout → List Change → Result Layout EffectFault
joined_effect read layout changes = steps joined_schema_of read [] (Ok layout) changes
