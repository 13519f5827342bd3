-- When columns and keys are a schema, and when two schemas are equal.
use Rattle.std.specs.Prelude.{ℕ, Bool, true, false, not, ◌&&◌, ◌||◌, ◌==◌, nat_lt, nat_le, nat_eq, List, [], ◌∷◌, ◌++◌, length, map, Option, Some, None, is_none, Result, IsTrue, if◌then◌else◌}
use Rattle.std.specs.List.{list_any, list_all}
use Rattle.std.specs.Cmp.Lexicographic.{pointwise}
use Rattle.dm_list.specs.Answer.{first_refusal, unless_refused}
use Rattle.dm_schema.specs.declared.column.Column.{Column}
use Rattle.dm_schema.specs.declared.column.UniqueKey.{UniqueKey}
use Rattle.dm_schema.specs.declared.column.DefaultRule.{DefaultRule}
use Rattle.dm_schema.specs.declared.column.DefaultRule.TheVariants as default
use Rattle.dm_schema.specs.declared.fault.SchemaFault.{SchemaFault}
use Rattle.dm_schema.specs.declared.fault.SchemaFault.TheVariants as fault
use Rattle.dm_schema.specs.contracts.column.ColumnPartialEq.TheImpl as column_eq
use Rattle.dm_schema.specs.contracts.column.UniqueKeyPartialEq.TheImpl as unique_eq
use Rattle.dm_schema.specs.Layout.{Layout}
use Rattle.dm_schema.specs.Names.{Text, same_name, has_column, repeats}
use Rattle.dm_schema.specs.NameOrder.{columns_in_order, uniques_in_order}
use Rattle.dm_schema.specs.Fits.{fits_by}
use Rattle.dm_schema.specs.Kinds.{is_column, is_key}

-- each name is a column's
abbrev pub all_columns : List Column → List Text → Bool
all_columns columns names = list_all (λ n. has_column columns n) names

abbrev pub is_nullable_column : List Text → Column → Bool
is_nullable_column names c = c.nullable && list_any (λ n. same_name c.name n) names

-- a column of these names is nullable
abbrev pub has_nullable : List Column → List Text → Bool
has_nullable columns names = list_any (λ c. is_nullable_column names c) columns

abbrev pub is_unfit_default : Column → Bool
is_unfit_default c = by c.default_rule where
  by : DefaultRule → Bool
  by default.Nothing = false
  by default.Now = false
  by (default.Const value) = not (fits_by c.kind c.nullable value)

-- what stands twice where it may stand once
abbrev pub column_repeats : List Column → Bool
column_repeats columns = repeats (λ a b. same_name a.name b.name) columns

abbrev pub key_repeats : List UniqueKey → Bool
key_repeats uniques = repeats (λ a b. same_name a.name b.name) uniques

abbrev pub names_repeat : List Text → Bool
names_repeat names = repeats same_name names

abbrev pub some_key_repeats_names : List UniqueKey → Bool
some_key_repeats_names uniques = list_any (λ k. names_repeat k.columns) uniques

-- the refusals of columns and keys, in their order: the first whose test holds is the fault
abbrev pub refusals : List Column → List Text → List UniqueKey → List (Bool × SchemaFault)
refusals columns primary uniques =
    (column_repeats columns || key_repeats uniques || names_repeat primary || some_key_repeats_names uniques, fault.Duplicate)
    ∷ (length primary == 0, fault.NoPrimary)
    ∷ (not (all_columns columns primary && list_all (λ k. all_columns columns k.columns) uniques), fault.UnknownColumn)
    ∷ (has_nullable columns primary, fault.NullablePrimary)
    ∷ (list_any is_unfit_default columns, fault.DefaultUnfit)
    ∷ []

-- more unique keys than a table can have
abbrev pub has_too_many_keys : List UniqueKey → Bool
has_too_many_keys uniques = nat_lt 16 (length uniques)

-- more than a schema that is read can have
abbrev pub is_too_many : List Column → List UniqueKey → Bool
is_too_many columns uniques = nat_lt 256 (length columns) || has_too_many_keys uniques

-- the schema of columns and keys, or the first fault
abbrev pub schema_of : List Column → List Text → List UniqueKey → Result Layout SchemaFault
schema_of columns primary uniques =
    unless_refused (first_refusal ((is_too_many columns uniques, fault.TooMany) ∷ refusals columns primary uniques))
    (record { columns = columns; primary = primary; uniques = uniques })

-- the same without the bound on columns, which a join of schemas may pass
abbrev pub joined_schema_of : List Column → List Text → List UniqueKey → Result Layout SchemaFault
joined_schema_of columns primary uniques =
    unless_refused (first_refusal ((has_too_many_keys uniques, fault.TooMany) ∷ refusals columns primary uniques))
    (record { columns = columns; primary = primary; uniques = uniques })

-- What holds of every schema: it is made of columns and keys of which one can be made, has 16 unique keys at most, and
-- none of the refusals is there: names are apart, keys name columns, no column of the primary key is nullable, and
-- defaults fit.
abbrev pub is_formed : Layout → Bool
is_formed layout =
    list_all is_column layout.columns && list_all is_key layout.uniques && nat_le (length layout.uniques) 16
    && is_none (first_refusal (refusals layout.columns layout.primary layout.uniques))

abbrev pub same_column : Column → Column → Bool
same_column = (column_eq.ghosts).eq

abbrev pub same_unique : UniqueKey → UniqueKey → Bool
same_unique = (unique_eq.ghosts).eq

-- the same columns and keys, in the same order
abbrev pub same_layout : Layout → Layout → Bool
same_layout a b = pointwise same_column a.columns b.columns && pointwise same_name a.primary b.primary && pointwise same_unique a.uniques b.uniques

-- columns and unique keys in byte order of their names
abbrev pub in_order : Layout → Layout
in_order layout = record { columns = columns_in_order layout.columns; primary = layout.primary; uniques = uniques_in_order layout.uniques }

-- two schemas are equal: their columns by name, their primary keys and their unique keys
abbrev pub schema_equal : Layout → Layout → Bool
schema_equal a b = same_layout (in_order a) (in_order b)
