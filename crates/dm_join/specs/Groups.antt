-- The columns of all schemas in one list, and their join group by group: a group is the columns of one name.
use Rattle.std.specs.Prelude.{ℕ, Bool, not, Option, Some, List, [], ◌∷◌, ◌++◌, Result, Ok, Err}
use Rattle.std.specs.Ordering.{is_lt}
use Rattle.std.specs.List.{list_any, list_all, filter, filter_map, flat_map, prefix_len}
use Rattle.dm_list.specs.Answer.{first_refusal, unless_refused}
use Rattle.dm_schema.specs.declared.column.Column.{Column}
use Rattle.dm_schema.specs.Layout.{Layout}
use Rattle.dm_schema.specs.Names.{Text, name_cmp, same_name, column_names}
use Rattle.dm_schema.specs.Schemas.{is_formed}
use Rattle.dm_schema.specs.KindOrder.{same_family, comparable}
use Rattle.dm_join.specs.declared.no_join.JoinCause.{JoinCause}
use Rattle.dm_join.specs.declared.no_join.JoinCause.TheVariants as cause
use Rattle.dm_join.specs.declared.no_join.NoJoin.{NoJoin}
use Rattle.dm_join.specs.declared.no_join.NoJoin.TheVariants.{Memory}
use Rattle.dm_join.specs.NameSet.{name_set}
use Rattle.dm_join.specs.Join.{greatest, joined_column, refusals_at, each_two, lacks_fill}
use Rattle.dm_join.specs.AtMost.{same_default}

-- the columns of all schemas, in the order of the schemas
abbrev pub columns_of : List Layout → List Column
columns_of schemas = flat_map (λ s. s.columns) schemas

-- all schemas are such as can be made
unfoldable pub are_formed : List Layout → Bool
are_formed schemas = list_all is_formed schemas

-- a column's name comes before another's
abbrev pub comes_before : Column → Column → Bool
comes_before a b = is_lt (name_cmp a.name b.name)

-- the columns of a list that have a name
abbrev pub columns_named : List Column → Text → List Column
columns_named columns name = filter (λ c. same_name c.name name) columns

-- how many columns at the front of a list have a name
abbrev pub leading : Text → List Column → ℕ
leading name columns = prefix_len (λ c. same_name c.name name) columns

-- the column that joins a first one and others of its name
abbrev pub joined_of : Column → List Column → Column
joined_of c cs = record { name = c.name; kind = greatest c.kind cs; nullable = list_any (λ d. d.nullable) (c ∷ cs); default_rule = c.default_rule }

-- what speaks against a group's join, in its order
abbrev pub cause_of : List Layout → List Column → Column → Option JoinCause
cause_of schemas columns joined =
    first_refusal
    ((not (each_two (λ a b. same_family a.kind b.kind) columns), cause.Family)
    ∷ (not (each_two (λ a b. comparable a.kind b.kind) columns), cause.KindDiffers)
    ∷ (not (each_two (λ a b. same_default a.default_rule b.default_rule) columns), cause.DefaultDiffers)
    ∷ (lacks_fill schemas columns (Some joined), cause.MissingNoFill)
    ∷ [])

-- the column that joins a group, or the first reason that there is none
abbrev pub group_joined : List Layout → List Column → Result Column NoJoin
group_joined schemas [] = Err Memory
group_joined schemas (c ∷ cs) = unless_refused (first_refusal (refusals_at schemas c.name (c ∷ cs))) (joined_of c cs)

-- the columns that join the groups of a list, in byte order of names, or the first reason that there are none
abbrev pub columns_joined : List Layout → List Column → Result (List Column) NoJoin
columns_joined schemas columns =
    unless_refused
    (first_refusal (flat_map (λ name. refusals_at schemas name (columns_named columns name)) (name_set (column_names columns))))
    (filter_map (λ name. joined_column (columns_named columns name)) (name_set (column_names columns)))

-- columns that were joined, and behind them those that are still to be
abbrev pub with_front : List Column → Result (List Column) NoJoin → Result (List Column) NoJoin
with_front joined (Ok rest) = Ok (joined ++ rest)
with_front joined (Err fault) = Err fault
