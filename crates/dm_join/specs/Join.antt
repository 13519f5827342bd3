-- The join of schemas: the least schema that each of them is at most, or the first reason that there is none.
use Rattle.std.specs.Prelude.{nat_lt, Bool, true, false, not, ◌&&◌, List, [], ◌∷◌, length, Option, Some, None, is_none, Result, if◌then◌else◌}
use Rattle.std.specs.List.{list_any, list_all, filter, filter_map, flat_map}
use Rattle.dm_list.specs.Answer.{first_refusal, unless_refused}
use Rattle.dm_schema.specs.declared.column.Kind.{Kind}
use Rattle.dm_schema.specs.declared.column.Column.{Column}
use Rattle.dm_schema.specs.declared.column.UniqueKey.{UniqueKey}
use Rattle.dm_schema.specs.Layout.{Layout}
use Rattle.dm_schema.specs.Names.{Text, column_names, column_at}
use Rattle.dm_schema.specs.NameOrder.{uniques_in_order}
use Rattle.dm_schema.specs.KindOrder.{kind_at_most, comparable, same_family}
use Rattle.dm_schema.specs.Fill.{fill_for_missing}
use Rattle.dm_schema.specs.Schemas.{same_unique}
use Rattle.dm_join.specs.declared.no_join.JoinCause.TheVariants as cause
use Rattle.dm_join.specs.declared.no_join.NoJoin.{NoJoin}
use Rattle.dm_join.specs.declared.no_join.NoJoin.TheVariants.{At, Memory}
use Rattle.dm_join.specs.NameSet.{name_set}
use Rattle.dm_join.specs.AtMost.{same_names, same_default}

-- the columns that the schemas have under a name
abbrev pub columns_under : List Layout → Text → List Column
columns_under schemas name = filter_map (λ s. column_at s.columns name) schemas

-- the greatest of a kind and those of columns that are comparable with it
abbrev pub greatest : Kind → List Column → Kind
greatest top [] = top
greatest top (c ∷ cs) = greatest (if kind_at_most top c.kind then c.kind else top) cs

-- of the greatest kind, nullable where any is, with their one default
abbrev pub joined_column : List Column → Option Column
joined_column [] = None
joined_column (c ∷ cs) = Some (record { name = c.name; kind = greatest c.kind cs; nullable = list_any (λ d. d.nullable) (c ∷ cs); default_rule = c.default_rule })

-- each two of them pass, in both orders
abbrev pub each_two : (Column → Column → Bool) → List Column → Bool
each_two test columns = list_all (λ a. list_all (test a) columns) columns

-- some schema lacks the column, and nothing fills it there
abbrev pub lacks_fill : List Layout → List Column → Option Column → Bool
lacks_fill schemas columns None = false
lacks_fill schemas columns (Some joined) = nat_lt (length columns) (length schemas) && is_none (fill_for_missing joined)

-- what speaks against a join at a name, in order: two families, kinds that aren't comparable, two defaults, no fill
abbrev pub refusals_at : List Layout → Text → List Column → List (Bool × NoJoin)
refusals_at schemas name columns =
    (not (each_two (λ a b. same_family a.kind b.kind) columns), At name cause.Family)
    ∷ (not (each_two (λ a b. comparable a.kind b.kind) columns), At name cause.KindDiffers)
    ∷ (not (each_two (λ a b. same_default a.default_rule b.default_rule) columns), At name cause.DefaultDiffers)
    ∷ (lacks_fill schemas columns (joined_column columns), At name cause.MissingNoFill)
    ∷ []

-- the names of all columns, in byte order, each once
abbrev pub all_names : List Layout → List Text
all_names schemas = name_set (flat_map (λ s. column_names s.columns) schemas)

abbrev pub first_primary : List Layout → List Text
first_primary [] = []
first_primary (s ∷ ss) = s.primary

abbrev pub first_name : List Text → Text
first_name [] = []
first_name (n ∷ ns) = n

abbrev pub first_uniques : List Layout → List UniqueKey
first_uniques [] = []
first_uniques (s ∷ ss) = s.uniques

-- what speaks against a join: two primary keys, and then what does at each name
abbrev pub refusals_of : List Layout → List (Bool × NoJoin)
refusals_of schemas =
    (not (list_all (λ s. same_names (first_primary schemas) s.primary) schemas), At (first_name (first_primary schemas)) cause.Primary)
    ∷ flat_map (λ name. refusals_at schemas name (columns_under schemas name)) (all_names schemas)

-- the unique keys that all have, with the same name and list, in byte order of names
abbrev pub common_uniques : List Layout → List UniqueKey
common_uniques schemas = uniques_in_order (filter (λ key. list_all (λ s. list_any (same_unique key) s.uniques) schemas) (first_uniques schemas))

-- each column that some schema has, in byte order of names
abbrev pub joined_layout : List Layout → Layout
joined_layout schemas = record {
  columns = filter_map (λ name. joined_column (columns_under schemas name)) (all_names schemas);
  primary = first_primary schemas;
  uniques = common_uniques schemas;
}

-- the join of schemas, or the first reason that there is none
unfoldable pub join : List Layout → Result Layout NoJoin
join schemas = unless_refused (first_refusal (refusals_of schemas)) (joined_layout schemas)

-- want of memory, which may come at any time
abbrev pub is_memory : NoJoin → Bool
is_memory (At column why) = false
is_memory Memory = true
