-- The order of schemas: whether each row of a schema can be kept as a row of another.
use Rattle.std.specs.Prelude.{Bool, false, not, ◌&&◌, ◌||◌, List, Option, Some, None}
use Rattle.std.specs.List.{list_any, list_all}
use Rattle.std.specs.Cmp.Lexicographic.{pointwise}
use Rattle.dm_schema.specs.declared.column.Column.{Column}
use Rattle.dm_schema.specs.declared.column.DefaultRule.{DefaultRule}
use Rattle.dm_schema.specs.contracts.column.DefaultRulePartialEq.TheImpl as default_eq
use Rattle.dm_schema.specs.Layout.{Layout}
use Rattle.dm_schema.specs.Names.{Text, same_name, column_at, has_column}
use Rattle.dm_schema.specs.KindOrder.{kind_at_most}
use Rattle.dm_schema.specs.Fill.{fill_for_missing}
use Rattle.dm_schema.specs.Schemas.{same_unique}
use Rattle.std.specs.Option.{is_some}

abbrev pub same_names : List Text → List Text → Bool
same_names = pointwise same_name

abbrev pub same_default : DefaultRule → DefaultRule → Bool
same_default = (default_eq.ghosts).eq

-- a kind at most the other's, nullable only if the other is, and the same default
abbrev pub column_at_most : Column → Column → Bool
column_at_most low high = kind_at_most low.kind high.kind && (not low.nullable || high.nullable) && same_default low.default_rule high.default_rule

-- the other schema has the column, and it is at most that one
abbrev pub is_kept : Column → Option Column → Bool
is_kept low None = false
is_kept low (Some high) = column_at_most low high

-- The primary keys are the same list; each column of the lower schema is at most the higher one's of its name; each
-- column that only the higher has, has a constant fill for missing; and each unique key of the higher is one of the
-- lower.
abbrev pub at_most : Layout → Layout → Bool
at_most low high =
    same_names low.primary high.primary
    && list_all (λ c. is_kept c (column_at high.columns c.name)) low.columns
    && list_all (λ c. has_column low.columns c.name || is_some (fill_for_missing c)) high.columns
    && list_all (λ k. list_any (same_unique k) low.uniques) high.uniques
