-- Which tables are copied, where to, and which of their events are ignored.
use Rattle.std.specs.Prelude.{ℕ, ◌/◌, ◌%◌, ◌^◌, ◌==◌, Bool, ◌&&◌, ◌||◌, List, length, Option, Some, None, if◌then◌else◌}
use Rattle.std.specs.List.{list_any, find}
use Rattle.dm_schema.specs.declared.table_name.TableName.{TableName}
use Rattle.dm_route.specs.declared.event_kind.EventKind.{EventKind}
use Rattle.dm_route.specs.declared.event_kind.EventKind.TheVariants as kind
use Rattle.dm_route.specs.declared.rules.Pair.{Pair}
use Rattle.dm_route.specs.declared.rules.RouteRule.{RouteRule}
use Rattle.dm_route.specs.declared.rules.FilterRule.{FilterRule}
use Rattle.dm_route.specs.declared.rules.Rules.{Rules}
use Rattle.dm_route.specs.declared.rules.Route.{Route}
use Rattle.dm_route.specs.declared.rules.Route.TheVariants as route
use Rattle.dm_route.specs.Patterns.{matches}

abbrev pub pair_matches : Pair → List ℕ → List ℕ → Bool
pair_matches pair db table = matches pair.db db && matches pair.table table

-- Routes.

-- where a table goes: nowhere, to another, or to the one of its own name
pub data Destination : Type 0 where
  Skip : Destination
  To : TableName → Destination
  Same : Destination

-- an empty list admits each table, any other the tables that one of its pairs matches
abbrev pub is_admitted : List Pair → List ℕ → List ℕ → Bool
is_admitted allow db table = length allow == 0 || list_any (λ pair. pair_matches pair db table) allow

-- the first rule that matches
abbrev pub rule_for : List RouteRule → List ℕ → List ℕ → Option RouteRule
rule_for rules db table = find (λ rule. pair_matches rule.pair db table) rules

abbrev pub target_of : Option RouteRule → Destination
target_of None = Same
target_of (Some rule) = To rule.target

abbrev pub route_of : Rules → List ℕ → List ℕ → Destination
route_of rules db table = if is_admitted rules.allow db table then target_of (rule_for rules.routes db table) else Skip

-- what a route that is lent stands for
abbrev pub destination : Route → Destination
destination route.Skip = Skip
destination (route.To target) = To target.now
destination route.Same = Same

-- Filters.

-- the kind's bit in a set of kinds, from the lowest
abbrev pub place_of : EventKind → ℕ
place_of kind.Insert = 0
place_of kind.Update = 1
place_of kind.Delete = 2
place_of kind.CreateTable = 3
place_of kind.AlterTable = 4
place_of kind.CreateIndex = 5
place_of kind.DropIndex = 6
place_of kind.DropTable = 7
place_of kind.Truncate = 8
place_of kind.Rename = 9

-- whether a set of kinds has this one
abbrev pub has_kind : ℕ → EventKind → Bool
has_kind kinds k = kinds / 2 ^ place_of k % 2 == 1

abbrev pub is_ignored_by : FilterRule → List ℕ → List ℕ → EventKind → Bool
is_ignored_by filter db table k = pair_matches filter.pair db table && has_kind filter.kinds k

-- whether an event of a kind on a table is ignored
abbrev pub ignores : Rules → List ℕ → List ℕ → EventKind → Bool
ignores rules db table k = list_any (λ filter. is_ignored_by filter db table k) rules.filters
