-- What follows for shards and targets: a shard is admitted and goes where its route sends it; the targets stand in order,
-- each once, and are those of the shards.
use Rattle.std.proofs.Common.{◌≡◌, Bool, true, false, cond, List, [], ◌∷◌, Option, Some, None, map, fold, refl, sym, ap, subst, ◌∙◌}
use Rattle.std.specs.declared.cmp.Ordering.{Ordering}
use Rattle.std.specs.declared.cmp.Ordering.TheVariants.{Less, Equal, Greater}
use Rattle.std.specs.List.{AllByRecursion, filter_map, cons_option, flat_map}
use Rattle.std.specs.List.Sorted.{IsStrictlySortedBy}
use Rattle.std.specs.Ordering.{match_ordering, ordering_reverse}
use Rattle.std.specs.Cmp.{IsTotalOrder}
use Rattle.std.proofs.lemmas.Option.{same_Some}
use Rattle.std.proofs.lemmas.Map.Lookups.{CmpEqualImpliesEq, exact_bytes, exact_pairs}
use Rattle.dm_schema.specs.declared.table_name.TableName.{TableName}
use Rattle.dm_schema.specs.contracts.table_name.TableNameOrd.TheImpl.Laws.{total-law}
use Rattle.dm_route.specs.declared.rules.Rules.{Rules}
use Rattle.dm_route.specs.Rules.{Skip, is_admitted, rule_for, target_of, route_of}
use Rattle.dm_task.specs.declared.task.Task.{Task}
use Rattle.dm_task.specs.declared.task.SourceTable.{SourceTable}
use Rattle.dm_task.specs.declared.task.Shard.{Shard}
use Rattle.dm_task.specs.Paths.{Text}
use Rattle.dm_task.specs.Shards.{table_name, target_by, shard_to, shard_of, source_shards, shards_of, table_name_cmp, with_name, targets_of}
use Rattle.dm_task.proofs.Files.{both_hold}

-- Shards.

-- the allow list admits the table, and its route gives the target
pub record IsRouted (rules : Rules) (shard : Shard) : Type 0 where
  pub admitted : is_admitted rules.allow shard.name.db shard.name.table ≡ true
  pub target : target_by (route_of rules shard.name.db shard.name.table) shard.name ≡ Some shard.target

admitted_by : (rules : Rules) (own target : TableName) → target_by (route_of rules own.db own.table) own ≡ Some target → is_admitted rules.allow own.db own.table ≡ true
admitted_by rules own target h = by (is_admitted rules.allow own.db own.table) h where
  by : (b : Bool) → target_by (cond b (target_of (rule_for rules.routes own.db own.table)) Skip) own ≡ Some target → b ≡ true
  by true h = refl
  by false h = cc

routed : (rules : Rules) (source : Text) (table : SourceTable) (shard : Shard) → shard_of rules source table ≡ Some shard → IsRouted rules shard
routed rules source table shard h = by (target_by (route_of rules table.db table.table) (table_name table)) refl h where
  by : (target : Option TableName) → target_by (route_of rules table.db table.table) (table_name table) ≡ target → shard_to source (table_name table) target ≡ Some shard → IsRouted rules shard
  by None is h = absurd (cc)
  by (Some target) is h = subst (IsRouted rules) (same_Some _ _ h) (record { admitted = admitted_by rules (table_name table) target is; target = is })

one_more : {Y : Type 0} (P : Y → Type 0) (ys : List Y) (o : Option Y) → ((y : Y) → o ≡ Some y → P y) → AllByRecursion P ys → AllByRecursion P (cons_option o ys)
one_more P ys None known rest = rest
one_more P ys (Some y) known rest = (known y refl, rest)

all_filtered : {X Y : Type 0} (P : Y → Type 0) (f : X → Option Y) → ((x : X) (y : Y) → f x ≡ Some y → P y) → (xs : List X) → AllByRecursion P (filter_map f xs)
all_filtered P f known [] = tt
all_filtered P f known (x ∷ xs) = one_more P (filter_map f xs) (f x) (known x) (all_filtered P f known xs)

all_joined : {X Y : Type 0} (P : Y → Type 0) (f : X → List Y) → ((x : X) → AllByRecursion P (f x)) → (xs : List X) → AllByRecursion P (flat_map f xs)
all_joined P f known [] = tt
all_joined P f known (x ∷ xs) = both_hold P (f x) (flat_map f xs) (known x) (all_joined P f known xs)

pub shards_are_routed : (task : Task) → AllByRecursion (IsRouted task.rules) (shards_of task)
shards_are_routed task =
    all_joined (IsRouted task.rules) (source_shards task.rules)
    (λ source. all_filtered (IsRouted task.rules) (shard_of task.rules source.name) (routed task.rules source.name) source.tables) task.sources

-- Targets.

name_total : IsTotalOrder table_name_cmp
name_total = total-law

-- names that compare alike are one
name_exact : CmpEqualImpliesEq table_name_cmp
name_exact a b h = ap (λ (p : Text × Text). record { db = p.0; table = p.1 }) (exact_pairs _ _ exact_bytes exact_bytes (a.db, a.table) (b.db, b.table) h)

name_kept : (P : TableName → Type 0) (names : List TableName) (name : TableName) → AllByRecursion P names → P name → AllByRecursion P (with_name names name)
name_kept P [] name h p = (p, tt)
name_kept P (other ∷ others) name h p = by (table_name_cmp name other) (name_kept P others name h.1 p) where
  by : (o : Ordering) → AllByRecursion P (with_name others name) → AllByRecursion P (match_ordering o (name ∷ other ∷ others) (other ∷ others) (other ∷ with_name others name))
  by Less rest = (p, h)
  by Equal rest = h
  by Greater rest = (h.0, rest)

name_there : (P : TableName → Type 0) (names : List TableName) (name : TableName) → AllByRecursion P (with_name names name) → AllByRecursion P names × P name
name_there P [] name h = (tt, h.0)
name_there P (other ∷ others) name h = by (table_name_cmp name other) (name_there P others name) refl h where
  by : (o : Ordering) → (AllByRecursion P (with_name others name) → AllByRecursion P others × P name) → table_name_cmp name other ≡ o → AllByRecursion P (match_ordering o (name ∷ other ∷ others) (other ∷ others) (other ∷ with_name others name)) → AllByRecursion P (other ∷ others) × P name
  by Less there is h = (h.1, h.0)
  by Equal there is h = (h, subst P (sym (name_exact name other is)) h.0)
  by Greater there is h = let rest = there h.1 in ((h.0, rest.0), rest.1)

all_kept : (P : TableName → Type 0) (names list : List TableName) → AllByRecursion P names → AllByRecursion P list → AllByRecursion P (fold with_name names list)
all_kept P names [] h k = h
all_kept P names (name ∷ list) h k = all_kept P (with_name names name) list (name_kept P names name h k.0) k.1

all_there : (P : TableName → Type 0) (names list : List TableName) → AllByRecursion P (fold with_name names list) → AllByRecursion P names × AllByRecursion P list
all_there P names [] h = (h, tt)
all_there P names (name ∷ list) h =
    let rest = all_there P (with_name names name) list h in
    let here = name_there P names name rest.0 in
    (here.0, (here.1, rest.1))

-- what holds of each shard's target holds of each target: there is no other
pub targets_are_of_shards : (P : TableName → Type 0) (task : Task) → AllByRecursion P (map (λ shard. shard.target) (shards_of task)) → AllByRecursion P (targets_of task)
targets_are_of_shards P task h = all_kept P [] (map (λ shard. shard.target) (shards_of task)) tt h

-- what holds of each target holds of each shard's: all are there
pub targets_of_shards_are_there : (P : TableName → Type 0) (task : Task) → AllByRecursion P (targets_of task) → AllByRecursion P (map (λ shard. shard.target) (shards_of task))
targets_of_shards_are_there P task h = (all_there P [] (map (λ shard. shard.target) (shards_of task)) h).1

weaker : {X : Type 0} (P Q : X → Type 0) → ((x : X) → P x → Q x) → (xs : List X) → AllByRecursion P xs → AllByRecursion Q xs
weaker P Q known [] h = tt
weaker P Q known (x ∷ xs) h = (known x h.0, weaker P Q known xs h.1)

name_in_order : (names : List TableName) (name : TableName) → IsStrictlySortedBy table_name_cmp names → IsStrictlySortedBy table_name_cmp (with_name names name)
unfolding IsStrictlySortedBy
name_in_order [] name h = (tt, tt)
name_in_order (other ∷ others) name h = by (table_name_cmp name other) (name_in_order others name h.1) refl where
  by : (o : Ordering) → IsStrictlySortedBy table_name_cmp (with_name others name) → table_name_cmp name other ≡ o → IsStrictlySortedBy table_name_cmp (match_ordering o (name ∷ other ∷ others) (other ∷ others) (other ∷ with_name others name))
  by Less rest is = ((is, weaker (λ y. table_name_cmp other y ≡ Less) (λ y. table_name_cmp name y ≡ Less) (λ y behind. name_total.trans name other y is behind) others h.0), h)
  by Equal rest is = h
  by Greater rest is = (name_kept (λ y. table_name_cmp other y ≡ Less) others name h.0 (name_total.antisymm other name ∙ ap ordering_reverse is), rest)

all_in_order : (names list : List TableName) → IsStrictlySortedBy table_name_cmp names → IsStrictlySortedBy table_name_cmp (fold with_name names list)
all_in_order names [] h = h
all_in_order names (name ∷ list) h = all_in_order (with_name names name) list (name_in_order names name h)

none_in_order : IsStrictlySortedBy table_name_cmp []
unfolding IsStrictlySortedBy
none_in_order = tt

pub targets_are_in_order : (task : Task) → IsStrictlySortedBy table_name_cmp (targets_of task)
targets_are_in_order task = all_in_order [] (map (λ shard. shard.target) (shards_of task)) none_in_order
