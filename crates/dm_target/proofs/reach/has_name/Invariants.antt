use Rattle.std.proofs.Common.{◌≡◌, drop}
use Rattle.std.specs.List.{list_any}
use Rattle.std.specs.Ordering.{eq_by_cmp}
use Rattle.dm_schema.specs.Names.{name_cmp}
use Rattle.dm_target.proofs.reach.has_name.Given as goal

abbrev pub invariant-loop-pair : goal.invariant-loop-pair
invariant-loop-pair l = list_any (λ pair. eq_by_cmp name_cmp l.name pair.name) (drop l.pair-index l.pairs) ≡ list_any (λ pair. eq_by_cmp name_cmp l.name pair.name) l.pairs
