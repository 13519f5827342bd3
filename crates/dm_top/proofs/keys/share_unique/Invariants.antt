use Rattle.std.proofs.Common.{◌≡◌, drop, map}
use Rattle.std.specs.List.{list_any}
use Rattle.dm_schema.specs.Names.{repeats}
use Rattle.dm_top.specs.Load.{same_row, values_under}
use Rattle.dm_top.proofs.keys.share_unique.Given as goal

abbrev pub invariant-loop-key : goal.invariant-loop-key
invariant-loop-key l =
    list_any (λ key. repeats same_row (values_under l.joined (map (λ row. row.now) l.rows) key)) (drop l.key-index l.key-items) ≡ list_any (λ key. repeats same_row (values_under l.joined (map (λ row. row.now) l.rows) key)) l.joined.uniques
