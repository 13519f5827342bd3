use Rattle.std.proofs.Common.{◌≡◌, true, map, take}
use Rattle.std.specs.List.{list_all}
use Rattle.std.specs.Cmp.Lexicographic.{pointwise}
use Rattle.dm_schema.specs.Fits.{fits}
use Rattle.dm_gen.specs.Schemas.{columns_after}
use Rattle.dm_gen.specs.Steps.{row_of}
use Rattle.dm_gen.proofs.dumps.dumped.Given as goal

abbrev pub invariant-loop-row : goal.invariant-loop-row
invariant-loop-row l = (l.rows.items ≡ map (row_of 0) (take l.row-index l.row-items)) × (list_all (λ row. pointwise fits row (columns_after 0)) l.rows.items ≡ true)
