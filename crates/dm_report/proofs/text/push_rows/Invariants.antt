use Rattle.std.proofs.Common.{◌≡◌, ◌++◌, drop, map}
use Rattle.std.specs.List.{flat_map}
use Rattle.dm_report.specs.Texts.{row_line}
use Rattle.dm_report.proofs.text.push_rows.Given as goal

abbrev pub invariant-loop-row : goal.invariant-loop-row
invariant-loop-row l =
    l.out.items ++ flat_map (row_line l.columns) (map (λ row. row.now) (drop l.row-index l.rows)) ≡ l.fn.out.items ++ flat_map (row_line l.columns) (map (λ row. row.now) l.rows)
