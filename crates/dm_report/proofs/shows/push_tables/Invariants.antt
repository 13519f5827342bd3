use Rattle.std.proofs.Common.{◌≡◌, ◌++◌}
use Rattle.std.specs.List.{flat_map}
use Rattle.dm_report.specs.Shows.{table_part}
use Rattle.dm_report.proofs.shows.push_tables.Given as goal

abbrev pub invariant-loop-name : goal.invariant-loop-name
invariant-loop-name l = l.text.items ++ flat_map table_part l.name-iterator ≡ l.fn.text.items ++ flat_map table_part l.tables.entries
