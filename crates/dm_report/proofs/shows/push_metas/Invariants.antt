use Rattle.std.proofs.Common.{◌≡◌, ◌++◌}
use Rattle.std.specs.List.{flat_map}
use Rattle.dm_report.specs.Shows.{meta_line}
use Rattle.dm_report.proofs.shows.push_metas.Given as goal

abbrev pub invariant-loop-name : goal.invariant-loop-name
invariant-loop-name l = l.text.items ++ flat_map meta_line l.name-iterator ≡ l.fn.text.items ++ flat_map meta_line l.metas.entries
