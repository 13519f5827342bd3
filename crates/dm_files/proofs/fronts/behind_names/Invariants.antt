use Rattle.std.proofs.Common.{◌≡◌, drop}
use Rattle.dm_files.specs.Fronts.{files_behind}
use Rattle.dm_files.proofs.fronts.behind_names.Given as goal

abbrev pub invariant-loop-name : goal.invariant-loop-name
invariant-loop-name l = files_behind (drop l.name-index l.names) l.left ≡ files_behind l.names l.files
