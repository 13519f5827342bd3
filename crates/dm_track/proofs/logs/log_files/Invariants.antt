use Rattle.std.proofs.Common.{◌≡◌, ◌++◌, ◌-◌, map}
use Rattle.std.specs.List.{All, range_with_len}
use Rattle.dm_stream.specs.Views.{seen_file, IsShort}
use Rattle.dm_track.specs.Builds.{log_file}
use Rattle.dm_track.proofs.logs.log_files.Given as goal

abbrev pub invariant-loop-number : goal.invariant-loop-number
invariant-loop-number l = record {
  files : map seen_file l.logs.items ++ map (log_file l.files) (range_with_len l.number (l.number-end - l.number)) ≡ map (log_file l.files) (range_with_len l.first l.count);
  short : All IsShort l.logs.items;
}
