use Rattle.std.proofs.Common.{◌≡◌, ◌+◌, drop, length}
use Rattle.std.specs.Prelude.{IsTrue}
use Rattle.std.specs.List.{flat_map, list_all}
use Rattle.dm_files.specs.Files.{table_files}
use Rattle.dm_snapshot.specs.Snapshots.{DumpReadings, AreDumpReadings}
use Rattle.dm_track.specs.Steps.{beginnings, is_readable, with_front}
use Rattle.dm_track.proofs.tables.read_tables.Given as goal

abbrev pub invariant-loop-table : goal.invariant-loop-table
invariant-loop-table l = record {
  made : (r : DumpReadings) → AreDumpReadings r
      → with_front l.made.items (beginnings r l.files l.rules l.source l.next (drop l.table-index l.tables)) ≡ beginnings r l.files l.rules l.source l.number l.tables;
  next : l.next + length (flat_map table_files (drop l.table-index l.tables)) ≡ l.number + length (flat_map table_files l.tables);
  readable : IsTrue (list_all (is_readable l.files) l.made.items);
}
