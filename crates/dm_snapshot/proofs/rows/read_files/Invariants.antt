use Rattle.std.proofs.Common.{◌≡◌, ◌+◌, drop}
use Rattle.std.specs.Prelude.{IsTrue}
use Rattle.std.specs.List.{list_all}
use Rattle.dm_dump.specs.Rows.{are_readable}
use Rattle.dm_files.specs.Files.{bytes_of}
use Rattle.dm_snapshot.specs.Snapshots.{DumpReadings, AreDumpReadings, rows_from}
use Rattle.dm_snapshot.specs.Steps.{with_front}
use Rattle.dm_snapshot.proofs.rows.read_files.Given as goal

abbrev pub invariant-loop-name : goal.invariant-loop-name
invariant-loop-name l = record {
  rows : (r : DumpReadings) → AreDumpReadings r
      → with_front l.read.items (rows_from r l.files (l.table).table l.schema l.next (drop l.name-index l.names)) ≡ rows_from r l.files (l.table).table l.schema l.number (l.table).rows;
  next : l.next ≡ l.number + l.name-index;
  readable : IsTrue (list_all (λ f. are_readable (bytes_of l.files f.number) l.schema f.inserts) l.read.items);
}
