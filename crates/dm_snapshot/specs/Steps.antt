-- Reading a table's files one after another.
use Rattle.std.specs.Prelude.{◌≡◌, ⊤, ℕ, List, ◌++◌, Result, Ok, Err}
use Rattle.dm_schema.specs.Names.{Text}
use Rattle.dm_dump.specs.declared.fault.DumpFault.{DumpFault}
use Rattle.dm_dump.specs.declared.fault.DumpFault.TheVariants as dump
use Rattle.dm_snapshot.specs.declared.snapshot.SnapshotFault.{SnapshotFault}
use Rattle.dm_snapshot.specs.declared.snapshot.SnapshotFault.TheVariants as fault
use Rattle.dm_snapshot.specs.declared.snapshot.RowsFile.{RowsFile}

-- files before others, unless there is a fault among those
abbrev pub with_front : List RowsFile → Result (List RowsFile) SnapshotFault → Result (List RowsFile) SnapshotFault
with_front made (Ok rest) = Ok (made ++ rest)
with_front made (Err e) = Err e

-- the fault, with the name of its file, or there was no memory
abbrev pub IsRefusal : Text → DumpFault → SnapshotFault → Type 0
IsRefusal name dump.Memory answer = answer ≡ fault.Memory
IsRefusal name (dump.At at cause) fault.Memory = ⊤
IsRefusal name (dump.At at cause) (fault.Dump file other why) = fault.Dump file other why ≡ fault.Dump name at cause
