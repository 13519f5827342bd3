-- Files with the dumps that they are.
use Rattle.std.specs.Prelude.{◌≡◌, ⊤, List, map, Result, Ok, Err, MatchBool}
use Rattle.std.specs.Global.{Vec}
use Rattle.dm_schema.specs.Layout.{Layout}
use Rattle.dm_dump.specs.declared.fault.DumpFault.{DumpFault}
use Rattle.dm_dump.specs.Dumps.{IsDump}
use Rattle.dm_report.specs.declared.status.Status.{Status}
use Rattle.dm_top.specs.declared.sources.Source.{Source}
use Rattle.dm_top.specs.Reading.{Named}
use Rattle.dm_top.specs.Rows.{Said}
use Rattle.dm_top.specs.Load.{bad_dump, ReadsDumps}
use Rattle.dm_top.specs.Top.{is_memory}

abbrev pub said_in : Source → Said
said_in s = record { text = s.file.bytes.items; dump = s.dump }

-- what the sources say
abbrev pub said_of : List Source → List Said
said_of sources = map said_in sources

abbrev pub schemas_of : List Said → List Layout
schemas_of said = map (λ s. s.dump.schema) said

-- What a file says was read, or its first fault; memory may run out.
abbrev pub ReadsSource : Named → Result Source Status → Type 0
ReadsSource file (Ok source) = (source.file.bytes.items ≡ file.1) × IsDump file.1 (Ok source.dump)
ReadsSource file (Err s) = MatchBool (is_memory s) ⊤ ((f : DumpFault) × IsDump file.1 (Err f) × (s ≡ bad_dump file.0 f))

-- What files say was read, or how it ends at the first that is no dump.
abbrev pub ReadsSources : List Named → Result (Vec Source) Status → Type 0
ReadsSources files (Ok sources) = ReadsDumps files (Ok (said_of sources.items))
ReadsSources files (Err s) = MatchBool (is_memory s) ⊤ (ReadsDumps files (Err s))
