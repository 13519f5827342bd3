-- What the program says of events, as the definitions have it.
use Rattle.std.specs.Prelude.{◌<◌, ◌^◌, length}
use Rattle.dm_stream.specs.declared.event.LogFile as program_file
use Rattle.dm_stream.specs.declared.event.Said as program_said
use Rattle.dm_stream.specs.declared.event.Said.TheVariants as program
use Rattle.dm_stream.specs.declared.event.Logged as program_logged
use Rattle.dm_stream.specs.Sayings.{Said, Nothing, Ends, Rows, Statement}
use Rattle.dm_stream.specs.Logs.{LogFile, Logged}

abbrev pub seen_file : program_file.LogFile → LogFile
seen_file file = record { number = file.number; bytes = file.bytes.now }

-- places in the file are numbers of 32 bits
abbrev pub IsShort : program_file.LogFile → Type 0
IsShort file = length file.bytes.now < 2 ^ 32

abbrev pub seen_said : program_said.Said → Said
seen_said program.Nothing = Nothing
seen_said (program.Ends cause) = Ends cause
seen_said (program.Rows e map head) = Rows e map head
seen_said (program.Statement head db text) = Statement head db.now text.now

abbrev pub seen : program_logged.Logged → Logged
seen logged = record { file = seen_file logged.file; event = logged.event; said = seen_said logged.said }
