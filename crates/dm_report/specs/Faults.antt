-- How a command ends: its exit status, and the line that is printed where it ends by a fault.
use Rattle.std.specs.Prelude.{ℕ, Bool, not, ◌==◌, List, [], ◌∷◌, ◌++◌, length, codes, if◌then◌else◌}
use Rattle.std.specs.List.{flat_map}
use Rattle.std.specs.Fmt.{decimal}
use Rattle.dm_join.specs.declared.no_join.JoinCause.{JoinCause}
use Rattle.dm_join.specs.declared.no_join.JoinCause.TheVariants as join_cause
use Rattle.dm_task.specs.declared.fault.TaskCause.{TaskCause}
use Rattle.dm_task.specs.declared.fault.TaskCause.TheVariants as task_cause
use Rattle.dm_dump.specs.declared.fault.DumpCause.{DumpCause}
use Rattle.dm_dump.specs.declared.fault.DumpCause.TheVariants as dump_cause
use Rattle.dm_text.specs.Names.{quoted, table_name_text}
use Rattle.dm_report.specs.declared.status.Status.{Status}
use Rattle.dm_report.specs.declared.status.Status.TheVariants as status
use Rattle.dm_report.specs.declared.status.Which.{Which}
use Rattle.dm_report.specs.declared.status.Which.TheVariants as which

-- the exit status of the program
abbrev pub code_of : Status → ℕ
code_of status.Done = 0
code_of status.Usage = 1
code_of (status.Task path cause) = 2
code_of status.ReadFault = 4
code_of status.WriteFault = 5
code_of status.TargetFault = 6
code_of status.Memory = 7
code_of (status.JournalBad at) = 8
code_of (status.Limit which) = 9
code_of status.Unlawful = 10
code_of (status.Missing name) = 11
code_of (status.Dump file at cause) = 12
code_of (status.First table column cause) = 13

-- the words of causes

abbrev pub task_cause_text : TaskCause → List ℕ
task_cause_text task_cause.NotToml = codes "NotToml"
task_cause_text task_cause.Unknown = codes "Unknown"
task_cause_text task_cause.Absent = codes "Absent"
task_cause_text task_cause.Kind = codes "Kind"
task_cause_text task_cause.Range = codes "Range"
task_cause_text task_cause.Repeated = codes "Repeated"
task_cause_text task_cause.Shards = codes "Shards"
task_cause_text task_cause.Targets = codes "Targets"

abbrev pub dump_cause_text : DumpCause → List ℕ
dump_cause_text dump_cause.Lex = codes "Lex"
dump_cause_text dump_cause.Statement = codes "Statement"
dump_cause_text dump_cause.SecondCreate = codes "SecondCreate"
dump_cause_text dump_cause.Table = codes "Table"
dump_cause_text dump_cause.Columns = codes "Columns"
dump_cause_text dump_cause.Count = codes "Count"
dump_cause_text dump_cause.Unfit = codes "Unfit"
dump_cause_text dump_cause.NoCreate = codes "NoCreate"
dump_cause_text dump_cause.Create = codes "Create"

abbrev pub join_cause_text : JoinCause → List ℕ
join_cause_text join_cause.Primary = codes "Primary"
join_cause_text join_cause.Family = codes "Family"
join_cause_text join_cause.KindDiffers = codes "KindDiffers"
join_cause_text join_cause.DefaultDiffers = codes "DefaultDiffers"
join_cause_text join_cause.MissingNoFill = codes "MissingNoFill"

abbrev pub which_text : Which → List ℕ
which_text which.Files = codes "Files"
which_text which.Items = codes "Items"
which_text which.Values = codes "Values"
which_text which.Journal = codes "Journal"

-- Lines.

-- a word behind a blank
abbrev pub behind_blank : List ℕ → List ℕ
behind_blank word = 32 ∷ word

abbrev pub line_of : List (List ℕ) → List ℕ
line_of words = codes "fault" ++ flat_map behind_blank words ++ codes "\n"

-- the words of a status's line; Done has no fault, and want of memory and a sink that fails leave no line
abbrev pub fault_words : Status → List (List ℕ)
fault_words status.Done = []
fault_words status.Usage = codes "Usage" ∷ []
fault_words (status.Task path cause) = codes "Task" ∷ path ∷ task_cause_text cause ∷ []
fault_words status.ReadFault = codes "ReadFault" ∷ []
fault_words status.WriteFault = []
fault_words status.Memory = []
fault_words status.TargetFault = codes "TargetFault" ∷ []
fault_words (status.JournalBad at) = codes "JournalBad" ∷ decimal at ∷ []
fault_words (status.Limit which) = codes "Limit" ∷ which_text which ∷ []
fault_words status.Unlawful = codes "Unlawful" ∷ []
fault_words (status.Missing name) = codes "Missing" ∷ name ∷ []
fault_words (status.Dump file at cause) = codes "Dump" ∷ file ∷ decimal at ∷ dump_cause_text cause ∷ []
fault_words (status.First table column cause) = codes "First" ∷ table_name_text table ∷ codes "NoJoin" ∷ quoted column ∷ join_cause_text cause ∷ []

abbrev pub has_line : Status → Bool
has_line s = not (length (fault_words s) == 0)

-- the line of a fault, empty where there is none
abbrev pub fault_line : Status → List ℕ
fault_line s = if has_line s then line_of (fault_words s) else []
