-- How the top call ends, and what it puts.
use Rattle.std.specs.Prelude.{◌≡◌, ◌≢◌, ⊤, ℕ, Bool, true, false, ◌||◌, ◌&&◌, not, List, [], ◌∷◌, Option, Some, None, Result, Ok, Err, IfSome, MatchBool, MatchResult}
use Rattle.std.specs.Global.{Vec}
use Rattle.dm_base.specs.Outside.{Files, added, AddsPart}
use Rattle.dm_schema.specs.Names.{Text}
use Rattle.dm_report.specs.declared.status.Status.{Status}
use Rattle.dm_report.specs.declared.status.Status.TheVariants as status
use Rattle.dm_report.specs.Faults.{fault_line}
use Rattle.dm_report.specs.Tasks.{task_text}
use Rattle.dm_task.specs.declared.task.Task.{Task}
use Rattle.dm_task.specs.declared.fault.TaskFault.{TaskFault}
use Rattle.dm_task.specs.declared.fault.TaskFault.TheVariants as task_fault
use Rattle.dm_task.specs.TaskFile.{task_of}
use Rattle.dm_words.specs.declared.order.Order.{Order}
use Rattle.dm_words.specs.declared.order.Order.TheVariants as order
use Rattle.dm_words.specs.Words.{order_of}
use Rattle.dm_top.specs.declared.files.NamedFile.{NamedFile}
use Rattle.dm_top.specs.Reading.{Named, most_bytes, named_of, files_of}
use Rattle.dm_top.specs.Rows.{Said}
use Rattle.dm_top.specs.Load.{ReadsDumps, merged_of}
use Rattle.dm_top.specs.Showing.{Shows}

-- what a command answers before anything is put: a text to print, or how it ends otherwise
abbrev pub Answer : Type 0
Answer = Result Text Status

abbrev pub is_memory : Status → Bool
is_memory status.Memory = true
is_memory s = false

abbrev pub is_read_fault : Status → Bool
is_read_fault status.ReadFault = true
is_read_fault s = false

abbrev pub is_write_fault : Status → Bool
is_write_fault status.WriteFault = true
is_write_fault s = false

abbrev pub is_missing : Status → Bool
is_missing (status.Missing name) = true
is_missing s = false

abbrev pub is_usage : Status → Bool
is_usage status.Usage = true
is_usage s = false

abbrev pub is_done : Status → Bool
is_done status.Done = true
is_done s = false

abbrev pub is_target_fault : Status → Bool
is_target_fault status.TargetFault = true
is_target_fault s = false

-- Memory may run out whatever the words, the files and the journal are. A read may fail where files are read, and the journal
-- where it is loaded.
abbrev pub lacks_memory : Answer → Bool
lacks_memory (Ok text) = false
lacks_memory (Err s) = is_memory s

abbrev pub is_free : Answer → Bool
is_free (Ok text) = false
is_free (Err s) = is_memory s || is_read_fault s

abbrev pub is_free_of_journal : Answer → Bool
is_free_of_journal (Ok text) = false
is_free_of_journal (Err s) = is_memory s || is_target_fault s

-- an answer that a command may give before anything is put
abbrev pub is_refusal : Status → Bool
is_refusal s = not (is_done s || is_write_fault s)

-- how a command may end at what its files or the journal say, once these are read
abbrev pub is_own : Status → Bool
is_own s = is_refusal s && not (is_usage s || is_read_fault s || is_missing s || is_target_fault s)

-- what was read of files of these names, or how a command ends at the first that isn't read
abbrev pub FilesOrEnd : Files → List Text → Result (Vec NamedFile) Status → Type 0
FilesOrEnd files names (Ok read) = files_of files most_bytes names ≡ Ok (named_of read.items)
FilesOrEnd files names (Err s) = MatchBool (is_memory s || is_read_fault s) ⊤ (files_of files most_bytes names ≡ Err s)

-- Commands.

abbrev pub merged_or : Result (List Said) Status → Answer
merged_or (Ok said) = merged_of said
merged_or (Err s) = Err s

-- `load` of these files
abbrev pub Merges : List Named → Answer → Type 0
Merges files answer = (outcome : Result (List Said) Status) × ReadsDumps files outcome × (answer ≡ merged_or outcome)

-- `load` of files of these names
abbrev pub Loads : Files → List Text → Answer → Type 0
Loads files names answer = MatchResult (files_of files most_bytes names) (λ read. Merges read answer) (λ s. answer ≡ Err s)

-- what is printed of a task, or the first fault of its file
abbrev pub checked : Result Task TaskFault → Answer
checked (Ok task) = Ok (task_text task)
checked (Err (task_fault.At path cause)) = Err (status.Task path cause)
checked (Err task_fault.Memory) = Err status.Memory

abbrev pub checked_files : List Named → Answer
checked_files [] = Err status.Usage
checked_files (file ∷ files) = checked (task_of file.1)

-- `check-task` of the file of this name
abbrev pub Checks : Files → Text → Answer → Type 0
Checks files name answer = MatchResult (files_of files most_bytes (name ∷ [])) (λ read. answer ≡ checked_files read) (λ s. answer ≡ Err s)

-- whether an order is one of those that are carried out
abbrev pub is_known : Option Order → Bool
is_known None = false
is_known (Some (order.Load files)) = true
is_known (Some (order.CheckTask file)) = true
is_known (Some (order.Run file limit workers stop_after)) = false
is_known (Some order.Show) = true
is_known (Some (order.Gen number workers)) = false

-- what is told of the outside: the files, and the journal's bytes
pub record Outside : Type 0 where
  pub files : Option Files
  pub journal : Option (List ℕ)

-- The answer to an order, over what is told of the outside.
abbrev pub AnswersOrder : Outside → Option Order → Answer → Type 0
AnswersOrder outside (Some (order.Load names)) answer = IfSome outside.files (λ files. MatchBool (is_free answer) ⊤ (Loads files names answer))
AnswersOrder outside (Some (order.CheckTask name)) answer = IfSome outside.files (λ files. MatchBool (is_free answer) ⊤ (Checks files name answer))
AnswersOrder outside (Some order.Show) answer = IfSome outside.journal (λ bytes. MatchBool (is_free_of_journal answer) ⊤ (Shows bytes answer))
AnswersOrder outside _ answer = MatchBool (lacks_memory answer) ⊤ (answer ≡ Err status.Usage)

-- The answer to these words; memory may run out at any.
abbrev pub AnswersWords : Outside → List Text → Answer → Type 0
AnswersWords outside words answer = MatchBool (lacks_memory answer) ⊤ (AnswersOrder outside (order_of words) answer)

-- What is put.

-- the text, or the fault line
abbrev pub output_of : Answer → Text
output_of (Ok text) = text
output_of (Err s) = fault_line s

abbrev pub status_of : Answer → Status
status_of (Ok text) = status.Done
status_of (Err s) = s

-- How a command with this answer ended, and what was put: nothing where memory ran out; a part of the output where the
-- sink failed; else the whole output, and the status is the answer's.
abbrev pub Ends : Answer → Status → Option Text → Option Text → Type 0
Ends answer ended before now =
    MatchBool (is_memory ended) (now ≡ before)
    (MatchBool (is_write_fault ended) (AddsPart before (output_of answer) now)
    ((ended ≡ status_of answer) × (now ≡ added before (output_of answer))))

-- What the top call does with these words: there is an answer to them, and it ended so.
pub record Runs (words : List Text) (outside : Outside) (ended : Status) (before now : Option Text) : Type 0 where
  pub answer : Answer
  pub told : AnswersWords outside words answer
  pub usage : MatchBool (is_known (order_of words)) (answer ≢ Err status.Usage) (MatchBool (lacks_memory answer) ⊤ (answer ≡ Err status.Usage))
  pub put : Ends answer ended before now
