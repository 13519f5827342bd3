-- What `show` answers of a journal's bytes.
use Rattle.std.specs.Prelude.{◌≡◌, ℕ, nat_lt, List, length, Result, Ok, Err, MatchBool}
use Rattle.dm_schema.specs.Names.{Text}
use Rattle.dm_report.specs.declared.status.Status.{Status}
use Rattle.dm_report.specs.declared.status.Status.TheVariants as status
use Rattle.dm_report.specs.declared.status.Which.TheVariants as which
use Rattle.dm_report.specs.Shows.{show_text}
use Rattle.dm_target.specs.Contents.{Content}
use Rattle.dm_target.specs.declared.call.Call.{Call}
use Rattle.dm_journal.specs.Contents.{Holds, IsBadAt}

-- how many bytes a journal has at most
abbrev pub most_journal : ℕ
most_journal = 268435456

-- what the bytes hold, as its text
pub record IsShown (bytes : List ℕ) (text : Text) : Type 0 where
  pub content : Content
  pub calls : List Call
  pub size : ℕ
  pub holds : Holds bytes content calls size
  pub says : text ≡ show_text content

-- a text, or the place of the first record that is bad
abbrev pub ShowsRecords : List ℕ → Result Text Status → Type 0
ShowsRecords bytes (Ok text) = IsShown bytes text
ShowsRecords bytes (Err (status.JournalBad at)) = IsBadAt bytes at
ShowsRecords bytes (Err _) = ⊥

-- `show` of a journal of these bytes
abbrev pub Shows : List ℕ → Result Text Status → Type 0
Shows bytes answer = MatchBool (nat_lt most_journal (length bytes)) (answer ≡ Err (status.Limit which.Journal)) (ShowsRecords bytes answer)
