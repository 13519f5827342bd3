-- Texts that are documents, and texts that aren't.
use Rattle.std.proofs.Common.{◌≡◌, Bool, true, false, not, cond, Some, None, refl}
use Rattle.std.specs.Prelude.{IsUtf8}
use Rattle.std.specs.Str.{is_utf8}
use Rattle.std.proofs.lemmas.Str.{IsUtf8-from_is_utf8, is_utf8-from_IsUtf8}
use Rattle.toml.specs.Data.{Members}
use Rattle.toml.specs.Parse.{parse_document}
use Rattle.dm_list.specs.Answer.{Answers}
use Rattle.dm_task.specs.declared.task.Task.{Task}
use Rattle.dm_task.specs.Paths.{Text}
use Rattle.dm_task.specs.Reading.{Read, is_memory}
use Rattle.dm_task.specs.Texts.{is_marked}
use Rattle.dm_task.specs.TaskFile.{document_task, listed_task, not_toml, task_of}

pub document_read : (text : Text) (members : Members) (result : Read Task) → is_marked text ≡ false → IsUtf8 text → parse_document text ≡ Some members
    → Answers is_memory result (listed_task members) → Answers is_memory result (task_of text)
document_read text members result unmarked is_text parsed told = rw (unmarked, is_utf8-from_IsUtf8 text is_text, parsed) told

pub document_refused : (text : Text) (result : Read Task) → is_marked text ≡ false → (IsUtf8 text → parse_document text ≡ None)
    → Answers is_memory result not_toml → Answers is_memory result (task_of text)
document_refused text result unmarked none told = rw unmarked (by (is_utf8 text) (λ yes. none (IsUtf8-from_is_utf8 text yes))) where
  by : (is_text : Bool) → (is_text ≡ true → parse_document text ≡ None) → Answers is_memory result (cond (not is_text) not_toml (document_task (parse_document text)))
  by true h = rw (h refl) told
  by false h = told
