use Rattle.std.proofs.Common.{subst, sym}
use Rattle.std.specs.Prelude.{All, IsUtf8}
use Rattle.std.specs.List.{flat_map}
use Rattle.std.proofs.lemmas.List.Elements.{All-from_recursion}
use Rattle.std.proofs.lemmas.Result.{IfOk-weaker}
use Rattle.dm_task.specs.TaskFile.{files_of, source_files}
use Rattle.dm_task.proofs.reading.task_in.Goals as goal

pub returns-clause-text : goal.returns-clause-text
returns-clause-text c =
    IfOk-weaker c.counted.result _ _ (λ counted same. subst (λ task. All IsUtf8 (files_of task)) (sym same) (All-from_recursion IsUtf8 (flat_map source_files c.in_ok-sources.sources) c.in_ok-sources.ensures.texts)) c.counted.ensures.same
