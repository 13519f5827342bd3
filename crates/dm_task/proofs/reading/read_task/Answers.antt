use Rattle.std.proofs.Common.{sym}
use Rattle.std.proofs.lemmas.Bool.{false≢true}
use Rattle.toml.specs.View.{table_view}
use Rattle.dm_task.proofs.Documents.{document_read, document_refused}
use Rattle.dm_task.proofs.reading.read_task.Goals as goal

pub returns-in-Ok-clause-task : goal.returns-in-Ok-clause-task
returns-in-Ok-clause-task c =
    document_read c.args.text.now (table_view c.in-Ok.table) c.listed_task.result (sym c.if-is_marked.ensures) c.in-Ok.ensures.ok.0 c.in-Ok.ensures.ok.1 c.listed_task.ensures.task

pub returns-else-is_memory-clause-task : goal.returns-else-is_memory-clause-task
returns-else-is_memory-clause-task c =
    document_refused c.args.text.now c.not_toml-else-is_memory.result (sym c.if-is_marked.ensures) (c.in-Err.ensures.refused (λ memory. false≢true (c.if-is_memory.ensures.1 memory))) c.not_toml-else-is_memory.ensures.task
