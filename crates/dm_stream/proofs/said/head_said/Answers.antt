use Rattle.std.proofs.Common.{◌∙◌, ap, Ok, Err}
use Rattle.dm_syntax.specs.declared.parsing.Extent.TheVariants as extent
use Rattle.dm_syntax.specs.Parsing.{Says}
use Rattle.dm_ddl.specs.Heads.{head_unless}
use Rattle.dm_stream.specs.Sayings.{Ends}
use Rattle.dm_stream.proofs.Heads.{head_says}
use Rattle.dm_stream.proofs.SaidLemmas.{not_memory}
use Rattle.dm_stream.proofs.said.head_said.Goals as goal

pub returns-in-Ok : goal.returns-in-Ok
returns-in-Ok c = λ heads are.
    let q = c.args.query in
    c.statement_said.ensures ∙ head_says heads (record { db = q.db.now; statement = q.statement.now }) (Ok c.in-Ok.head) are c.in-Ok.ensures.exact

pub returns-in-Err-2 : goal.returns-in-Err-2
returns-in-Err-2 c = λ heads are.
    let q = c.args.query in
    ap Ends c.from.ensures
    ∙ head_says heads (record { db = q.db.now; statement = q.statement.now }) (Err c.in-Err.fault) are
    (not_memory (Says extent.Head (head_unless q.statement.now) q.statement.now) c.in-Err.fault c.is_memory.result c.is_memory.ensures c.if-is_memory.false c.in-Err.ensures.exact)
