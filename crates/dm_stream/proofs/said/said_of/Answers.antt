use Rattle.std.proofs.Common.{◌∙◌, sym}
use Rattle.dm_stream.proofs.SaidLemmas.{query_says, rows_say}
use Rattle.dm_stream.proofs.said.said_of.Goals as goal

pub returns-in-2-clause-says : goal.returns-in-2-clause-says
returns-in-2-clause-says c = λ heads before are last.
    query_says heads c.args.file.now c.body_of.result.now before c.args.event c.query_said.result c.in-2.is c.body_of.ensures (c.query_said.ensures heads are)

pub returns-in_default-clause-says : goal.returns-in_default-clause-says
returns-in_default-clause-says c = λ heads before are last.
    rows_say heads c.args.file.now before c.args.event c.rows_said.result (sym c.is_rows.ensures ∙ c.if-is_rows.true) (c.rows_said.ensures before last)
