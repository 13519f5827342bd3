use Rattle.std.proofs.Common.{◌∙◌, ap}
use Rattle.std.proofs.lemmas.Result.{IfOk-weaker}
use Rattle.dm_stream.specs.Sayings.{query_said}
use Rattle.dm_stream.proofs.said.query_said.Goals as goal

pub returns-in-Some : goal.returns-in-Some
returns-in-Some c = λ heads are. IfOk-weaker c.head_said.result _ _ (λ said h. h ∙ ap (query_said heads) c.in-Some.ensures) (c.head_said.ensures heads are)
