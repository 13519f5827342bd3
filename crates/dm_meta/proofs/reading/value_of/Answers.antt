use Rattle.std.proofs.Common.{refl}
use Rattle.dm_meta.proofs.Documents.{value_read, no_value}
use Rattle.dm_meta.proofs.reading.value_of.Goals as goal

pub returns-in-Ok-clause-value : goal.returns-in-Ok-clause-value
returns-in-Ok-clause-value c = value_read c.args.text.now _ c.in-Ok.ensures.ok.0 c.in-Ok.ensures.ok.1

pub returns-in-Err-Invalid-clause-none : goal.returns-in-Err-Invalid-clause-none
returns-in-Err-Invalid-clause-none c = λ not_meta. no_value c.args.text.now (rw c.in-Err-Invalid.field-0-is at c.in-Err-Invalid.ensures.invalid refl)
