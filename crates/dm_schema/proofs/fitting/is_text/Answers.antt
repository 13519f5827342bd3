use Rattle.std.proofs.Common.{◌∙◌}
use Rattle.dm_schema.proofs.Texts.{told_by}
use Rattle.dm_schema.proofs.fitting.is_text.Goals as goal

pub returns : goal.returns
returns c = c.is_ok.ensures.value ∙ told_by c.args.bytes.now _ _ c.from_utf8.result c.from_utf8.ensures.cases
