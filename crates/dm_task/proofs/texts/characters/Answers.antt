use Rattle.std.proofs.Common.{sym, ◌∙◌}
use Rattle.dm_schema.proofs.Texts.{characters_are_counted}
use Rattle.dm_task.proofs.texts.characters.Goals as goal

pub returns : goal.returns
returns c = c.starts.ensures ∙ sym (characters_are_counted c.args.bytes.now)
