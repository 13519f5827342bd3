-- The law of creates, whose defaults' bytes are known.
use Rattle.std.proofs.Common.{sym, ap, ◌∙◌}
use Rattle.std.specs.List.{list_all}
use Rattle.dm_reread.specs.Parts.{default_has_bytes}
use Rattle.dm_reread.proofs.Rereading.{create_has_tokens}
use Rattle.dm_reread.proofs.reread.law_of_creates.Goals as goal

pub returns : goal.returns
returns c = create_has_tokens c.args.name.now c.args.schema.now (ap (list_all default_has_bytes) (sym c.columns.ensures.columns) ∙ c.column_bytes.ensures)
