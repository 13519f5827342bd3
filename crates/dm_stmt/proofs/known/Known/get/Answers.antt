use Rattle.std.proofs.Common.{ap, ◌∙◌}
use Rattle.std.specs.FinMap as fin
use Rattle.dm_stmt.specs.Known.{KnownMap}
use Rattle.dm_stmt.proofs.SchemaMaps.{get_seen}
use Rattle.dm_stmt.proofs.known.Known.get.Goals as goal

pub returns : goal.returns
returns c = c.get.ensures.value ∙ get_seen c.self.inside.schemas c.args.table.now ∙ ap (λ (m : KnownMap). fin.get m c.args.table.now) c.self.view_is
