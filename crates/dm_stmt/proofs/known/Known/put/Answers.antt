use Rattle.std.proofs.Common.{ap, ◌∙◌}
use Rattle.std.specs.FinMap as fin
use Rattle.dm_stmt.specs.Known.{KnownMap}
use Rattle.dm_stmt.proofs.SchemaMaps.{inserted}
use Rattle.dm_stmt.proofs.known.Known.put.Goals as goal

pub returns-clause-put : goal.returns-clause-put
returns-clause-put c =
    inserted c.self.inside.schemas c.insert.new.self c.args.table.now c.in_ok-copy.field-0 c.args.schema.now c.in_ok-schema.schema c.in_ok-copy.ensures c.in_ok-schema.ensures c.in_ok-insert.ensures.updates
    ∙ ap (λ (m : KnownMap). fin.insert m c.args.table.now c.args.schema.now) c.self.view_is
