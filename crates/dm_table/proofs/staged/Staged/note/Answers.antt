use Rattle.std.proofs.Common.{ap, refl, ◌∙◌}
use Rattle.std.proofs.lemmas.Result.{on_ok_weaker}
use Rattle.dm_table.specs.Staging.{Staging, rows_behind, changed}
use Rattle.dm_table.proofs.Behind.{noted}
use Rattle.dm_table.proofs.staged.Staged.note.Goals as goal

pub returns-clause-behind : goal.returns-clause-behind
returns-clause-behind c =
    on_ok_weaker c.put.result
    (λ put. noted (record { base = c.self.inside.base.now; changes = c.self.inside.changes }) (record { base = c.self.inside.base.now; changes = c.put.new.self }) c.args.key c.args.change refl put
    ∙ ap (λ (s : Staging). changed (rows_behind s) c.args.key c.args.change) c.self.view_is)
    c.put.ensures
