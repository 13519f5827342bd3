use Rattle.std.proofs.Common.{ap, sym, ◌∙◌}
use Rattle.std.specs.FinMap as fin
use Rattle.dm_table.specs.Staging.{Staging, rows_behind}
use Rattle.dm_table.proofs.Behind.{left_behind, kept_behind}
use Rattle.dm_table.proofs.staged.Staged.get.Goals as goal

pub returns-in-Some : goal.returns-in-Some
returns-in-Some c =
    c.as_ref.ensures.value ∙ sym (left_behind (record { base = c.self.inside.base.now; changes = c.self.inside.changes }) c.args.key.now c.in-Some.change.now (sym c.in-Some.ensures))
    ∙ ap (λ (s : Staging). fin.get (rows_behind s) c.args.key.now) c.self.view_is

pub returns-in-None : goal.returns-in-None
returns-in-None c =
    c.get-in-None.ensures ∙ sym (kept_behind (record { base = c.self.inside.base.now; changes = c.self.inside.changes }) c.args.key.now (sym c.in-None.ensures))
    ∙ ap (λ (s : Staging). fin.get (rows_behind s) c.args.key.now) c.self.view_is
