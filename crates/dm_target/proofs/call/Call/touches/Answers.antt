use Rattle.std.proofs.Common.{◌≡◌, rules, sym, ◌∙◌}
use Rattle.dm_target.specs.Reach.{touches}
use Rattle.dm_target.proofs.Laws.{untouched}
use Rattle.dm_target.proofs.call.Call.touches.Goals as goal

pub returns-in-Create-clause-other : goal.returns-in-Create-clause-other
returns-in-Create-clause-other c =
    let value : c.is_eq.result ≡ touches c.args.self.now c.args.table.now = search rules in
    λ no before. untouched c.args.self.now c.args.table.now before (sym value ∙ no)
