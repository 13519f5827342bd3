use Rattle.std.proofs.Common.{◌≡◌, rules, sym, ◌∙◌}
use Rattle.dm_target.specs.Reach.{sets}
use Rattle.dm_target.proofs.Laws.{unset}
use Rattle.dm_target.proofs.call.Call.sets.Goals as goal

pub returns-in-Metas-clause-other : goal.returns-in-Metas-clause-other
returns-in-Metas-clause-other c =
    let value : c.has_name.result ≡ sets c.args.self.now c.args.name.now = search rules in
    λ no before. unset c.args.self.now c.args.name.now before (sym value ∙ no)
