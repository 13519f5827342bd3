use Rattle.std.proofs.Common.{ℕ, List, sym, subst}
use Rattle.dm_base.specs.Outside.{IsFront}
use Rattle.dm_top.specs.Showing.{most_journal}
use Rattle.dm_top.proofs.Showing.{told_of_all}
use Rattle.dm_top.proofs.show.show.Goals as goal

pub returns-in-Ok-clause-told : goal.returns-in-Ok-clause-told
returns-in-Ok-clause-told g c =
    told_of_all (g.J.Journal.bytes c.args.journal.now) c.deref.result.now c.shown.result
    (subst (λ (front : List ℕ). IsFront (g.J.Journal.bytes c.args.journal.now) most_journal front) (sym c.deref.ensures.value) c.in-Ok.ensures.front)
    c.shown.ensures.told
