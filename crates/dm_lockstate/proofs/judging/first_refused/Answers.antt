use Rattle.std.proofs.Common.{sym, ◌∙◌, arith}
use Rattle.dm_lockstate.specs.Points.{offer_of}
use Rattle.dm_lockstate.proofs.Refusals.{passed}
use Rattle.dm_lockstate.proofs.judging.first_refused.Goals as goal

pub loop-column-preserved : goal.loop-column-preserved
loop-column-preserved c = passed (offer_of c.args.offered.now) c.args.point c.args.columns.now c.loop-column.column-index c.column-item.result _ (omega arith)
    c.column-item.is (sym c.in_ok-speaks_against.ensures ∙ c.if-branch.false) c.loop-column.invariant
