use Rattle.std.proofs.Common.{sym, ◌∙◌}
use Rattle.dm_track.proofs.FitLaws.{read_fits}
use Rattle.dm_track.proofs.ReadLaws.{never_none}
use Rattle.dm_track.proofs.changing.change_at.Goals as goal

pub unreachable-requires-in-None : goal.unreachable-requires-in-None
unreachable-requires-in-None c =
    never_none c.args.inputs.now.files c.as_slice-files.result.now c.args.inputs.now.histories c.histories.result.now c.args.shard c.from.result c.args.number c.in-Some.history.now
    (c.as_slice-files.ensures ∙ c.files.ensures) c.histories.ensures.histories c.from.ensures c.histories.ensures.kept c.in-Some.ensures.value c.requires (sym c.in_ok-change.ensures ∙ c.in-None.is)

pub returns-clause-fits : goal.returns-clause-fits
returns-clause-fits c =
    read_fits c.as_slice-files.result.now c.args.inputs.now.histories c.histories.result.now c.args.shard c.from.result c.args.number c.in-Some.history.now c.in-Some-2.change
    c.histories.ensures.histories c.from.ensures c.in-Some.ensures.value (sym c.in_ok-change.ensures ∙ c.in-Some-2.is)
