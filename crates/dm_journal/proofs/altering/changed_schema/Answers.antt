use Rattle.std.proofs.Common.{sym, ◌∙◌}
use Rattle.dm_journal.proofs.FoldedKeys.{unfolded_makes_none, written_are_changes}
use Rattle.dm_journal.proofs.altering.changed_schema.Goals as goal

pub returns-then-not-all_folded-clause-refused : goal.returns-then-not-all_folded-clause-refused
returns-then-not-all_folded-clause-refused c =
    λ is. unfolded_makes_none c.args.changes.now c.args.schema.now c.columns.ensures.formed c.requires (sym c.all_folded.ensures ∙ c.if-not-all_folded.true)

pub effect_joined-requires : goal.effect_joined-requires
effect_joined-requires c = written_are_changes c.args.changes.now c.requires (sym c.all_folded.ensures ∙ c.if-not-all_folded.false)
