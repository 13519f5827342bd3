use Rattle.std.proofs.Common.{◌∙◌}
use Rattle.dm_table.proofs.Formed.{ordered_are_columns}
use Rattle.dm_table.proofs.altering.refuse_unfit.Goals as goal

pub refuse_unfit_among-requires : goal.refuse_unfit_among-requires
refuse_unfit_among-requires c = ordered_are_columns c.args.after.now c.columns.result.now c.deref.result.now c.columns.ensures.formed c.columns.ensures.columns (c.deref.ensures.value ∙ c.in_ok-columns.ensures)
