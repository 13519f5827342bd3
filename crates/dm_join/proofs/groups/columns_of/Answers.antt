use Rattle.std.proofs.Common.{ap, ◌∙◌, ◌++◌}
use Rattle.dm_join.proofs.JoinFormed.{none_is_formed, one_more_formed, one_more_columns}
use Rattle.dm_join.proofs.groups.columns_of.Goals as goal

pub loop-schema-init : goal.loop-schema-init
loop-schema-init c = record { columns = c.new-columns.ensures.items; formed = none_is_formed }

pub loop-schema-preserved : goal.loop-schema-preserved
loop-schema-preserved c = record {
  columns =
      c.in_ok-push_copies.ensures
      ∙ ap (λ l. c.loop-schema.columns.items ++ l) c.columns.ensures.columns
      ∙ one_more_columns c.args.schemas.now c.loop-schema.schema-index c.schema-item.result c.loop-schema.columns.items c.loop-schema-test.true c.schema-item.is c.loop-schema.invariant.columns;
  formed = one_more_formed c.args.schemas.now c.loop-schema.schema-index c.schema-item.result c.loop-schema-test.true c.schema-item.is c.columns.ensures.formed c.loop-schema.invariant.formed;
}
