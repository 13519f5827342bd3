use Rattle.dm_ddl.proofs.Formed.{default_as}
use Rattle.dm_ddl.proofs.columns.default_in.Goals as goal

pub returns : goal.returns
returns c =
    default_as c.args.text.now c.args.primary.now c.args.item.now c.kind_in.result c.nullable_in-nullable.result c.in_ok-name.name c.rule_in.result
    c.in_ok-name.ensures c.kind_in.ensures.value c.nullable_in-nullable.ensures c.rule_in.ensures
