use Rattle.std.proofs.Common.{◌∙◌, ap, unwrap_or, Option}
use Rattle.dm_schema.specs.declared.column.DefaultRule.{DefaultRule}
use Rattle.dm_schema.specs.declared.column.DefaultRule.TheVariants as default
use Rattle.dm_syntax.specs.declared.role.TheConstants as role
use Rattle.dm_ddl.specs.Types.{kind_in}
use Rattle.dm_ddl.specs.Columns.{last_default, nullable_in, column_name}
use Rattle.dm_syntax.proofs.Folding.{with_folded}
use Rattle.dm_ddl.proofs.Formed.{rule_formed, column_formed}
use Rattle.dm_ddl.proofs.columns.column_in.Goals as goal

pub returns-clause-formed : goal.returns-clause-formed
returns-clause-formed c =
    let text = c.args.text.now in
    let item = c.args.item.now in
    let rule = c.unwrap_or.ensures ∙ ap (λ (o : Option DefaultRule). unwrap_or o default.Nothing) c.in_ok-rule.ensures in
    column_formed c.in_ok-name.name c.kind_in.result c.nullable_in-nullable.result c.unwrap_or.result
    (rw c.in_ok-name.ensures (with_folded text role.COLUMN_NAME item)) c.kind_in.ensures.kind
    (rw rule (rule_formed text (kind_in text item) (nullable_in c.args.primary.now (column_name text item) item) (last_default item)))
