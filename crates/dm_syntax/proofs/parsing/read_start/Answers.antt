use Rattle.std.proofs.Common.{sym, subst, IfOk}
use Rattle.dm_grammar.specs.Grammar.{Grammar}
use Rattle.dm_grammar.specs.Sentence.{IsReading}
use Rattle.dm_syntax.specs.Classes.{in_class}
use Rattle.dm_syntax.proofs.Ready.{head_of_others}
use Rattle.dm_syntax.proofs.parsing.read_start.Goals as goal

pub returns-else-begins_table-2-clause-exact : goal.returns-else-begins_table-2-clause-exact
returns-else-begins_table-2-clause-exact c =
    subst (λ (g : Grammar). IfOk c.read_other_start.result (λ reading. IsReading in_class g c.args.kinds.now reading.roles.items reading.fault))
    (sym (head_of_others c.args.kinds.now (sym c.if-begins_table.ensures) (sym c.if-begins_table-2.ensures))) c.read_other_start.ensures.exact
