use Rattle.std.proofs.Common.{Option, ap, ◌∙◌}
use Rattle.dm_schema.specs.declared.table_name.TableName.{TableName}
use Rattle.dm_stmt.specs.Known.{KnownMap}
use Rattle.dm_target.specs.Memory.{content_of}
use Rattle.dm_journal.specs.Carrying.{Performs, known_behind, renewed}
use Rattle.dm_journal.proofs.KnownSchemas.{known_behind_record}
use Rattle.dm_journal.proofs.carrying.carry_out.Goals as goal

pub returns-in-Ok-call-clause-known : goal.returns-in-Ok-call-clause-known
returns-in-Ok-call-clause-known c =
    let performs : Performs c.in-Ok.record c.args.target.now c.call.new.target = c.in-Ok-call.ensures in
    c.in_ok-note-in-Ok-call.ensures
    ∙ ap (λ (table : Option TableName). known_behind table (content_of c.call.new.target) c.args.known.now) c.in_ok-renewed.ensures
    ∙ ap (λ (known : KnownMap). known_behind (renewed c.in-Ok.record) (content_of c.call.new.target) known) c.requires.known
    ∙ known_behind_record c.in-Ok.record (content_of c.args.target.now) (content_of c.call.new.target) performs.done performs.stands_for performs.leaves
