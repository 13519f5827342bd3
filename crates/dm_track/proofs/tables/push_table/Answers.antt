use Rattle.std.proofs.Common.{sym, ◌∙◌}
use Rattle.dm_track.proofs.TableLemmas.{one_pushed}
use Rattle.dm_track.proofs.tables.push_table.Goals as goal

pub returns-in_ok-push-in-Some-clause-made : goal.returns-in_ok-push-in-Some-clause-made
returns-in_ok-push-in-Some-clause-made c = λ r are tables.
    one_pushed r c.args.files.now c.args.rules.now c.args.source.now c.args.number c.args.table.now tables c.args.made.now.items c.push.new.self.items c.in-Some.shard c.in_ok-beginning-in-Some.beginning
    (sym c.in-Some.is ∙ c.in_ok-shard.ensures) (c.in_ok-beginning-in-Some.ensures.beginning r are) c.in_ok-push-in-Some.ensures.items
