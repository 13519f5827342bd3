use Rattle.std.proofs.Common.{Some, ap, ◌∙◌}
use Rattle.dm_target.specs.Maps.{TableMap, TextMap}
use Rattle.dm_target.specs.Memory.{content_of}
use Rattle.dm_target.proofs.Taking.{tried_alike}
use Rattle.dm_target.proofs.Taking as taking
use Rattle.dm_target.proofs.memory.MemoryTarget.tried.Goals as goal

pub returns : goal.returns
returns c = record {
  tried =
      tried_alike c.args.call.now (content_of c.args.self.now) (taking.content_of c.in_ok-copy.field-0 c.in_ok-copy-2.field-0) (Some (content_of c.take_effect.new.self)) c.take_effect.result
      (ap (λ (tables : TableMap). taking.content_of tables c.in_ok-copy-2.field-0) c.in_ok-copy.ensures ∙ ap (λ (texts : TextMap). taking.content_of c.args.self.now.tables texts) c.in_ok-copy-2.ensures)
      c.take_effect.ensures.written c.take_effect.ensures.sound;
}
