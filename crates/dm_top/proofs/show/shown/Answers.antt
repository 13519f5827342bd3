use Rattle.std.proofs.Common.{Ok}
use Rattle.dm_target.specs.Memory.{calls_of, content_of}
use Rattle.dm_top.proofs.Showing.{shows_records}
use Rattle.dm_top.proofs.show.shown.Goals as goal

pub returns-in_ok-show_text-in-Ok-clause-told : goal.returns-in_ok-show_text-in-Ok-clause-told
returns-in_ok-show_text-in-Ok-clause-told c =
    shows_records c.args.bytes.now (Ok c.in_ok-show_text-in-Ok.field-0) c.if-bytes.false (record {
      content = content_of c.in-Ok.content.target;
      calls = calls_of c.in-Ok.content.target;
      size = c.in-Ok.content.whole;
      holds = c.in-Ok.ensures.holds;
      says = c.in_ok-show_text-in-Ok.ensures;
    })
