use Rattle.std.proofs.Common.{◌≡◌, rules}
use Rattle.dm_encode.specs.Events.{event}
use Rattle.dm_encode.proofs.Bodies.{is_whole}
use Rattle.dm_encode.proofs.events.event.Goals as goal

pub returns-clause-whole : goal.returns-clause-whole
returns-clause-whole c =
    let is : c.extend_from_slice.new.self.items ≡ event c.args.kind c.args.body.now = search rules in
    is_whole c.args.kind c.args.body.now c.extend_from_slice.new.self.items c.requires is
