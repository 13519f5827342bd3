use Rattle.std.proofs.Common.{◌<◌, arith, length, take}
use Rattle.dm_stream.proofs.FileLemmas.{event_within, kept_next, next_seen}
use Rattle.dm_stream.proofs.file.OpenFile.next_event.Goals as goal

pub said_of-requires-clause-within : goal.said_of-requires-clause-within
said_of-requires-clause-within c =
    let it = c.self.inside in
    let there : it.place < length it.events.items = omega (arith, it.events.ok.0) in
    event_within it.file.bytes.now it.events.items it.place it.table_maps c.index-event.result.now c.self.invariant there c.index-event.ensures

pub invariant_of-self-2 : goal.invariant_of-self-2
invariant_of-self-2 c =
    let it = c.self.inside in
    let there : it.place < length it.events.items = omega (arith, it.events.ok.0) in
    kept_next it.file.bytes.now it.events.items it.place it.table_maps c.said_of.new.table_maps c.index-event.result.now c.self.invariant there c.index-event.ensures c.in_ok-said.ensures.notes

pub returns-clause-gives : goal.returns-clause-gives
returns-clause-gives c = λ heads are.
    let it = c.self.inside in
    let there : it.place < length it.events.items = omega (arith, it.events.ok.0) in
    next_seen heads it.file it.events.items it.place it.fault c.index-event.result.now c.in_ok-said.said c.args.self.now there c.index-event.ensures c.self.view_is
    (c.in_ok-said.ensures.says heads (take it.place it.events.items) are c.self.invariant.last)
