use Rattle.std.proofs.Common.{◌≡◌, ◌+◌, ◌∙◌, ap, fold, List, Some, None}
use Rattle.dm_schema.specs.Layout.{Layout}
use Rattle.dm_stream.specs.Views.{seen}
use Rattle.dm_walk.specs.declared.track.Track.{Track}
use Rattle.dm_walk.specs.Steps.{images_of}
use Rattle.dm_walk.specs.Walks.{with_images}
use Rattle.dm_walk.proofs.EventRows.{images_added, range_within, with_bad}
use Rattle.dm_walk.proofs.history.History.add_images.Goals as goal

pub add_changes-requires : goal.add_changes-requires
add_changes-requires c = range_within c.args.logged.now.file.bytes.now (c.args.logged.now.event.body + c.args.head.now.rows) c.args.logged.now.event.end c.bytes_between-bytes.result.now c.requires c.bytes_between-bytes.ensures

pub returns-in-Some : goal.returns-in-Some
returns-in-Some c =
    let t : Track = record { own = c.self.inside.own; first = c.self.inside.first; later = c.self.inside.later.items; items = c.self.inside.items.items; fault = c.self.inside.fault } in
    let done = images_added (seen c.args.logged.now) c.args.map_event c.args.table.now c.args.head.now t c.place_kind.result c.latest-schema.result.now c.bytes_between-bytes.result.now c.add_changes.new.items.items c.in_ok-bad.bad
    c.place_kind.ensures (c.latest-schema.ensures ∙ ap (λ (later : List Layout). fold (λ (before after : Layout). after) c.self.inside.first later) c.deref.ensures.value) c.bytes_between-bytes.ensures c.in_ok-bad.ensures.items c.in_ok-bad.ensures.cause in
    let here : with_bad (seen c.args.logged.now) t c.add_changes.new.items.items (Some c.in-Some.cause) ≡ with_images (seen c.args.logged.now) c.args.map_event (images_of (seen c.args.logged.now) c.args.table.now c.args.head.now t) t = rw (c.in-Some.is) at done in
    rw (← c.self.view_is) (c.end.ensures ∙ here)

pub returns-in_default : goal.returns-in_default
returns-in_default c =
    let t : Track = record { own = c.self.inside.own; first = c.self.inside.first; later = c.self.inside.later.items; items = c.self.inside.items.items; fault = c.self.inside.fault } in
    let done = images_added (seen c.args.logged.now) c.args.map_event c.args.table.now c.args.head.now t c.place_kind.result c.latest-schema.result.now c.bytes_between-bytes.result.now c.add_changes.new.items.items c.in_ok-bad.bad
    c.place_kind.ensures (c.latest-schema.ensures ∙ ap (λ (later : List Layout). fold (λ (before after : Layout). after) c.self.inside.first later) c.deref.ensures.value) c.bytes_between-bytes.ensures c.in_ok-bad.ensures.items c.in_ok-bad.ensures.cause in
    let here : with_bad (seen c.args.logged.now) t c.add_changes.new.items.items None ≡ with_images (seen c.args.logged.now) c.args.map_event (images_of (seen c.args.logged.now) c.args.table.now c.args.head.now t) t = rw (c.in_default.is) at done in
    rw (← c.self.view_is) here
