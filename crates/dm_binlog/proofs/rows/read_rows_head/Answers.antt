use Rattle.std.proofs.Common.{◌∙◌}
use Rattle.dm_binlog.proofs.Heads.{bits_there, second_there, no_count, no_present, no_after, whole_head}
use Rattle.dm_binlog.proofs.rows.read_rows_head.Goals as goal

pub returns-in_err-count : goal.returns-in_err-count
returns-in_err-count c = c.from_residual-in_err-count.ensures ∙ no_count c.args.kind c.in_ok-id.id c.in_ok-_flags._flags c.args.body.now c.in_ok-_extra._extra.now
    c.new-cursor.result c.le.new.self c.le-2.new.self c.version_of.new.cursor
    c.new-cursor.ensures c.in_ok-id.ensures c.in_ok-_flags.ensures c.in_ok-_extra.ensures c.in_err-count.ensures.0

pub returns-in_err-present : goal.returns-in_err-present
returns-in_err-present c = c.from_residual-in_err-present.ensures ∙ no_present c.args.kind c.in_ok-id.id c.in_ok-_flags._flags c.args.body.now c.in_ok-_extra._extra.now
    c.new-cursor.result c.le.new.self c.le-2.new.self c.version_of.new.cursor
    c.new-cursor.ensures c.in_ok-id.ensures c.in_ok-_flags.ensures c.in_ok-_extra.ensures
    c.in_ok-count.count c.lenenc.new.self c.in_ok-count.ensures c.bitmap_length.result c.bitmap_length.ensures c.in_err-present.ensures.0

pub returns-in_err-after : goal.returns-in_err-after
returns-in_err-after c = c.from_residual-in_err-after.ensures ∙ no_after c.args.kind c.in_ok-id.id c.in_ok-_flags._flags c.args.body.now c.in_ok-_extra._extra.now
    c.new-cursor.result c.le.new.self c.le-2.new.self c.version_of.new.cursor
    c.new-cursor.ensures c.in_ok-id.ensures c.in_ok-_flags.ensures c.in_ok-_extra.ensures
    c.in_ok-count.count c.lenenc.new.self c.in_ok-count.ensures c.bitmap_length.result c.bitmap_length.ensures
    c.in_ok-present.present.now c.take.new.self c.in_ok-present.ensures c.in_err-after.ensures

pub both_set-requires-clause-present : goal.both_set-requires-clause-present
both_set-requires-clause-present c = bits_there c.in_ok-count.count c.bitmap_length.result c.lenenc.new.self c.take.new.self c.in_ok-present.present.now c.bitmap_length.ensures c.in_ok-present.ensures

pub both_set-requires-clause-after : goal.both_set-requires-clause-after
both_set-requires-clause-after c =
    second_there c.args.kind c.in_ok-count.count c.take.new.self c.second_bitmap.new.cursor c.in_ok-present.present.now c.in_ok-after.after.now (both_set-requires-clause-present c) c.in_ok-after.ensures

pub returns : goal.returns
returns c =
    whole_head c.args.kind c.in_ok-id.id c.in_ok-_flags._flags c.args.body.now c.in_ok-_extra._extra.now
    c.new-cursor.result c.le.new.self c.le-2.new.self c.version_of.new.cursor
    c.new-cursor.ensures c.in_ok-id.ensures c.in_ok-_flags.ensures c.in_ok-_extra.ensures
    c.in_ok-count.count c.lenenc.new.self c.in_ok-count.ensures c.bitmap_length.result c.bitmap_length.ensures
    c.in_ok-present.present.now c.take.new.self c.in_ok-present.ensures c.in_ok-after.after.now c.second_bitmap.new.cursor c.both_set.result c.place.result c.in_ok-after.ensures c.both_set.ensures c.place.ensures
