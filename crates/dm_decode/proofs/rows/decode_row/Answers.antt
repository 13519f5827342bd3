use Rattle.std.proofs.Common.{◌≡◌, ◌∙◌, Err, sym, ap, arith, length}
use Rattle.std.proofs.lemmas.Result.{err_from_is_err_and}
use Rattle.dm_binlog.specs.Bodies.{bitmap_length}
use Rattle.dm_decode.specs.declared.fault.RowFault.TheVariants as fault
use Rattle.dm_decode.proofs.Laws.{row_is}
use Rattle.dm_decode.proofs.Whole.{no_row, other_type, too_short, values_there, whole_row, wrong_count}
use Rattle.dm_decode.proofs.rows.decode_row.Goals as goal

pub returns-then-columns-maps : goal.returns-then-columns-maps
returns-then-columns-maps c =
    wrong_count c.args.map.now.columns c.args.schema.now c.args.bytes.now (λ same. c.if-columns-maps.true (ap length c.columns-columns.ensures.columns ∙ sym same ∙ ap length (sym c.as_slice-maps.ensures)))

pub returns-in-Some : goal.returns-in-Some
returns-in-Some c =
    let same : length c.args.map.now.columns ≡ length c.args.schema.now.columns = ap length (sym c.as_slice-maps.ensures) ∙ sym c.if-columns-maps.false ∙ ap length c.columns-columns.ensures.columns in
    let found = rw (c.columns-columns.ensures.columns, c.as_slice-maps.ensures) at c.in-Some.ensures in
    ap (λ n. Err (fault.TypeDiffers n)) c.in_ok-column.ensures ∙ other_type c.args.map.now.columns c.args.schema.now c.args.bytes.now c.in-Some.column.now same found

pub returns-in_default-take : goal.returns-in_default-take
returns-in_default-take c =
    let same : length c.args.map.now.columns ≡ length c.args.schema.now.columns = ap length (sym c.as_slice-maps.ensures) ∙ sym c.if-columns-maps.false ∙ ap length c.columns-columns.ensures.columns in
    let none = rw (c.columns-columns.ensures.columns, c.as_slice-maps.ensures) at c.in_default.ensures in
    too_short c.args.map.now.columns c.args.schema.now c.args.bytes.now c.bitmap_length.result c.new-cursor.result same none (c.bitmap_length.ensures ∙ ap (λ columns. bitmap_length (length columns)) c.columns-columns.ensures.columns) c.new-cursor.ensures c.in_default-take.ensures.0

pub returns-in_err-row : goal.returns-in_err-row
returns-in_err-row c =
    let same : length c.args.map.now.columns ≡ length c.args.schema.now.columns = ap length (sym c.as_slice-maps.ensures) ∙ sym c.if-columns-maps.false ∙ ap length c.columns-columns.ensures.columns in
    let none = rw (c.columns-columns.ensures.columns, c.as_slice-maps.ensures) at c.in_default.ensures in
    let row = values_there c.args.map.now.columns c.args.schema.now c.args.bytes.now c.bitmap_length.result c.new-cursor.result c.take.new.self c.in-Some-take.nulls.now same none (c.bitmap_length.ensures ∙ ap (λ columns. bitmap_length (length columns)) c.columns-columns.ensures.columns) c.new-cursor.ensures c.in-Some-take.ensures in
    let told = rw (c.columns-columns.ensures.columns, c.as_slice-maps.ensures) at c.in_err-row.ensures in
    let p = err_from_is_err_and c.from_residual-in_err-row.result c.from_residual-in_err-row.ensures.1 in
    no_row _ _ c.from_residual-in_err-row.result c.in_err-row.field-0.0 row told (p.1 ∙ ap Err p.2)

pub overflow_cast-result : goal.overflow_cast-result
overflow_cast-result c =
    let same : length c.args.map.now.columns ≡ length c.args.schema.now.columns = ap length (sym c.as_slice-maps.ensures) ∙ sym c.if-columns-maps.false ∙ ap length c.columns-columns.ensures.columns in
    let none = rw (c.columns-columns.ensures.columns, c.as_slice-maps.ensures) at c.in_default.ensures in
    let row = values_there c.args.map.now.columns c.args.schema.now c.args.bytes.now c.bitmap_length.result c.new-cursor.result c.take.new.self c.in-Some-take.nulls.now same none (c.bitmap_length.ensures ∙ ap (λ columns. bitmap_length (length columns)) c.columns-columns.ensures.columns) c.new-cursor.ensures c.in-Some-take.ensures in
    let told = rw (c.columns-columns.ensures.columns, c.as_slice-maps.ensures) at c.in_ok-row.ensures in
    let is = row_is c.args.map.now.columns c.args.schema.now c.args.bytes.now c.in_ok-row.row c.place.result (sym (whole_row _ _ c.in_ok-row.row c.values_of.new.cursor c.place.result row told c.place.ensures)) in
    omega (arith, is.2, c.requires)

pub returns : goal.returns
returns c =
    let same : length c.args.map.now.columns ≡ length c.args.schema.now.columns = ap length (sym c.as_slice-maps.ensures) ∙ sym c.if-columns-maps.false ∙ ap length c.columns-columns.ensures.columns in
    let none = rw (c.columns-columns.ensures.columns, c.as_slice-maps.ensures) at c.in_default.ensures in
    let row = values_there c.args.map.now.columns c.args.schema.now c.args.bytes.now c.bitmap_length.result c.new-cursor.result c.take.new.self c.in-Some-take.nulls.now same none (c.bitmap_length.ensures ∙ ap (λ columns. bitmap_length (length columns)) c.columns-columns.ensures.columns) c.new-cursor.ensures c.in-Some-take.ensures in
    let told = rw (c.columns-columns.ensures.columns, c.as_slice-maps.ensures) at c.in_ok-row.ensures in
    whole_row _ _ c.in_ok-row.row c.values_of.new.cursor c.place.result row told c.place.ensures
