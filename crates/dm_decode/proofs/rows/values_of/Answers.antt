use Rattle.std.proofs.Common.{Ok, Err, ◌∙◌, sym, ap, arith, length}
use Rattle.std.proofs.lemmas.Slice.Zip.{zip_turn, zip_end, length-zip}
use Rattle.std.proofs.lemmas.List.{length_push}
use Rattle.std.proofs.lemmas.Result.{err_from_is_err_and}
use Rattle.dm_binlog.specs.Bodies.{is_set}
use Rattle.dm_decode.proofs.Steps.{bad_row, column_kind, last_value, next_value, place_at}
use Rattle.dm_decode.proofs.rows.values_of.Goals as goal

pub value_at-requires : goal.value_at-requires
value_at-requires c =
    let t = zip_turn c.args.columns.now c.args.maps.now c.loop-column.yielded c.into_iter-column-iterator.result c.loop-column.column-iterator c.next.new.self c.next.result (cc) (cc) c.loop-column.yielded_by (c.in-Some.column, c.in-Some.map) c.in-Some.is c.next.ensures.steps in
    column_kind c.args.columns.now _ c.in-Some.column.now c.requires.columns t.0 (t.2 c.in-Some.column.now)

pub returns-in_err-value_at : goal.returns-in_err-value_at
returns-in_err-value_at c =
    let t = zip_turn c.args.columns.now c.args.maps.now c.loop-column.yielded c.into_iter-column-iterator.result c.loop-column.column-iterator c.next.new.self c.next.result (cc) (cc) c.loop-column.yielded_by (c.in-Some.column, c.in-Some.map) c.in-Some.is c.next.ensures.steps in
    let at = place_at c.args.columns.now c.args.maps.now _ c.in-Some.column.now c.in-Some.map.now t in
    let p = err_from_is_err_and c.from_residual-in_err-value_at.result c.from_residual-in_err-value_at.ensures.1 in
    bad_row c.args.nulls.now (length c.loop-column.yielded) _ (c.in-Some.column.now, c.in-Some.map.now) c.is_set-is_null.result c.loop-column.values.items c.in_err-value_at.field-0.0 c.loop-column.cursor _ _ _
    at.0 at.1 (c.is_set-is_null.ensures ∙ ap (is_set c.args.nulls.now) (c.len.ensures ∙ c.loop-column.invariant.counted)) c.in_err-value_at.ensures (p.1 ∙ ap Err p.2) c.loop-column.invariant.value

pub loop-column-preserved : goal.loop-column-preserved
loop-column-preserved c =
    let t = zip_turn c.args.columns.now c.args.maps.now c.loop-column.yielded c.into_iter-column-iterator.result c.loop-column.column-iterator c.next.new.self c.next.result (cc) (cc) c.loop-column.yielded_by (c.in-Some.column, c.in-Some.map) c.in-Some.is c.next.ensures.steps in
    let at = place_at c.args.columns.now c.args.maps.now _ c.in-Some.column.now c.in-Some.map.now t in
    let more = length_push c.loop-column.yielded (c.in-Some.column, c.in-Some.map) in
    record {
      counted = omega (arith, more, c.in_ok-push.ensures.len, c.loop-column.invariant.counted);
      value = rw more (next_value c.args.nulls.now (length c.loop-column.yielded) _ (c.in-Some.column.now, c.in-Some.map.now) c.is_set-is_null.result c.loop-column.values.items c.push.new.self.items c.in_ok-value_at.field-0 c.loop-column.cursor _ _
          at.0 at.1 (c.is_set-is_null.ensures ∙ ap (is_set c.args.nulls.now) (c.len.ensures ∙ c.loop-column.invariant.counted)) c.in_ok-value_at.ensures c.in_ok-push.ensures.items c.loop-column.invariant.value);
    }

pub returns : goal.returns
returns c =
    let e = zip_end c.args.columns.now c.args.maps.now c.loop-column.yielded c.into_iter-column-iterator.result c.loop-column.column-iterator c.next.new.self c.next.result (cc) (cc) c.loop-column.yielded_by c.in-None.is c.next.ensures.steps in
    let end = length-zip c.args.columns.now c.args.maps.now in
    last_value c.args.nulls.now (length c.loop-column.yielded) _ c.loop-column.values.items c.loop-column.cursor _ (omega (arith, e, end)) c.loop-column.invariant.value ∙ ap (λ row. Ok (row, c.loop-column.cursor)) (sym c.new.ensures)
