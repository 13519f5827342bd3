use Rattle.std.proofs.Common.{◌≡◌, length, drop, vec_len}
use Rattle.std.specs.List.{zip}
use Rattle.dm_decode.specs.Rows.{values_from}
use Rattle.dm_decode.proofs.Steps.{with_values}
use Rattle.dm_decode.proofs.rows.values_of.Given as goal

abbrev pub invariant-loop-column : goal.invariant-loop-column
invariant-loop-column l = record {
  counted : vec_len l.values ≡ length l.yielded;
  value : with_values l.values.items (values_from l.nulls (length l.yielded) (drop (length l.yielded) (zip l.columns l.maps)) l.cursor) ≡ values_from l.nulls 0 (zip l.columns l.maps) l.fn.cursor;
}
