use Rattle.std.proofs.Common.{◌≡◌, drop, fold}
use Rattle.std.specs.List.{filter_map}
use Rattle.dm_schema.specs.Keys.{unique_value, row_keys, with_key}
use Rattle.dm_schema.proofs.keys.put_row_keys.Given as goal

abbrev pub invariant-loop-unique : goal.invariant-loop-unique
invariant-loop-unique l =
    fold with_key l.keys.items (filter_map (unique_value l.schema l.row) (drop l.unique-index l.unique-items))
    ≡ fold with_key l.fn.keys.items (row_keys l.schema l.row)
