use Rattle.std.proofs.Common.{◌≡◌, true, take}
use Rattle.dm_join.specs.Groups.{columns_of, are_formed}
use Rattle.dm_join.proofs.groups.columns_of.Given as goal

abbrev pub invariant-loop-schema : goal.invariant-loop-schema
invariant-loop-schema l = record {
  columns : l.columns.items ≡ columns_of (take l.schema-index l.schemas);
  formed : are_formed (take l.schema-index l.schemas) ≡ true;
}
