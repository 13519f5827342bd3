use Rattle.std.proofs.Common.{rules}
use Rattle.dm_schema.specs.Kinds.{is_column}
use Rattle.dm_encode.specs.Kinds.{has_map}
use Rattle.dm_encode.proofs.Rests.{rest_all}
use Rattle.dm_encode.proofs.maps.+push_all_metadata.Goals as goal

pub push_all_metadata-requires : goal.push_all_metadata-requires
push_all_metadata-requires t c = (search rules, (rest_all is_column c.args.columns.now c.requires.columns, rest_all (λ d. has_map d.kind) c.args.columns.now c.requires.maps))
