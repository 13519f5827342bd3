use Rattle.std.proofs.Common.{sym, subst, arith}
use Rattle.std.specs.Str.{IsUtf8}
use Rattle.std.proofs.lemmas.List.Elements.{All-get_or}
use Rattle.dm_top.proofs.files.read_files.Goals as goal

pub read_next-requires : goal.read_next-requires
read_next-requires g c = subst IsUtf8 (sym c.name-item.is) (All-get_or IsUtf8 c.args.names.now c.loop-name.name-index c.name-item.result (omega arith) c.requires)
