-- What the program says of a front.
use Rattle.dm_binlog.specs.declared.front.Front.{Front}
use Rattle.dm_binlog.specs.declared.front.Front.TheVariants as found
use Rattle.dm_binlog.specs.Framing as framing

abbrev pub seen : Front → framing.Front
seen (found.Whole kind size) = framing.Whole kind size
seen found.Tail = framing.Tail
seen found.Damage = framing.Damage
