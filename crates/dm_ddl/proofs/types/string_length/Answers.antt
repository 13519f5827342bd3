use Rattle.std.proofs.Common.{arith}
use Rattle.dm_ddl.proofs.Ranges.{string_few}
use Rattle.dm_ddl.proofs.types.string_length.Goals as goal

pub overflow_cast-result : goal.overflow_cast-result
overflow_cast-result c = let few = string_few c.args.text.now c.args.item.now c.requires in omega (arith, few, c.number_or.ensures)
