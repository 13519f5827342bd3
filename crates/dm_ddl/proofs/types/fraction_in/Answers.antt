use Rattle.std.proofs.Common.{arith}
use Rattle.dm_ddl.proofs.Ranges.{fraction_few}
use Rattle.dm_ddl.proofs.types.fraction_in.Goals as goal

pub overflow_cast-result : goal.overflow_cast-result
overflow_cast-result c = let few = fraction_few c.args.text.now c.args.item.now c.requires in omega (arith, few, c.number_or.ensures)
