use Rattle.dm_schema.specs.Effect.{ddl_effect}
use Rattle.dm_alter.proofs.effects.effect.Goals as goal

pub returns : goal.returns
unfolding ddl_effect
returns g c = c.after_all.ensures
