use Rattle.dm_schema.specs.Effect.{joined_effect}
use Rattle.dm_alter.proofs.effects.effect_joined.Goals as goal

pub returns : goal.returns
unfolding joined_effect
returns g c = c.after_all.ensures
