-- Laws of the histories of a task.
use Rattle.std.specs.Prelude.{◌≡◌, ◌≤◌, List, [], ◌∷◌, Ok}
use Rattle.dm_schema.specs.Layout.{Layout}
use Rattle.dm_schema.specs.Effect.{ddl_effect}
use Rattle.dm_schema.specs.declared.change.Change.{Change}
use Rattle.dm_ddl.specs.Defaults.{default_value_of}
use Rattle.dm_task.specs.declared.task.Shard.{Shard}
use Rattle.dm_track.specs.Histories.{History}
use Rattle.dm_track.specs.Builds.{items_in, shard_name, values_in}

-- a schema is the effect of some changes on another
abbrev pub Follows : Layout → Layout → Type 0
Follows before after = (changes : List Change) × (ddl_effect default_value_of before changes ≡ Ok after)

-- each schema follows from the one before
abbrev pub AreFollowing : Layout → List Layout → Type 0
AreFollowing layout [] = Unit {0}
AreFollowing layout (next ∷ later) = Follows layout next × AreFollowing next later

pub record IsOf (shard : Shard) (h : History) : Type 0 where
  pub name : h.name ≡ shard_name shard
  pub target : h.target ≡ shard.target
  pub follows : AreFollowing h.first h.later

-- each shard has one history, in the shards' order
abbrev pub AreOf : List Shard → List History → Type 0
AreOf [] [] = Unit {0}
AreOf [] (h ∷ hs) = ⊥
AreOf (s ∷ ss) [] = ⊥
AreOf (s ∷ ss) (h ∷ hs) = IsOf s h × AreOf ss hs

abbrev pub AreFew : List History → Type 0
AreFew histories = (items_in histories ≤ 4000000) × (values_in histories ≤ 64000000)
