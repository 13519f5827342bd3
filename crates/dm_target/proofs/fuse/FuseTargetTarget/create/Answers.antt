use Rattle.std.proofs.Common.{ap}
use Rattle.dm_target.specs.Writing.{NotFailed}
use Rattle.dm_target.specs.declared.blow.Fuse.{Fuse}
use Rattle.dm_target.proofs.Blowing.{inner_sound, sound_as_inner}
use Rattle.dm_target.proofs.fuse.FuseTargetTarget.create.Goals as goal

pub create-requires-clause-sound : goal.create-requires-clause-sound
create-requires-clause-sound g c = inner_sound c.args.self.now.fuse.blown (g.T.Target.sound c.args.self.now.inner) c.requires.sound

pub create-requires-in-Some-true-clause-sound : goal.create-requires-in-Some-true-clause-sound
create-requires-in-Some-true-clause-sound g c = inner_sound c.args.self.now.fuse.blown (g.T.Target.sound c.args.self.now.inner) c.requires.sound

pub returns-in-None-clause-sound : goal.returns-in-None-clause-sound
returns-in-None-clause-sound g c =
    sound_as_inner c.args.self.now.fuse.blown (g.T.Target.sound c.args.self.now.inner) c.next_blow.new.self.blown (g.T.Target.sound c.create.new.self) (NotFailed c.create.result) c.requires.sound
    (ap (λ (f : Fuse). f.blown) c.next_blow.ensures.counted) c.create.ensures.sound
