use Rattle.std.proofs.Common.{ap}
use Rattle.dm_target.specs.Writing.{NotFailed}
use Rattle.dm_target.specs.declared.blow.Fuse.{Fuse}
use Rattle.dm_target.proofs.Blowing.{inner_sound, sound_as_inner}
use Rattle.dm_target.proofs.fuse.FuseTargetTarget.alter.Goals as goal

pub alter-requires-clause-sound : goal.alter-requires-clause-sound
alter-requires-clause-sound g c = inner_sound c.args.self.now.fuse.blown (g.T.Target.sound c.args.self.now.inner) c.requires.sound

pub alter-requires-in-Some-true-clause-sound : goal.alter-requires-in-Some-true-clause-sound
alter-requires-in-Some-true-clause-sound g c = inner_sound c.args.self.now.fuse.blown (g.T.Target.sound c.args.self.now.inner) c.requires.sound

pub returns-in-None-clause-sound : goal.returns-in-None-clause-sound
returns-in-None-clause-sound g c =
    sound_as_inner c.args.self.now.fuse.blown (g.T.Target.sound c.args.self.now.inner) c.next_blow.new.self.blown (g.T.Target.sound c.alter.new.self) (NotFailed c.alter.result) c.requires.sound
    (ap (λ (f : Fuse). f.blown) c.next_blow.ensures.counted) c.alter.ensures.sound
