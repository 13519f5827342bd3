use Rattle.std.proofs.Common.{ap}
use Rattle.dm_target.specs.Writing.{NotFailed}
use Rattle.dm_target.specs.declared.blow.Fuse.{Fuse}
use Rattle.dm_target.proofs.Blowing.{inner_sound, sound_as_inner}
use Rattle.dm_target.proofs.fuse.FuseTargetTarget.put_meta.Goals as goal

pub put_meta-requires-clause-sound : goal.put_meta-requires-clause-sound
put_meta-requires-clause-sound g c = inner_sound c.args.self.now.fuse.blown (g.T.Target.sound c.args.self.now.inner) c.requires.sound

pub put_meta-requires-in-Some-true-clause-sound : goal.put_meta-requires-in-Some-true-clause-sound
put_meta-requires-in-Some-true-clause-sound g c = inner_sound c.args.self.now.fuse.blown (g.T.Target.sound c.args.self.now.inner) c.requires.sound

pub returns-in-None-clause-sound : goal.returns-in-None-clause-sound
returns-in-None-clause-sound g c =
    sound_as_inner c.args.self.now.fuse.blown (g.T.Target.sound c.args.self.now.inner) c.next_blow.new.self.blown (g.T.Target.sound c.put_meta.new.self) (NotFailed c.put_meta.result) c.requires.sound
    (ap (λ (f : Fuse). f.blown) c.next_blow.ensures.counted) c.put_meta.ensures.sound
