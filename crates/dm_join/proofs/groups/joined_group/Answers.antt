use Rattle.dm_join.proofs.GroupLemmas.{group_refused, group_accepted}
use Rattle.std.proofs.Common.{ap, ◌∙◌, Err}
use Rattle.dm_join.specs.declared.no_join.NoJoin.TheVariants.{At}
use Rattle.dm_join.proofs.groups.joined_group.Goals as goal

pub returns-in_ok-copy-in-Some : goal.returns-in_ok-copy-in-Some
returns-in_ok-copy-in-Some c =
    ap (λ n. Err (At n c.in-Some.cause)) c.in_ok-copy-in-Some.ensures
    ∙ group_refused c.args.schemas.now c.args.group.now c.in_ok-joined.joined c.in-Some.cause c.in_ok-joined.ensures c.in-Some.ensures

pub returns-in-None : goal.returns-in-None
returns-in-None c = group_accepted c.args.schemas.now c.args.group.now c.in_ok-joined.joined c.in_ok-joined.ensures c.in-None.ensures
