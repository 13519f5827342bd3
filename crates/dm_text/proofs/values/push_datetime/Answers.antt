use Rattle.dm_time.specs.Written.{moment_text}
use Rattle.dm_text.proofs.Joins.{enclosed}
use Rattle.dm_text.proofs.values.push_datetime.Goals as goal

pub returns : goal.returns
returns c = enclosed c.args.out.now.items (moment_text c.args.digits c.args.moment) _ _ _ 39 c.in_ok-push.ensures.items c.in_ok-push_moment.ensures c.in_ok-push-2.ensures.items
