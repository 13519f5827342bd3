use Rattle.dm_encode.proofs.decimals.+push_group.Given as goal

abbrev pub decreases-push_group : goal.decreases-push_group
decreases-push_group l = l.width
