use Rattle.dm_encode.proofs.numbers.+push_le.Given as goal

abbrev pub decreases-push_le : goal.decreases-push_le
decreases-push_le l = l.width
