use Rattle.dm_encode.proofs.numbers.+push_be.Given as goal

abbrev pub decreases-push_be : goal.decreases-push_be
decreases-push_be l = l.width
