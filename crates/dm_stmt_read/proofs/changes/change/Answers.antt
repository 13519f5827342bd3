use Rattle.std.proofs.Common.{refl}
use Rattle.dm_stmt_read.specs.Lines.{key_change, change}
use Rattle.dm_stmt_read.proofs.Loops.{reads_as}
use Rattle.dm_stmt_read.proofs.changes.change.Goals as goal

pub returns-then-accept-3 : goal.returns-then-accept-3
unfolding change
returns-then-accept-3 c = rw (c.if-accept.ensures, c.if-accept-2.ensures, c.if-accept-3.ensures, c.in_ok-column-2.ensures) refl

pub returns : goal.returns
unfolding change
returns c =
    reads_as change key_change c.args.left.now c.accept-3.new.self c.key_change.new.left c.key_change.result
    (rw (c.if-accept.ensures, c.if-accept-2.ensures, c.if-accept-3.ensures) refl) c.key_change.ensures
