use Rattle.std.proofs.Common.{refl}
use Rattle.dm_stmt_read.specs.Lines.{read_verb}
use Rattle.dm_stmt_read.proofs.ops.read_verb.Goals as goal

pub returns-then-accept-3 : goal.returns-then-accept-3
unfolding read_verb
returns-then-accept-3 c = rw (c.if-accept.ensures, c.if-accept-2.ensures, c.if-accept-3.ensures) refl

pub returns-then-accept-4 : goal.returns-then-accept-4
unfolding read_verb
returns-then-accept-4 c = rw (c.if-accept.ensures, c.if-accept-2.ensures, c.if-accept-3.ensures, c.if-accept-4.ensures) refl

pub returns-else-accept-4 : goal.returns-else-accept-4
unfolding read_verb
returns-else-accept-4 c = rw (c.if-accept.ensures, c.if-accept-2.ensures, c.if-accept-3.ensures, c.if-accept-4.ensures) refl
