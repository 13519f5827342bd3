use Rattle.std.proofs.Common.{sym}
use Rattle.dm_ddl.specs.Bounds.{items_of}
use Rattle.dm_ddl.specs.Creating.{schema_in}
use Rattle.dm_ddl.proofs.StatementLemmas.{create_fails}
use Rattle.dm_ddl.proofs.statements.statement_of.Goals as goal

pub returns-in-Err : goal.returns-in-Err
returns-in-Err c = rw (sym c.if-has_role.ensures) (create_fails c.args.text.now c.args.pieces.now c.in-Err.fault (schema_in c.args.text.now (items_of c.args.pieces.now)) c.in-Err.ensures)
