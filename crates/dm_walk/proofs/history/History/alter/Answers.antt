use Rattle.std.proofs.Common.{Ok}
use Rattle.dm_walk.proofs.Says.{alter_fails, statement_says}
use Rattle.dm_stream.specs.Views.{seen}
use Rattle.dm_walk.proofs.history.History.alter.Goals as goal

pub returns-in-Ok : goal.returns-in-Ok
returns-in-Ok c = λ statements are. rw (← statement_says statements c.args.text.now (Ok c.in-Ok.statement) are c.in-Ok.ensures.exact) c.alter_by.ensures

pub returns-in_ok-ddl_cause-in-Err : goal.returns-in_ok-ddl_cause-in-Err
returns-in_ok-ddl_cause-in-Err c = λ statements are.
    alter_fails statements (seen c.args.logged.now) c.args.text.now c.in-Err.fault c.in_ok-ddl_cause-in-Err.field-0 c.args.self.now c.end.new.self are c.in_ok-ddl_cause-in-Err.ensures.known c.in-Err.ensures.exact c.in_ok-ddl_cause-in-Err.ensures.cause c.end.ensures
