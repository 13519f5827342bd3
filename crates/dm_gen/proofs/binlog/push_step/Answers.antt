use Rattle.dm_gen.proofs.Logging.{schema_at, step_fits, step_logged, step_small}
use Rattle.dm_gen.proofs.binlog.push_step.Goals as goal

pub push_rows-requires-clause-fits : goal.push_rows-requires-clause-fits
push_rows-requires-clause-fits c =
    step_fits c.args.number c.index-schemas-done.result c.in_ok-change.change
    (schema_at c.args.number c.done_before-done.result c.args.schemas.now c.index-schemas-done.result c.requires.number c.requires.schemas c.done_before-done.ensures c.index-schemas-done.is) c.in_ok-change.ensures.fits

pub push_rows-requires-clause-size : goal.push_rows-requires-clause-size
push_rows-requires-clause-size c =
    step_small c.args.source c.args.number c.index-schemas-done.result c.args.walker.now c.in_ok-change.change
    (schema_at c.args.number c.done_before-done.result c.args.schemas.now c.index-schemas-done.result c.requires.number c.requires.schemas c.done_before-done.ensures c.index-schemas-done.is) c.in_ok-change.ensures.change

pub returns-clause-bytes : goal.returns-clause-bytes
returns-clause-bytes c =
    step_logged c.args.source c.args.number c.args.own.now c.index-schemas-done.result c.args.walker.now c.in_ok-change.change c.args.bytes.now.items c.push_map.new.bytes.items c.push_rows.new.bytes.items c.push_statement_behind.new.bytes.items c.requires.own
    (schema_at c.args.number c.done_before-done.result c.args.schemas.now c.index-schemas-done.result c.requires.number c.requires.schemas c.done_before-done.ensures c.index-schemas-done.is) c.in_ok-change.ensures.change
    c.in_ok-push_map.ensures c.in_ok-push_rows.ensures c.in_ok-push_statement_behind.ensures
