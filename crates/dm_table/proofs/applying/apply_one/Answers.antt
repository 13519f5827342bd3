use Rattle.dm_table.specs.Staging.{rows_behind}
use Rattle.dm_table.proofs.KeptRows.{effect_keeps}
use Rattle.dm_table.proofs.applying.apply_one.Goals as goal

pub returns-clause-indexed : goal.returns-clause-indexed
returns-clause-indexed c =
    let are =
    effect_keeps c.args.schema.now c.args.op.now (rows_behind c.args.rows.now) (rows_behind c.take_effect.new.rows) c.in_ok-judge.field-0 c.in_ok-judge.ensures.formed c.in_ok-judge.ensures.judged c.in_ok-take_effect.ensures.behind
    c.requires.are in
    record { are = are; told = c.in_ok-take_effect.ensures.told are }
