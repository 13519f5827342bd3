use Rattle.std.proofs.lemmas.Result.{on_ok_weaker}
use Rattle.dm_table.specs.Staging.{rows_behind}
use Rattle.dm_table.proofs.Cleared.{replaced}
use Rattle.dm_table.proofs.effect.take_effect.Goals as goal

pub returns-in_ok-remove_sharing-in-Replace-clause-behind : goal.returns-in_ok-remove_sharing-in-Replace-clause-behind
returns-in_ok-remove_sharing-in-Replace-clause-behind c =
    on_ok_weaker c.put_row-in-Replace.result
    (λ put. replaced c.args.schema.now c.args.op.now (rows_behind c.args.rows.now) (rows_behind c.remove_sharing.new.rows) (rows_behind c.put_row-in-Replace.new.rows) c.in-Replace.columns c.in-Replace.row c.in_ok-key-in-Replace.key c.in_ok-row-in-Replace.row
    c.in-Replace.is c.in_ok-row-in-Replace.ensures c.in_ok-key-in-Replace.ensures c.in_ok-remove_sharing-in-Replace.ensures.behind put)
    c.put_row-in-Replace.ensures.behind

pub returns-in_ok-remove_row-in-Update-clause-told : goal.returns-in_ok-remove_row-in-Update-clause-told
returns-in_ok-remove_row-in-Update-clause-told c = on_ok_weaker c.put_row-in-Update.result (λ told are. told are (c.in_ok-remove_row-in-Update.ensures.told c.requires)) c.put_row-in-Update.ensures.told
