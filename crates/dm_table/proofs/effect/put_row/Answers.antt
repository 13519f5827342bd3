use Rattle.std.proofs.lemmas.Result.{on_ok_weaker}
use Rattle.dm_table.specs.Staging.{rows_behind}
use Rattle.dm_table.proofs.Told.{put_tells}
use Rattle.dm_table.proofs.effect.put_row.Goals as goal

pub returns-clause-told : goal.returns-clause-told
returns-clause-told c =
    on_ok_weaker c.insert.result
    (λ put are told. put_tells c.args.schema.now (rows_behind c.args.rows.now) (rows_behind c.args.index.now) (rows_behind c.insert.new.self) (rows_behind c.insert_all.new.self) c.in_ok-key.key c.args.row c.in_ok-entries.entries.items
    c.in_ok-entries.ensures.formed c.in_ok-entries.ensures.entries put c.in_ok-insert_all.ensures.behind are told)
    c.insert.ensures.behind
