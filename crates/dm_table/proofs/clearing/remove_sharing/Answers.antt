use Rattle.std.proofs.Common.{List, ap, ◌∙◌}
use Rattle.std.specs.List.{list_any}
use Rattle.std.proofs.lemmas.Result.{on_ok_weaker}
use Rattle.dm_table.specs.Contents.{Row, same_row}
use Rattle.dm_table.specs.Staging.{rows_behind, removed_all}
use Rattle.dm_table.proofs.Cleared.{cleared}
use Rattle.dm_table.proofs.Told.{told_is_sharing}
use Rattle.dm_table.proofs.clearing.remove_sharing.Goals as goal

pub returns-clause-behind : goal.returns-clause-behind
returns-clause-behind c =
    on_ok_weaker c.remove_rows.result
    (λ all. cleared c.args.schema.now c.args.row.now c.args.key.now (rows_behind c.args.rows.now) (rows_behind c.remove_rows.new.rows) c.in_ok-sharing.sharing.items
    (λ q. ap (λ (keys : List Row). list_any (same_row q) keys) c.in_ok-sharing.ensures ∙ told_is_sharing c.args.schema.now (rows_behind c.args.rows.now) (rows_behind c.args.index.now) c.args.row.now c.requires q)
    (all ∙ ap (λ (keys : List Row). removed_all keys (rows_behind c.remove_row.new.rows)) c.deref.ensures.value ∙ ap (removed_all c.in_ok-sharing.sharing.items) c.in_ok-remove_row.ensures.behind))
    c.remove_rows.ensures.behind

pub returns-clause-told : goal.returns-clause-told
returns-clause-told c = on_ok_weaker c.remove_rows.result (λ stays. stays (c.in_ok-remove_row.ensures.told c.requires)) c.remove_rows.ensures.told
