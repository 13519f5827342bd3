use Rattle.std.proofs.Common.{◌≡◌, not, List, ap, sym, ◌∙◌}
use Rattle.std.specs.List.{list_any}
use Rattle.std.proofs.lemmas.Result.{IfOk-weaker}
use Rattle.dm_schema.specs.Kinds.{is_null}
use Rattle.dm_schema.specs.Names.{Text}
use Rattle.dm_schema.specs.Rows.{values_at}
use Rattle.dm_table.specs.Contents.{Row}
use Rattle.dm_table.specs.Seeing.{under, IsNoted}
use Rattle.dm_table.proofs.SeenAgain.{seen_noted}
use Rattle.dm_table.proofs.altering.see_again.Goals as goal

pub returns : goal.returns
returns c =
    let is : c.in_ok-values.values.items ≡ under c.args.key.now c.args.columns.now c.args.row.now =
    c.in_ok-values.ensures ∙ ap (λ (r : Row). values_at c.args.columns.now r c.as_slice-2.result.now) c.as_slice.ensures ∙ ap (λ (names : List Text). values_at c.args.columns.now c.args.row.now names) c.as_slice-2.ensures in
    let has =
    ap (λ (v : Row). not (list_any is_null v)) (sym is) ∙ ap (λ (v : Row). not (list_any is_null v)) (sym c.deref.ensures.value) ∙ ap not (sym c.has_null.ensures) ∙ ap not c.if-has_null.false in
    IfOk-weaker c.note.result (λ again. IsNoted c.args.seen.now c.new.result again c.note.new.seen) _
    (λ again told rest. seen_noted c.args.key.now c.args.columns.now c.args.seen.now c.note.new.seen c.args.row.now c.new.result again rest (c.new.ensures ∙ is) has told) c.note.ensures
