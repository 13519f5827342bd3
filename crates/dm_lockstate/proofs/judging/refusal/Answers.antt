use Rattle.std.proofs.Common.{sym, ap, ◌∙◌, Some, None}
use Rattle.std.specs.Option.{option_or}
use Rattle.dm_schema.specs.NameOrder.{columns_in_order}
use Rattle.dm_lockstate.specs.declared.judging.Point.TheVariants as point
use Rattle.dm_lockstate.specs.Points.{offer_of}
use Rattle.dm_lockstate.proofs.Refusals.{first_at, in_turn, answered, by_first, by_rest, same_answer}
use Rattle.dm_lockstate.proofs.judging.refusal.Goals as goal

pub returns-in-Some : goal.returns-in-Some
returns-in-Some c =
    sym (in_turn (offer_of c.args.offered.now) c.in_ok-gained.gained.items c.in_ok-kept.kept.items (c.in_ok-gained.ensures ∙ ap columns_in_order c.columns.ensures.columns) (c.in_ok-kept.ensures ∙ ap columns_in_order (c.columns-2.ensures.columns ∙ ap (λ l. l.columns) c.joined.ensures))
    ∙ by_first (first_at (offer_of c.args.offered.now) point.ComesAgain c.in_ok-gained.gained.items) (option_or (first_at (offer_of c.args.offered.now) point.NarrowsDropped c.in_ok-kept.kept.items) (option_or (first_at (offer_of c.args.offered.now) point.GainsOtherFill c.in_ok-gained.gained.items) (first_at (offer_of c.args.offered.now) point.ChangesFill c.in_ok-kept.kept.items))) c.in-Some.stop (answered (offer_of c.args.offered.now) point.ComesAgain c.deref.result.now c.in_ok-gained.gained.items c.in_ok-stop.field-0 (Some c.in-Some.stop) c.deref.ensures.value c.in_ok-stop.ensures c.in-Some.is))

pub returns-in-Some-2 : goal.returns-in-Some-2
returns-in-Some-2 c =
    sym (in_turn (offer_of c.args.offered.now) c.in_ok-gained.gained.items c.in_ok-kept.kept.items (c.in_ok-gained.ensures ∙ ap columns_in_order c.columns.ensures.columns) (c.in_ok-kept.ensures ∙ ap columns_in_order (c.columns-2.ensures.columns ∙ ap (λ l. l.columns) c.joined.ensures))
    ∙ by_rest (first_at (offer_of c.args.offered.now) point.ComesAgain c.in_ok-gained.gained.items) (option_or (first_at (offer_of c.args.offered.now) point.NarrowsDropped c.in_ok-kept.kept.items) (option_or (first_at (offer_of c.args.offered.now) point.GainsOtherFill c.in_ok-gained.gained.items) (first_at (offer_of c.args.offered.now) point.ChangesFill c.in_ok-kept.kept.items))) (answered (offer_of c.args.offered.now) point.ComesAgain c.deref.result.now c.in_ok-gained.gained.items c.in_ok-stop.field-0 None c.deref.ensures.value c.in_ok-stop.ensures c.in_default.is)
    ∙ by_first (first_at (offer_of c.args.offered.now) point.NarrowsDropped c.in_ok-kept.kept.items) (option_or (first_at (offer_of c.args.offered.now) point.GainsOtherFill c.in_ok-gained.gained.items) (first_at (offer_of c.args.offered.now) point.ChangesFill c.in_ok-kept.kept.items)) c.in-Some-2.stop (answered (offer_of c.args.offered.now) point.NarrowsDropped c.deref-2.result.now c.in_ok-kept.kept.items c.in_ok-stop-2.field-0 (Some c.in-Some-2.stop) c.deref-2.ensures.value c.in_ok-stop-2.ensures c.in-Some-2.is))

pub returns-in-Some-3 : goal.returns-in-Some-3
returns-in-Some-3 c =
    sym (in_turn (offer_of c.args.offered.now) c.in_ok-gained.gained.items c.in_ok-kept.kept.items (c.in_ok-gained.ensures ∙ ap columns_in_order c.columns.ensures.columns) (c.in_ok-kept.ensures ∙ ap columns_in_order (c.columns-2.ensures.columns ∙ ap (λ l. l.columns) c.joined.ensures))
    ∙ by_rest (first_at (offer_of c.args.offered.now) point.ComesAgain c.in_ok-gained.gained.items) (option_or (first_at (offer_of c.args.offered.now) point.NarrowsDropped c.in_ok-kept.kept.items) (option_or (first_at (offer_of c.args.offered.now) point.GainsOtherFill c.in_ok-gained.gained.items) (first_at (offer_of c.args.offered.now) point.ChangesFill c.in_ok-kept.kept.items))) (answered (offer_of c.args.offered.now) point.ComesAgain c.deref.result.now c.in_ok-gained.gained.items c.in_ok-stop.field-0 None c.deref.ensures.value c.in_ok-stop.ensures c.in_default.is)
    ∙ by_rest (first_at (offer_of c.args.offered.now) point.NarrowsDropped c.in_ok-kept.kept.items) (option_or (first_at (offer_of c.args.offered.now) point.GainsOtherFill c.in_ok-gained.gained.items) (first_at (offer_of c.args.offered.now) point.ChangesFill c.in_ok-kept.kept.items)) (answered (offer_of c.args.offered.now) point.NarrowsDropped c.deref-2.result.now c.in_ok-kept.kept.items c.in_ok-stop-2.field-0 None c.deref-2.ensures.value c.in_ok-stop-2.ensures c.in_default-2.is)
    ∙ by_first (first_at (offer_of c.args.offered.now) point.GainsOtherFill c.in_ok-gained.gained.items) (first_at (offer_of c.args.offered.now) point.ChangesFill c.in_ok-kept.kept.items) c.in-Some-3.stop (answered (offer_of c.args.offered.now) point.GainsOtherFill c.deref-3.result.now c.in_ok-gained.gained.items c.in_ok-stop-3.field-0 (Some c.in-Some-3.stop) c.deref-3.ensures.value c.in_ok-stop-3.ensures c.in-Some-3.is))

pub returns : goal.returns
returns c = same_answer c.first_refused-4.result _ _
    (ap (λ l. first_at (offer_of c.args.offered.now) point.ChangesFill l) c.deref-4.ensures.value ∙ sym (in_turn (offer_of c.args.offered.now) c.in_ok-gained.gained.items c.in_ok-kept.kept.items (c.in_ok-gained.ensures ∙ ap columns_in_order c.columns.ensures.columns) (c.in_ok-kept.ensures ∙ ap columns_in_order (c.columns-2.ensures.columns ∙ ap (λ l. l.columns) c.joined.ensures))
    ∙ by_rest (first_at (offer_of c.args.offered.now) point.ComesAgain c.in_ok-gained.gained.items) (option_or (first_at (offer_of c.args.offered.now) point.NarrowsDropped c.in_ok-kept.kept.items) (option_or (first_at (offer_of c.args.offered.now) point.GainsOtherFill c.in_ok-gained.gained.items) (first_at (offer_of c.args.offered.now) point.ChangesFill c.in_ok-kept.kept.items))) (answered (offer_of c.args.offered.now) point.ComesAgain c.deref.result.now c.in_ok-gained.gained.items c.in_ok-stop.field-0 None c.deref.ensures.value c.in_ok-stop.ensures c.in_default.is)
    ∙ by_rest (first_at (offer_of c.args.offered.now) point.NarrowsDropped c.in_ok-kept.kept.items) (option_or (first_at (offer_of c.args.offered.now) point.GainsOtherFill c.in_ok-gained.gained.items) (first_at (offer_of c.args.offered.now) point.ChangesFill c.in_ok-kept.kept.items)) (answered (offer_of c.args.offered.now) point.NarrowsDropped c.deref-2.result.now c.in_ok-kept.kept.items c.in_ok-stop-2.field-0 None c.deref-2.ensures.value c.in_ok-stop-2.ensures c.in_default-2.is)
    ∙ by_rest (first_at (offer_of c.args.offered.now) point.GainsOtherFill c.in_ok-gained.gained.items) (first_at (offer_of c.args.offered.now) point.ChangesFill c.in_ok-kept.kept.items) (answered (offer_of c.args.offered.now) point.GainsOtherFill c.deref-3.result.now c.in_ok-gained.gained.items c.in_ok-stop-3.field-0 None c.deref-3.ensures.value c.in_ok-stop-3.ensures c.in_default-3.is)))
    c.first_refused-4.ensures
