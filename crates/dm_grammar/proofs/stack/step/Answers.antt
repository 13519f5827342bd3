use Rattle.std.proofs.Common.{◌≡◌, true, false, is_some, ◌⊎◌, inl, inr, sym, ◌∙◌}
use Rattle.dm_grammar.specs.Determinism.{after, sequence, is_nullable}
use Rattle.dm_grammar.specs.Meaning.{rest_of, rests_of}
use Rattle.dm_grammar.proofs.PendingRest.{after-pop, Steps-asked, after-passed}
use Rattle.dm_grammar.proofs.stack.step.Goals.{then-is_some-via-then-is_some, then-is_some-via-else-is_some+then-not-is_nullable}
use Rattle.dm_grammar.proofs.stack.step.Goals as goal

pub returns-then-is_some : goal.returns-then-is_some
returns-then-is_some g c =
    let has = g.C.Classes.has in
    let kind = c.args.kind in
    let top = c.in-Some.top in
    let all = after has (sequence (rests_of c.args.stack.now.items)) kind in
    let last : (is_some c.in_ok-taken.taken ≡ true) ⊎ (is_nullable (rest_of top) ≡ false) =
    elim c.then-is_some.branch [
      | then-is_some-via-then-is_some w ↦ inl (sym c.is_some.ensures ∙ w.if-is_some.true)
      | then-is_some-via-else-is_some+then-not-is_nullable w ↦ inr (sym w.is_nullable.ensures ∙ w.if-not-is_nullable.true)
    ] in
    Steps-asked c.in_ok-taken.taken (after has (rest_of top) kind) all (after has (sequence (rests_of c.pop.new.self.items)) kind) (rests_of c.pop.new.self.items) (rests_of c.advance_pending.new.stack.items) (is_nullable (rest_of top))
    (after-pop has c.loop-top.stack.items c.pop.new.self.items top kind all c.in-Some.ensures.items c.loop-top.invariant) last c.in_ok-taken.ensures

pub loop-top-preserved : goal.loop-top-preserved
loop-top-preserved g c =
    let has = g.C.Classes.has in
    let kind = c.args.kind in
    let top = c.in-Some.top in
    let all = after has (sequence (rests_of c.args.stack.now.items)) kind in
    after-passed has kind c.in_ok-taken.taken (after has (rest_of top) kind) all (rests_of c.pop.new.self.items) (rests_of c.advance_pending.new.stack.items) (is_nullable (rest_of top))
    (after-pop has c.loop-top.stack.items c.pop.new.self.items top kind all c.in-Some.ensures.items c.loop-top.invariant)
    (sym c.is_some.ensures ∙ c.if-is_some.false) (sym c.is_nullable.ensures ∙ c.if-not-is_nullable.false) c.in_ok-taken.ensures
