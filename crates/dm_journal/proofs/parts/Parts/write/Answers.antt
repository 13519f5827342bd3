use Rattle.std.proofs.Common.{◌≡◌, ℕ, ◌+◌, ◌≤◌, Bool, false, List, ◌∷◌, ◌++◌, [], length, sym, ap, subst, ◌∙◌}
use Rattle.std.proofs.lemmas.Bool.{ltb-false}
use Rattle.dm_target.specs.Memory.{content_of}
use Rattle.dm_target.specs.declared.call.Call.{Call}
use Rattle.dm_target.specs.declared.memory.MemoryTarget.{MemoryTarget}
use Rattle.dm_journal.specs.Framing.{framed}
use Rattle.dm_journal.specs.Journaled.{IsJournaled, Wrote, call_text, held, is_full, most_bytes}
use Rattle.dm_journal.specs.Parts.{HasAppended}
use Rattle.dm_journal.proofs.Appending.{appended_journaled, appended_wrote, refused_same, still_journaled, unmade_wrote}
use Rattle.dm_journal.proofs.parts.Parts.write.Goals as goal

pub returns-then-is_full-clause-wrote : goal.returns-then-is_full-clause-wrote
returns-then-is_full-clause-wrote g c =
    unmade_wrote (λ done. is_full c.args.self.now.size (call_text (content_of c.args.self.now.kept) done)) c.args.call (framed c.args.text.now) (g.J.Journal.bytes c.args.self.now.journal) c.args.self.now.kept c.args.self.now.doubt c.requires.sound
    c.refusal.result (ap (is_full c.args.self.now.size) (sym c.requires.text) ∙ sym c.is_full.ensures ∙ c.if-is_full.true) c.refusal.ensures

pub returns-in_err-carry_out-clause-journaled : goal.returns-in_err-carry_out-clause-journaled
returns-in_err-carry_out-clause-journaled g c =
    still_journaled (g.J.Journal.bytes c.args.self.now.journal) c.args.self.now.kept c.carry_out.new.self c.args.self.now.size c.args.self.now.doubt c.requires.sound
    (refused_same c.args.call c.args.self.now.kept c.carry_out.new.self c.in_err-carry_out.field-0.0 c.in_err-carry_out.ensures.written c.in_err-carry_out.ensures.calls c.in_err-carry_out.ensures.sound)

pub returns-clause-wrote : goal.returns-clause-wrote
returns-clause-wrote g c =
    let full : Call → Bool = λ done. is_full c.args.self.now.size (call_text (content_of c.args.self.now.kept) done) in
    let has_room : full c.args.call ≡ false = ap (is_full c.args.self.now.size) (sym c.requires.text) ∙ sym c.is_full.ensures ∙ c.if-is_full.false in
    let piece : c.deref.result.now ≡ framed c.args.text.now = c.deref.ensures.value ∙ c.in_ok-piece.ensures in
    let appended = subst (λ (p : List ℕ). HasAppended c.and-before.result p (g.J.Journal.bytes c.args.self.now.journal) c.args.self.now.size (g.J.Journal.bytes c.append.new.self.journal) c.append.new.self.size c.append.new.self.doubt c.append.result) piece c.append.ensures.appended in
    subst (λ (kept : MemoryTarget). Wrote full c.args.call (framed c.args.text.now) (g.J.Journal.bytes c.args.self.now.journal) (held (g.J.Journal.bytes c.args.self.now.journal) c.args.self.now.kept c.args.self.now.doubt) (g.J.Journal.bytes c.append.new.self.journal) kept c.append.new.self.doubt c.append.result) (sym c.append.ensures.kept)
    (appended_wrote full c.args.call c.args.text.now (g.J.Journal.bytes c.args.self.now.journal) (g.J.Journal.bytes c.append.new.self.journal) c.args.self.now.kept c.carry_out.new.self c.args.self.now.size c.append.new.self.size c.args.self.now.doubt c.append.new.self.doubt c.and-before.result c.append.result
    c.requires.sound has_room (c.and-before.ensures ∙ ap (λ (items : List (MemoryTarget × Unit {0})). items ++ (c.args.self.now.kept, tt) ∷ []) c.new.ensures) c.in_ok-carry_out.ensures.written c.in_ok-carry_out.ensures.calls appended)

pub returns-clause-journaled : goal.returns-clause-journaled
returns-clause-journaled g c =
    let has_room : is_full c.args.self.now.size c.args.text.now ≡ false = sym c.is_full.ensures ∙ c.if-is_full.false in
    let few : c.args.self.now.size + length (framed c.args.text.now) ≤ most_bytes = ltb-false most_bytes (c.args.self.now.size + length (framed c.args.text.now)) has_room in
    let piece : c.deref.result.now ≡ framed c.args.text.now = c.deref.ensures.value ∙ c.in_ok-piece.ensures in
    let appended = subst (λ (p : List ℕ). HasAppended c.and-before.result p (g.J.Journal.bytes c.args.self.now.journal) c.args.self.now.size (g.J.Journal.bytes c.append.new.self.journal) c.append.new.self.size c.append.new.self.doubt c.append.result) piece c.append.ensures.appended in
    λ journaled.
    subst (λ (kept : MemoryTarget). IsJournaled (g.J.Journal.bytes c.append.new.self.journal) kept c.append.new.self.size c.append.new.self.doubt) (sym c.append.ensures.kept)
    (appended_journaled c.args.call c.args.text.now (g.J.Journal.bytes c.args.self.now.journal) (g.J.Journal.bytes c.append.new.self.journal) c.args.self.now.kept c.carry_out.new.self c.args.self.now.size c.append.new.self.size c.args.self.now.doubt c.append.new.self.doubt c.and-before.result c.append.result
    c.requires.sound few c.requires.does (c.and-before.ensures ∙ ap (λ (items : List (MemoryTarget × Unit {0})). items ++ (c.args.self.now.kept, tt) ∷ []) c.new.ensures) c.in_ok-carry_out.ensures.written c.in_ok-carry_out.ensures.calls appended journaled)
