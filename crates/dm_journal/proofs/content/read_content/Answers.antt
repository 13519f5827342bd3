use Rattle.std.proofs.Common.{◌≡◌, ℕ, ◌-◌, List, length, take, drop, Ok, Some, Err, sym, ap, subst, ◌∙◌}
use Rattle.std.proofs.Math.Seq.{take-length}
use Rattle.std.proofs.lemmas.List.{length-drop}
use Rattle.dm_journal.specs.Carrying.{MatchFront}
use Rattle.dm_journal.proofs.Taking.{nothing_reached, one_more_reached, reached_fault}
use Rattle.dm_journal.proofs.content.read_content.Goals as goal

-- all that is behind a place
behind : (bytes : List ℕ) (whole : ℕ) → take (length bytes - whole) (drop whole bytes) ≡ drop whole bytes
behind bytes whole = ap (λ n. take n (drop whole bytes)) (sym (length-drop whole bytes)) ∙ take-length (drop whole bytes)

pub records-init : goal.records-init
records-init c = nothing_reached c.args.bytes.now c.new-target.result c.new-known.result c.new-target.ensures.content c.new-target.ensures.calls c.new-known.ensures

pub records-preserved : goal.records-preserved
records-preserved c =
    let takes : MatchFront (drop c.records.whole c.args.bytes.now) c.records.target c.take_record.new.target (Ok (Some c.in-Ok-Some.size)) =
    subst (λ (rest : List ℕ). MatchFront rest c.records.target c.take_record.new.target (Ok (Some c.in-Ok-Some.size))) (behind c.args.bytes.now c.records.whole)
    (rw c.in-Ok-Some.field-0-is at c.in-Ok-Some.ensures.front) in
    one_more_reached c.args.bytes.now c.records.whole c.in-Ok-Some.size c.records.target c.take_record.new.target c.records.known c.take_record.new.known c.records.invariant takes c.in-Ok-Some.ensures.known

pub returns-in-Err-clause-bad : goal.returns-in-Err-clause-bad
returns-in-Err-clause-bad c =
    let refused : MatchFront (drop c.records.whole c.args.bytes.now) c.records.target c.take_record.new.target (Err c.in-Err.fault) =
    subst (λ (rest : List ℕ). MatchFront rest c.records.target c.take_record.new.target (Err c.in-Err.fault)) (behind c.args.bytes.now c.records.whole) c.in-Err.ensures.front in
    reached_fault c.args.bytes.now c.records.whole c.records.target c.take_record.new.target c.records.known c.in-Err.fault c.at.result c.records.invariant refused c.at.ensures
