-- What the front of bytes says of them, and what records that are carried out one after another lead to.
use Rattle.std.proofs.Common.{◌≡◌, inl, inr, ℕ, ◌+◌, ◌-◌, ◌^◌, ◌<◌, ◌≤◌, List, [], ◌++◌, length, take, drop, Err, sym, ap, subst, ◌∙◌, arith}
use Rattle.std.proofs.Math.Seq.{take-append-add, take-append_seam}
use Rattle.std.proofs.lemmas.List.{take-append-drop, length-append, length-drop, length-take-le}
use Rattle.std.specs.FinMap as fin
use Rattle.dm_target.specs.declared.memory.MemoryTarget.{MemoryTarget}
use Rattle.dm_target.specs.Contents.{Content, no_content}
use Rattle.dm_target.specs.declared.call.Call.{Call}
use Rattle.dm_stmt.specs.Known.{KnownMap}
use Rattle.dm_journal.specs.Answers.{MatchFault, fault_at}
use Rattle.dm_journal.specs.declared.fault.ContentFault.{ContentFault}
use Rattle.dm_journal.specs.declared.fault.CarryFault.{CarryFault}
use Rattle.dm_journal.specs.declared.fault.CarryFault.TheVariants as fault
use Rattle.dm_journal.specs.declared.framing.Front.TheVariants as front
use Rattle.dm_journal.specs.Framing.{Begins, HasRoom, framed}
use Rattle.dm_journal.specs.Contents.{Does, Holds, IsBadAt, IsRest, Leads, known_of}
use Rattle.dm_journal.specs.Contents.Leads.{Nowhere}
use Rattle.dm_target.specs.Memory.{calls_of, content_of}
use Rattle.dm_journal.specs.Carrying.{Carries, DoesNothing, IsBad, MatchFront, MatchText, Takes}
use Rattle.dm_journal.proofs.FramingLaws.{framed_unique}
use Rattle.dm_journal.proofs.KnownSchemas.{nothing_known}
use Rattle.dm_journal.proofs.Laws.{leads_further, rest_is_not_whole}

-- The front of bytes.

pub other_is_bad : (bytes : List ℕ) (content : Content) → Begins bytes front.Other → IsBad bytes content
other_is_bad bytes content other = record {
  not_rest = not_rest;
  does_nothing = λ text behind done after whole room does. other.2 text behind room whole;
} where
  not_rest : IsRest bytes → ⊥
  not_rest (inl none) = other.0 none
  not_rest (inr torn) = other.1 torn

module _ (bytes text : List ℕ) (size : ℕ) (begins : Begins bytes (front.Whole size)) (is_text : text ≡ take size (drop 17 bytes)) where
  is_whole : bytes ≡ framed text ++ drop (17 + size) bytes
  is_whole = subst (λ (t : List ℕ). bytes ≡ framed t ++ drop (17 + size) bytes) (sym is_text) begins.0

  is_long : length text ≡ size
  is_long = ap length is_text ∙ begins.1

  room : HasRoom text
  room = subst (λ n. n < 10 ^ 10) (sym is_long) begins.2

  pub whole_is_taken : (before after : MemoryTarget) (end : ℕ) → end ≡ 17 + size → Carries text before after → Takes bytes end before after
  whole_is_taken before after end is_end carried = record {
    text = text;
    behind = drop (17 + size) bytes;
    whole = is_whole;
    has_room = room;
    sized = omega (arith, is_long);
    carried = carried;
  }

  refused_is_bad : (content : Content) → DoesNothing text content → IsBad bytes content
  refused_is_bad content nothing = record {
    not_rest = λ rest. rest_is_not_whole bytes rest text (drop (17 + size) bytes) room is_whole;
    does_nothing = λ other behind done after whole has_room does.
        let same : text ≡ other = (framed_unique text other (drop (17 + size) bytes) behind room has_room (sym is_whole ∙ whole)).0 in
        nothing done after (subst (λ (t : List ℕ). Does content t done after) (sym same) does);
  }

  pub whole_is_refused : (before after : MemoryTarget) (f : CarryFault) → MatchText text before after (Err f) → MatchFront bytes before after (Err f)
  whole_is_refused before after fault.Bad nothing = refused_is_bad (content_of before) nothing
  whole_is_refused before after fault.Memory free = tt

-- Records that are carried out one after another.

-- so many bytes are whole records, which led to what the target holds; and the schemas of its tables are known
pub record IsReached (bytes : List ℕ) (whole : ℕ) (target : MemoryTarget) (known : KnownMap) : Type 0 where
  pub within : whole ≤ length bytes
  pub leads : Leads no_content (take whole bytes) (calls_of target) (content_of target)
  pub knows : known ≡ known_of (content_of target)

pub nothing_reached : (bytes : List ℕ) (target : MemoryTarget) (known : KnownMap) → content_of target ≡ no_content → calls_of target ≡ [] → known ≡ fin.empty → IsReached bytes 0 target known
nothing_reached bytes target known content none empty = record {
  within = omega arith;
  leads =
      subst (λ (c : Content). Leads no_content [] (calls_of target) c) (sym content)
      (subst (λ (calls : List Call). Leads no_content [] calls no_content) (sym none) (Nowhere no_content));
  knows = empty ∙ sym nothing_known ∙ ap known_of (sym content);
}

pub one_more_reached : (bytes : List ℕ) (whole size : ℕ) (before after : MemoryTarget) (known now : KnownMap) → IsReached bytes whole before known → Takes (drop whole bytes) size before after → now ≡ known_of (content_of after)
    → IsReached bytes (whole + size) after now
one_more_reached bytes whole size before after known now reached takes knows =
    let long : length (take whole bytes) ≡ whole = length-take-le whole bytes reached.within in
    let record_long : length bytes - whole ≡ size + length takes.behind =
    sym (length-drop whole bytes) ∙ ap length takes.whole ∙ length-append (framed takes.text) takes.behind ∙ ap (λ n. n + length takes.behind) takes.sized in
    let record_there : take size (drop whole bytes) ≡ framed takes.text =
    ap (take size) takes.whole ∙ ap (λ n. take n (framed takes.text ++ takes.behind)) (sym takes.sized) ∙ take-append_seam (framed takes.text) takes.behind in
    let front : take (whole + size) bytes ≡ take whole bytes ++ framed takes.text =
    ap (take (whole + size)) (sym (take-append-drop whole bytes))
    ∙ ap (λ n. take (n + size) (take whole bytes ++ drop whole bytes)) (sym long)
    ∙ take-append-add (take whole bytes) (drop whole bytes) size
    ∙ ap (λ b. take whole bytes ++ b) record_there in
    let further = leads_further no_content (content_of before) (content_of after) (take whole bytes) takes.text (calls_of before) takes.carried.done reached.leads takes.has_room takes.carried.does in
    record {
      within = omega arith;
      leads =
          subst (λ (b : List ℕ). Leads no_content b (calls_of after) (content_of after)) (sym front)
          (subst (λ (calls : List Call). Leads no_content (take whole bytes ++ framed takes.text) calls (content_of after)) (sym takes.carried.noted) further);
      knows = knows;
    }

pub reached_holds : (bytes : List ℕ) (whole : ℕ) (target : MemoryTarget) (known : KnownMap) → IsReached bytes whole target known → IsRest (drop whole bytes) → Holds bytes (content_of target) (calls_of target) whole
reached_holds bytes whole target known reached rest = record {
  whole = take whole bytes;
  rest = drop whole bytes;
  parts = sym (take-append-drop whole bytes);
  sized = length-take-le whole bytes reached.within;
  leads = reached.leads;
  torn = rest;
}

pub reached_is_bad : (bytes : List ℕ) (whole : ℕ) (target : MemoryTarget) (known : KnownMap) → IsReached bytes whole target known → IsBad (drop whole bytes) (content_of target) → IsBadAt bytes whole
reached_is_bad bytes whole target known reached bad = record {
  whole = take whole bytes;
  rest = drop whole bytes;
  parts = sym (take-append-drop whole bytes);
  sized = length-take-le whole bytes reached.within;
  content = content_of target;
  calls = calls_of target;
  leads = reached.leads;
  not_rest = bad.not_rest;
  does_nothing = bad.does_nothing;
}

-- the fault where the record behind isn't carried out
pub reached_fault : (bytes : List ℕ) (whole : ℕ) (before after : MemoryTarget) (known : KnownMap) (f : CarryFault) (answer : ContentFault) → IsReached bytes whole before known
    → MatchFront (drop whole bytes) before after (Err f) → answer ≡ fault_at f whole → MatchFault answer (λ at. IsBadAt bytes at)
reached_fault bytes whole before after known fault.Bad answer reached bad is = subst (λ (a : ContentFault). MatchFault a (λ at. IsBadAt bytes at)) (sym is) (reached_is_bad bytes whole before known reached bad)
reached_fault bytes whole before after known fault.Memory answer reached free is = subst (λ (a : ContentFault). MatchFault a (λ at. IsBadAt bytes at)) (sym is) tt
