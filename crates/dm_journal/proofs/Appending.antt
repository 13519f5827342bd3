-- What a call that is written leaves of the target and of the journal.
use Rattle.std.proofs.Common.{◌≡◌, inl, inr, ℕ, zero, suc, ◌+◌, ◌<◌, ◌≤◌, Bool, true, false, cond, ◌==◌, List, [], ◌∷◌, ◌++◌, length, take, drop, Option, Some, None, Result, Ok, Err, refl, sym, ap, subst, ◌∙◌, arith, append-nil}
use Rattle.std.proofs.lemmas.Option.{same_Some}
use Rattle.std.specs.Prelude.{◌⊎◌, ◌↔◌, is_none, IfSome, IsTrue, IsFalse}
use Rattle.std.proofs.lemmas.Bool.{false≢true, eqb-false, eqb-true}
use Rattle.std.proofs.lemmas.List.{length-append, take-append-drop}
use Rattle.dm_base.specs.Outside.{AddsPart, added}
use Rattle.dm_target.specs.Contents.{Content, effect, no_content}
use Rattle.dm_target.specs.Memory.{calls_of, content_of}
use Rattle.dm_target.specs.Writing.{AddsCall, Grows, IsWhole, NotFailed, Takes, Writes}
use Rattle.dm_target.specs.declared.call.Call.{Call}
use Rattle.dm_target.specs.declared.memory.MemoryTarget.{MemoryTarget}
use Rattle.dm_target.specs.declared.target.TargetError.{TargetError}
use Rattle.dm_target.specs.declared.target.TargetError.TheVariants as error
use Rattle.dm_journal.specs.Contents.{Does, IsRest, Leads}
use Rattle.dm_journal.specs.Framing.{HasRoom, framed}
use Rattle.dm_journal.specs.Journaled.{IsHeldIn, IsJournaled, IsRefusal, IsTextFor, Says, Wrote, held, is_whole, kept_before, most_bytes}
use Rattle.http_server.specs.declared.log.Log.{Log}
use Rattle.dm_journal.specs.Parts.{HasAppended}
use Rattle.dm_journal.specs.declared.doubt.Doubt.{Doubt}
use Rattle.dm_journal.proofs.Laws.{leads_further}

-- without a call in doubt a target holds what is kept
pub held_kept : (bytes : Option (List ℕ)) (kept : MemoryTarget) (doubt : Option Doubt) → doubt ≡ None → held bytes kept doubt ≡ kept
held_kept bytes kept doubt none = ap (held bytes kept) none

-- no call is in doubt, and none failed
no_doubt : (doubt : Option Doubt) (answer : Result (Unit {0}) TargetError) → doubt ≡ None → NotFailed answer → IsTrue (is_none doubt) ↔ NotFailed answer
no_doubt doubt answer none sound = (λ t. sound, λ t. ap is_none none)

-- A call that isn't made.

module _ (full : Call → Bool) (done : Call) (piece : List ℕ) (bytes : Option (List ℕ)) (kept : MemoryTarget) (doubt : Option Doubt) (none : doubt ≡ None) where
  abbrev holding : MemoryTarget
  holding = held bytes kept doubt

  -- the answer leaves all as it was, and says why
  pub unmade_wrote : (answer : Result (Unit {0}) TargetError) → IsTrue (full done) → IsRefusal done (content_of kept) answer → Wrote full done piece bytes holding bytes kept doubt answer
  unmade_wrote (Ok t) is_too_long refused = absurd refused
  unmade_wrote (Err (error.Rejected f)) is_too_long refused = record {
    written = (ap (λ (t : MemoryTarget). effect done (content_of t)) (held_kept bytes kept doubt none) ∙ refused, refl);
    calls = refl;
    whole = λ e. absurd (cc e);
    sound = no_doubt doubt (Err (error.Rejected f)) none tt;
    appends = refl;
  }
  unmade_wrote (Err error.Failed) is_too_long refused = absurd refused
  unmade_wrote (Err error.Full) is_too_long refused = record {
    written = ((refused.0, ap (λ (t : MemoryTarget). effect done (content_of t)) (held_kept bytes kept doubt none) ∙ refused.1), is_too_long, refl);
    calls = refl;
    whole = λ e. absurd (cc e);
    sound = no_doubt doubt (Err error.Full) none tt;
    appends = refl;
  }
  unmade_wrote (Err error.Memory) is_too_long refused = record {
    written = refl;
    calls = refl;
    whole = λ e. absurd (cc e);
    sound = no_doubt doubt (Err error.Memory) none tt;
    appends = refl;
  }

-- a call that is refused leaves the target in memory as it was
pub refused_same : (done : Call) (before after : MemoryTarget) (e : TargetError) → Writes done (λ c. false) (Some (content_of before)) (Some (content_of after)) (Err e) → Grows done (Some (calls_of before)) (Some (calls_of after)) (Err e) → NotFailed (Err e)
    → (content_of after ≡ content_of before) × (calls_of after ≡ calls_of before)
refused_same done before after (error.Rejected f) writes grows sound = (same_Some _ _ writes.1, same_Some _ _ grows)
refused_same done before after error.Failed writes grows sound = absurd sound
refused_same done before after error.Full writes grows sound = (same_Some _ _ writes.2, same_Some _ _ grows)
refused_same done before after error.Memory writes grows sound = (same_Some _ _ writes, same_Some _ _ grows)

-- what is kept may be another target with the same content and calls
pub still_journaled : (bytes : Option (List ℕ)) (before after : MemoryTarget) (size : ℕ) (doubt : Option Doubt) → doubt ≡ None → (content_of after ≡ content_of before) × (calls_of after ≡ calls_of before)
    → IsJournaled bytes before size doubt → IsJournaled bytes after size doubt
still_journaled bytes before after size doubt none same journaled = record { few = journaled.few; says = by bytes doubt none journaled.says } where
  by : (b : Option (List ℕ)) (d : Option Doubt) → d ≡ None → IfSome b (λ told. Says told before size d) → IfSome b (λ told. Says told after size d)
  by None d e says = tt
  by (Some told) None e says = (
    subst (λ (c : Content). Leads no_content told (calls_of after) c) (sym same.0) (subst (λ (calls : List Call). Leads no_content told calls (content_of before)) (sym same.1) says.0),
    says.1,
  )
  by (Some told) (Some d) e says = absurd (cc e)

-- A call that is made.

-- what a target holds behind an append that failed, by whether the record is whole
abbrev chosen : Bool → MemoryTarget → MemoryTarget → MemoryTarget
chosen b before after = cond b after before

module _ (full : Call → Bool) (done : Call) (text : List ℕ) (bytes now : Option (List ℕ)) (before after : MemoryTarget) (size now_size : ℕ) (none_before now_doubt : Option Doubt) (no_doubt_before : none_before ≡ None) where
  abbrev was : MemoryTarget
  was = held bytes before none_before

  was_before : was ≡ before
  was_before = held_kept bytes before none_before no_doubt_before

  takes : Writes done (λ c. false) (Some (content_of before)) (Some (content_of after)) (Ok tt) → Takes done (content_of was) (Some (content_of after))
  takes writes = (writes.0.0, ap (λ (t : MemoryTarget). effect done (content_of t)) was_before ∙ writes.0.1, writes.0.2)

  adds : Grows done (Some (calls_of before)) (Some (calls_of after)) (Ok tt) → AddsCall done (calls_of was) (Some (calls_of after))
  adds grows = grows ∙ ap (λ (t : MemoryTarget). Some (calls_of t ++ done ∷ [])) (sym was_before)

  -- behind an append that failed the call took its effect whole, or none
  in_doubt : (b : Bool) → Takes done (content_of was) (Some (content_of after)) → AddsCall done (calls_of was) (Some (calls_of after))
      → ((Some (content_of (chosen b before after)) ≡ Some (content_of was)) × (Some (calls_of (chosen b before after)) ≡ Some (calls_of was)))
      ⊎ (Takes done (content_of was) (Some (content_of (chosen b before after))) × AddsCall done (calls_of was) (Some (calls_of (chosen b before after))))
  in_doubt true took added_so = inr (took, added_so)
  in_doubt false took added_so = inl (ap (λ (t : MemoryTarget). Some (content_of t)) (sym was_before), ap (λ (t : MemoryTarget). Some (calls_of t)) (sym was_before))

  -- a call whose record was appended took its effect
  pub made_wrote : IsFalse (full done) → Writes done (λ c. false) (Some (content_of before)) (Some (content_of after)) (Ok tt) → Grows done (Some (calls_of before)) (Some (calls_of after)) (Ok tt)
      → now ≡ added bytes (framed text) → now_doubt ≡ None → Wrote full done (framed text) bytes was now after now_doubt (Ok tt)
  made_wrote has_room writes grows appended none = record {
    written = (subst (λ (t : MemoryTarget). Takes done (content_of was) (Some (content_of t))) (sym (held_kept now after now_doubt none)) (takes writes), has_room);
    calls = subst (λ (t : MemoryTarget). AddsCall done (calls_of was) (Some (calls_of t))) (sym (held_kept now after now_doubt none)) (adds grows);
    whole = λ e. absurd (cc e);
    sound = no_doubt now_doubt (Ok tt) none tt;
    appends = appended;
  }

  -- one whose append failed is in doubt
  module _ (log : Log MemoryTarget (Unit {0})) (whole : ℕ) (noted : log.items ≡ (before, tt) ∷ []) (doubted : now_doubt ≡ Some (record { before = log; whole = whole })) where
    abbrev is_there : Bool
    is_there = is_whole now (record { before = log; whole = whole })

    holds_chosen : held now after now_doubt ≡ chosen is_there before after
    holds_chosen = ap (held now after) doubted ∙ ap (λ (items : List (MemoryTarget × Unit {0})). cond is_there after (kept_before items after)) noted

    pub doubted_wrote : Writes done (λ c. false) (Some (content_of before)) (Some (content_of after)) (Ok tt) → Grows done (Some (calls_of before)) (Some (calls_of after)) (Ok tt) → AddsPart bytes (framed text) now
        → Wrote full done (framed text) bytes was now after now_doubt (Err error.Failed)
    doubted_wrote writes grows part =
        let either = in_doubt is_there (takes writes) (adds grows) in
        record {
          written = subst (λ (t : MemoryTarget). (Some (content_of t) ≡ Some (content_of was)) ⊎ Takes done (content_of was) (Some (content_of t))) (sym holds_chosen) (elim either [ inl p ↦ inl p.0 | inr p ↦ inr p.0 ]);
          calls = subst (λ (t : MemoryTarget). (Some (calls_of t) ≡ Some (calls_of was)) ⊎ AddsCall done (calls_of was) (Some (calls_of t))) (sym holds_chosen) (elim either [ inl p ↦ inl p.1 | inr p ↦ inr p.1 ]);
          whole = λ e. subst (λ (t : MemoryTarget). IsWhole done (Some (content_of was)) (Some (content_of t)) (Some (calls_of was)) (Some (calls_of t))) (sym holds_chosen) either;
          sound = (λ t. false≢true (sym (ap is_none doubted) ∙ t), absurd);
          appends = part;
        }

none_left : (xs : List ℕ) → length xs ≡ 0 → xs ≡ []
none_left [] h = refl
none_left (x ∷ xs) h = absurd (omega arith)

above_zero : (n : ℕ) → (n ≡ 0 → ⊥) → 0 < n
above_zero zero h = absurd (h refl)
above_zero (suc n) h = omega arith

-- What the journal says behind a call.

module _ (done : Call) (text : List ℕ) (before after : MemoryTarget) (does : IsTextFor (content_of before) done text)
    (writes : Writes done (λ c. false) (Some (content_of before)) (Some (content_of after)) (Ok tt)) (grows : Grows done (Some (calls_of before)) (Some (calls_of after)) (Ok tt)) where
  -- the record's text did what the call did
  did : Does (content_of before) text done (content_of after)
  did = subst (λ (c : Content). Does (content_of before) text done c) (sym (same_Some _ _ writes.0.2)) (does writes.0.0 writes.0.1)

  leads_behind : (told : List ℕ) → HasRoom text → Leads no_content told (calls_of before) (content_of before) → Leads no_content (told ++ framed text) (calls_of after) (content_of after)
  leads_behind told room leads =
      subst (λ (calls : List Call). Leads no_content (told ++ framed text) calls (content_of after)) (sym (same_Some _ _ grows))
      (leads_further no_content (content_of before) (content_of after) told text (calls_of before) done leads room did)

  pub made_journaled : (bytes now : Option (List ℕ)) (size now_size : ℕ) (doubt now_doubt : Option Doubt) → doubt ≡ None → size + length (framed text) ≤ most_bytes → now ≡ added bytes (framed text)
      → now_size ≡ size + length (framed text) → now_doubt ≡ None → IsJournaled bytes before size doubt → IsJournaled now after now_size now_doubt
  made_journaled bytes now size now_size doubt now_doubt none few appended sized now_none journaled =
      subst (λ (d : Option Doubt). IsJournaled now after now_size d) (sym now_none)
      (subst (λ (b : Option (List ℕ)). IsJournaled b after now_size None) (sym appended)
      (record { few = omega (arith, few, sized); says = by bytes (subst (λ (d : Option Doubt). IfSome bytes (λ told. Says told before size d)) none journaled.says) })) where
        room : HasRoom text
        room = omega (arith, few)

        by : (b : Option (List ℕ)) → IfSome b (λ told. Says told before size None) → IfSome (added b (framed text)) (λ told. Says told after now_size None)
        by None says = tt
        by (Some told) says = (leads_behind told room says.0, omega (arith, length-append told (framed text), says.1, sized))

  -- the bytes behind an append that failed hold what the target holds
  module _ (told : List ℕ) (size count : ℕ) (few : size + length (framed text) ≤ most_bytes) (says : Says told before size None) where
    abbrev part : List ℕ
    part = take count (framed text)

    abbrev missing : List ℕ
    missing = drop count (framed text)

    parts : framed text ≡ part ++ missing
    parts = sym (take-append-drop count (framed text))

    part_room : HasRoom text
    part_room = omega (arith, few)

    long_parts : length part + length missing ≡ length (framed text)
    long_parts = sym (length-append part missing) ∙ ap length (sym parts)

    -- with the whole record
    holds_whole : length (told ++ part) ≡ size + length (framed text) → IsHeldIn (told ++ part) after
    holds_whole long =
        let no_more : length missing ≡ 0 = omega (arith, long, length-append told part, says.1, long_parts) in
        let all : framed text ≡ part = parts ∙ ap (λ (rest : List ℕ). part ++ rest) (none_left missing no_more) ∙ append-nil part in (
          length (told ++ part),
          record {
            whole = told ++ part;
            rest = [];
            parts = sym (append-nil (told ++ part));
            sized = refl;
            leads = subst (λ (p : List ℕ). Leads no_content (told ++ p) (calls_of after) (content_of after)) all (leads_behind told part_room says.0);
            torn = inl refl;
          },
        )

    -- with a part of it
    holds_part : (length (told ++ part) == (size + length (framed text))) ≡ false → IsHeldIn (told ++ part) before
    holds_part short = (size, record { whole = told; rest = part; parts = refl; sized = says.1; leads = says.0; torn = by part refl }) where
      some_missing : (length missing ≡ 0 → ⊥)
      some_missing none = eqb-false (length (told ++ part)) (size + length (framed text)) short (omega (arith, none, length-append told part, says.1, long_parts))

      by : (p : List ℕ) → part ≡ p → IsRest p
      by [] is = inl refl
      by (byte ∷ p) is =
          inr (record {
            text = text;
            has_room = part_room;
            missing = missing;
            front = parts ∙ ap (λ (q : List ℕ). q ++ missing) is;
            some = omega arith;
            not_all = above_zero (length missing) some_missing;
          })

    holds_either : (b : Bool) → (length (told ++ part) == (size + length (framed text))) ≡ b → IsHeldIn (told ++ part) (chosen b before after)
    holds_either true is = holds_whole (eqb-true (length (told ++ part)) (size + length (framed text)) is)
    holds_either false is = holds_part is

  pub doubted_journaled : (bytes now : Option (List ℕ)) (size now_size : ℕ) (doubt now_doubt : Option Doubt) (log : Log MemoryTarget (Unit {0})) → doubt ≡ None → size + length (framed text) ≤ most_bytes → AddsPart bytes (framed text) now
      → now_size ≡ size → log.items ≡ (before, tt) ∷ [] → now_doubt ≡ Some (record { before = log; whole = size + length (framed text) }) → IsJournaled bytes before size doubt → IsJournaled now after now_size now_doubt
  doubted_journaled bytes now size now_size doubt now_doubt log none few added_part sized noted doubted journaled =
      subst (λ (d : Option Doubt). IsJournaled now after now_size d) (sym doubted)
      (subst (λ (b : Option (List ℕ)). IsJournaled b after now_size (Some (record { before = log; whole = size + length (framed text) }))) (sym added_part.1)
      (record { few = omega (arith, journaled.few, sized); says = by bytes (subst (λ (d : Option Doubt). IfSome bytes (λ told. Says told before size d)) none journaled.says) })) where
        by : (b : Option (List ℕ)) → IfSome b (λ told. Says told before size None) → IfSome (added b (take added_part.0 (framed text))) (λ told. Says told after now_size (Some (record { before = log; whole = size + length (framed text) })))
        by None says = tt
        by (Some told) says =
            let b = length (told ++ take added_part.0 (framed text)) == (size + length (framed text)) in
            let is : chosen b before after ≡ cond b after (kept_before log.items after) = ap (λ (items : List (MemoryTarget × Unit {0})). cond b after (kept_before items after)) (sym noted) in
            subst (λ (t : MemoryTarget). IsHeldIn (told ++ take added_part.0 (framed text)) t) is (holds_either told size added_part.0 few says b refl)

-- Behind an append, by its answer.

pub appended_wrote : (full : Call → Bool) (done : Call) (text : List ℕ) (bytes now : Option (List ℕ)) (before after : MemoryTarget) (size now_size : ℕ) (doubt now_doubt : Option Doubt) (log : Log MemoryTarget (Unit {0})) (answer : Result (Unit {0}) TargetError)
    → doubt ≡ None → IsFalse (full done) → log.items ≡ (before, tt) ∷ [] → Writes done (λ c. false) (Some (content_of before)) (Some (content_of after)) (Ok tt) → Grows done (Some (calls_of before)) (Some (calls_of after)) (Ok tt)
    → HasAppended log (framed text) bytes size now now_size now_doubt answer → Wrote full done (framed text) bytes (held bytes before doubt) now after now_doubt answer
appended_wrote full done text bytes now before after size now_size doubt now_doubt log (Ok t) none has_room noted writes grows appended =
    made_wrote full done text bytes now before after size now_size doubt now_doubt none has_room writes grows appended.0 appended.2
appended_wrote full done text bytes now before after size now_size doubt now_doubt log (Err (error.Rejected f)) none has_room noted writes grows appended = absurd appended
appended_wrote full done text bytes now before after size now_size doubt now_doubt log (Err error.Failed) none has_room noted writes grows appended =
    doubted_wrote full done text bytes now before after size now_size doubt now_doubt none log (size + length (framed text)) noted appended.2 writes grows appended.0
appended_wrote full done text bytes now before after size now_size doubt now_doubt log (Err error.Full) none has_room noted writes grows appended = absurd appended
appended_wrote full done text bytes now before after size now_size doubt now_doubt log (Err error.Memory) none has_room noted writes grows appended = absurd appended

pub appended_journaled : (done : Call) (text : List ℕ) (bytes now : Option (List ℕ)) (before after : MemoryTarget) (size now_size : ℕ) (doubt now_doubt : Option Doubt) (log : Log MemoryTarget (Unit {0})) (answer : Result (Unit {0}) TargetError)
    → doubt ≡ None → size + length (framed text) ≤ most_bytes → IsTextFor (content_of before) done text → log.items ≡ (before, tt) ∷ [] → Writes done (λ c. false) (Some (content_of before)) (Some (content_of after)) (Ok tt)
    → Grows done (Some (calls_of before)) (Some (calls_of after)) (Ok tt) → HasAppended log (framed text) bytes size now now_size now_doubt answer → IsJournaled bytes before size doubt → IsJournaled now after now_size now_doubt
appended_journaled done text bytes now before after size now_size doubt now_doubt log (Ok t) none few does noted writes grows appended =
    made_journaled done text before after does writes grows bytes now size now_size doubt now_doubt none few appended.0 appended.1 appended.2
appended_journaled done text bytes now before after size now_size doubt now_doubt log (Err (error.Rejected f)) none few does noted writes grows appended = absurd appended
appended_journaled done text bytes now before after size now_size doubt now_doubt log (Err error.Failed) none few does noted writes grows appended =
    doubted_journaled done text before after does writes grows bytes now size now_size doubt now_doubt log none few appended.0 appended.1 noted appended.2
appended_journaled done text bytes now before after size now_size doubt now_doubt log (Err error.Full) none few does noted writes grows appended = absurd appended
appended_journaled done text bytes now before after size now_size doubt now_doubt log (Err error.Memory) none few does noted writes grows appended = absurd appended

-- what is said of a call that is written, of another that is the same
pub wrote_for : (full : Call → Bool) (done asked : Call) (text asked_text : List ℕ) (before : Option (List ℕ)) (holding : MemoryTarget) (now : Option (List ℕ)) (kept : MemoryTarget) (doubt : Option Doubt) (answer : Result (Unit {0}) TargetError) → done ≡ asked → text ≡ asked_text
    → Wrote full done (framed text) before holding now kept doubt answer → Wrote full asked (framed asked_text) before holding now kept doubt answer
wrote_for full done asked text asked_text before holding now kept doubt answer same_call same_text wrote =
    subst (λ (k : Call). Wrote full k (framed asked_text) before holding now kept doubt answer) same_call
    (subst (λ (t : List ℕ). Wrote full done (framed t) before holding now kept doubt answer) same_text wrote)

-- the journal's bytes lead to what the target holds, whether a call is in doubt or none
pub journaled_holds : (bytes : Option (List ℕ)) (kept : MemoryTarget) (size : ℕ) (doubt : Option Doubt) → IsJournaled bytes kept size doubt → IfSome bytes (λ told. IsHeldIn told (held bytes kept doubt))
journaled_holds None kept size doubt journaled = tt
journaled_holds (Some told) kept size None journaled = (length told, record { whole = told; rest = []; parts = sym (append-nil told); sized = refl; leads = journaled.says.0; torn = inl refl })
journaled_holds (Some told) kept size (Some doubt) journaled = journaled.says
