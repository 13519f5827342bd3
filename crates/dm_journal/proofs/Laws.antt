-- Laws of what a journal's bytes say: what leads goes on, and is determined.
use Rattle.std.proofs.Common.{◌≡◌, inl, inr, ℕ, ◌^◌, ◌<◌, List, [], ◌∷◌, ◌++◌, length, Option, Some, Result, Ok, refl, sym, ap, ◌∙◌, subst, arith, append_assoc, append-nil}
use Rattle.std.proofs.lemmas.List.{length-append}
use Rattle.dm_table.specs.declared.fault.TableFault.{TableFault}
use Rattle.dm_target.specs.Contents.{Content, and_then, effect, effects, no_content}
use Rattle.dm_target.specs.declared.call.Call.{Call}
use Rattle.dm_stmt_read.proofs.Laws.{one_record}
use Rattle.dm_journal.specs.Framing.{HasRoom, framed}
use Rattle.dm_journal.specs.Contents.{Does, Holds, IsBadAt, IsRest, Leads, call_of, known_of}
use Rattle.dm_journal.specs.Contents.Leads.{Nowhere, Further}
use Rattle.dm_journal.proofs.FramingLaws.{framed_unique, torn_is_not_whole, whole_is_not_empty}

-- What leads goes on.

pub leads_on : (a b c : Content) (xs ys : List ℕ) (first second : List Call) → Leads a xs first b → Leads b ys second c → Leads a (xs ++ ys) (first ++ second) c
leads_on a b c xs ys first second (Nowhere content) further = further
leads_on a b c xs ys first second (Further content middle after text rest done calls room does leads) further =
    subst (λ (bytes : List ℕ). Leads a bytes (done ∷ (calls ++ second)) c) (sym (append_assoc (framed text) rest ys))
    (Further a middle c text (rest ++ ys) done (calls ++ second) room does (leads_on middle b c rest ys calls second leads further))

-- a record leads where its text does
pub leads_by : (content after : Content) (text : List ℕ) (done : Call) → HasRoom text → Does content text done after → Leads content (framed text) (done ∷ []) after
leads_by content after text done room does =
    subst (λ (bytes : List ℕ). Leads content bytes (done ∷ []) after) (append-nil (framed text)) (Further content after after text [] done [] room does (Nowhere after))

-- a record more at the end
pub leads_further : (first content after : Content) (bytes text : List ℕ) (calls : List Call) (done : Call) → Leads first bytes calls content → HasRoom text → Does content text done after
    → Leads first (bytes ++ framed text) (calls ++ done ∷ []) after
leads_further first content after bytes text calls done leads room does = leads_on first content after bytes (framed text) calls (done ∷ []) leads (leads_by content after text done room does)

-- What leads is determined, since a text is one record's. As for what is read, the bytes are fewer than 2 ^ 32.

one_call : (o : Option Call) (a b : Call) → o ≡ Some a → o ≡ Some b → a ≡ b
one_call o a b is_a is_b = cc

pub does_one : (content left right : Content) (text : List ℕ) (a b : Call) → length text < 2 ^ 32 → Does content text a left → Does content text b right → (a ≡ b) × (left ≡ right)
does_one content left right text a b few does does_too =
    let said : does.said ≡ does_too.said = one_record (known_of content) text does_too.said does.said few does_too.reads does.reads in
    let called : a ≡ b = one_call (call_of content does.said) a b does.calls (ap (call_of content) said ∙ does_too.calls) in
    (called, one_content (effect a content) left right does.leaves (ap (λ (c : Call). effect c content) called ∙ does_too.leaves)) where
      one_content : {E : Type 0} (r : Result Content E) (a b : Content) → r ≡ Ok a → r ≡ Ok b → a ≡ b
      one_content r a b is_a is_b = cc

pub rest_is_not_whole : (bytes : List ℕ) → IsRest bytes → (text behind : List ℕ) → HasRoom text → bytes ≡ framed text ++ behind → ⊥
rest_is_not_whole bytes (inl none) text behind room whole = whole_is_not_empty text behind (sym none ∙ whole)
rest_is_not_whole bytes (inr torn) text behind room whole = torn_is_not_whole bytes torn text behind room whole

-- the same bytes lead to the same
pub record IsSameWay (xs ys : List ℕ) (first second : List Call) (left right : Content) : Type 0 where
  pub bytes : xs ≡ ys
  pub calls : first ≡ second
  pub content : left ≡ right

first_text : (a b x y r s : List ℕ) → HasRoom a → HasRoom b → (framed a ++ x) ++ r ≡ (framed b ++ y) ++ s → (a ≡ b) × (x ++ r ≡ y ++ s)
first_text a b x y r s room room_too same = framed_unique a b (x ++ r) (y ++ s) room room_too (sym (append_assoc (framed a) x r) ∙ same ∙ append_assoc (framed b) y s)

-- a record's text and what is behind it are no longer than both
few_parts : (text behind : List ℕ) → length (framed text ++ behind) < 2 ^ 32 → (length text < 2 ^ 32) × (length behind < 2 ^ 32)
few_parts text behind few = (omega (arith, length-append text behind), omega (arith, length-append text behind))

does_from : (a b : Content) (text other : List ℕ) (done : Call) (after : Content) → a ≡ b → text ≡ other → Does b other done after → Does a text done after
does_from a b text other done after same_start same_text does =
    subst (λ (c : Content). Does c text done after) (sym same_start) (subst (λ (t : List ℕ). Does b t done after) (sym same_text) does)

pub leads_same : (a b left right : Content) (xs ys r s : List ℕ) (first second : List Call) → length xs < 2 ^ 32 → a ≡ b → xs ++ r ≡ ys ++ s → IsRest r → IsRest s
    → Leads a xs first left → Leads b ys second right → IsSameWay xs ys first second left right
leads_same a b left right xs ys r s first second few start same rest rest_too (Nowhere content) (Nowhere content_too) = record { bytes = refl; calls = refl; content = start }
leads_same a b left right xs ys r s first second few start same rest rest_too (Nowhere content) (Further content_too middle after text behind done calls room does leads) =
    absurd (rest_is_not_whole r rest text (behind ++ s) room (same ∙ append_assoc (framed text) behind s))
leads_same a b left right xs ys r s first second few start same rest rest_too (Further content middle after text behind done calls room does leads) (Nowhere content_too) =
    absurd (rest_is_not_whole s rest_too text (behind ++ r) room (sym same ∙ append_assoc (framed text) behind r))
leads_same a b left right xs ys r s first second few start same rest rest_too (Further content middle after text behind done calls room does leads) (Further content_too middle_too after_too text_too behind_too done_too calls_too room_too does_too leads_too) =
    let texts = first_text text text_too behind behind_too r s room room_too same in
    let parts = few_parts text behind few in
    let did = does_one a middle middle_too text done done_too parts.0 does (does_from a b text text_too done_too middle_too start texts.0 does_too) in
    let others = leads_same middle middle_too left right behind behind_too r s calls calls_too parts.1 did.1 texts.1 rest rest_too leads leads_too in
    record {
      bytes = λ i. framed (texts.0 i) ++ others.bytes i;
      calls = λ i. did.0 i ∷ others.calls i;
      content = others.content;
    }

no_rest : IsRest []
no_rest = inl refl

pub leads_one : (start left right : Content) (bytes : List ℕ) (first second : List Call) → length bytes < 2 ^ 32 → Leads start bytes first left → Leads start bytes second right → (first ≡ second) × (left ≡ right)
leads_one start left right bytes first second few leads leads_too =
    let way = leads_same start start left right bytes bytes [] [] first second few refl refl no_rest no_rest leads leads_too in
    (way.calls, way.content)

-- whole records are no longer than the bytes that they stand in front of
few_whole : (bytes whole rest : List ℕ) → bytes ≡ whole ++ rest → length bytes < 2 ^ 32 → length whole < 2 ^ 32
few_whole bytes whole rest parts few = omega (arith, length-append whole rest, ap length parts)

pub holds_one : (bytes : List ℕ) (left right : Content) (first second : List Call) (m n : ℕ) → length bytes < 2 ^ 32 → Holds bytes left first m → Holds bytes right second n → (left ≡ right) × (first ≡ second) × (m ≡ n)
holds_one bytes left right first second m n few holds holds_too =
    let way = leads_same no_content no_content left right holds.whole holds_too.whole holds.rest holds_too.rest first second (few_whole bytes holds.whole holds.rest holds.parts few) refl (sym holds.parts ∙ holds_too.parts) holds.torn holds_too.torn holds.leads holds_too.leads in
    (way.content, way.calls, sym holds.sized ∙ ap length way.bytes ∙ holds_too.sized)

-- Bytes that hold something have no bad place.

leads_past : (a b left content : Content) (xs ys r s : List ℕ) (first calls : List Call) → length xs < 2 ^ 32 → a ≡ b → xs ++ r ≡ ys ++ s → IsRest r → (IsRest s → ⊥)
    → ((text behind : List ℕ) (done : Call) (after : Content) → s ≡ framed text ++ behind → HasRoom text → Does content text done after → ⊥)
    → Leads a xs first left → Leads b ys calls content → ⊥
leads_past a b left content xs ys r s first calls few start same rest not_rest nothing (Nowhere here) (Nowhere here_too) = not_rest (subst IsRest same rest)
leads_past a b left content xs ys r s first calls few start same rest not_rest nothing (Nowhere here) (Further here_too middle after text behind done others room does leads) =
    rest_is_not_whole r rest text (behind ++ s) room (same ∙ append_assoc (framed text) behind s)
leads_past a b left content xs ys r s first calls few start same rest not_rest nothing (Further here middle after text behind done others room does leads) (Nowhere here_too) =
    nothing text (behind ++ r) done middle (sym same ∙ append_assoc (framed text) behind r) room (does_from b a text text done middle (sym start) refl does)
leads_past a b left content xs ys r s first calls few start same rest not_rest nothing (Further here middle after text behind done others room does leads) (Further here_too middle_too after_too text_too behind_too done_too others_too room_too does_too leads_too) =
    let texts = first_text text text_too behind behind_too r s room room_too same in
    let parts = few_parts text behind few in
    let did = does_one a middle middle_too text done done_too parts.0 does (does_from a b text text_too done_too middle_too start texts.0 does_too) in
    leads_past middle middle_too left content behind behind_too r s others others_too parts.1 did.1 texts.1 rest not_rest nothing leads leads_too

pub holds_is_not_bad : (bytes : List ℕ) (content : Content) (calls : List Call) (size at : ℕ) → length bytes < 2 ^ 32 → Holds bytes content calls size → IsBadAt bytes at → ⊥
holds_is_not_bad bytes content calls size at few holds bad =
    leads_past no_content no_content content bad.content holds.whole bad.whole holds.rest bad.rest calls bad.calls (few_whole bytes holds.whole holds.rest holds.parts few) refl (sym holds.parts ∙ bad.parts) holds.torn bad.not_rest bad.does_nothing holds.leads bad.leads

-- The moments between records.

-- what calls lead to is their effect, one after another
pub leads_effects : (start after : Content) (bytes : List ℕ) (calls : List Call) → Leads start bytes calls after → effects calls start ≡ Ok after
leads_effects start after bytes calls (Nowhere content) = refl
leads_effects start after bytes calls (Further content middle end text rest done others room does leads) =
    ap (λ (r : Result Content TableFault). and_then r (effects others)) does.leaves ∙ leads_effects middle after rest others leads

-- some of the records, and what is behind them
pub record AreParts (start after : Content) (bytes : List ℕ) (first second : List Call) : Type 0 where
  pub middle : Content
  pub front : List ℕ
  pub back : List ℕ
  pub parts : bytes ≡ front ++ back
  pub leads : Leads start front first middle
  pub further : Leads middle back second after

-- the first calls are those of the first records
pub leads_in_parts : (start after : Content) (bytes : List ℕ) (first second : List Call) → Leads start bytes (first ++ second) after → AreParts start after bytes first second
leads_in_parts start after bytes [] second leads = record { middle = start; front = []; back = bytes; parts = refl; leads = Nowhere start; further = leads }
leads_in_parts start after bytes (x ∷ first) second (Further content middle end text rest done others room does leads) =
    let behind = leads_in_parts middle after rest first second leads in
    record {
      middle = behind.middle;
      front = framed text ++ behind.front;
      back = behind.back;
      parts = ap (λ (b : List ℕ). framed text ++ b) behind.parts ∙ sym (append_assoc (framed text) behind.front behind.back);
      leads = Further content middle behind.middle text behind.front done first room does behind.leads;
      further = behind.further;
    }

-- Every front that is whole records leads where the first calls do, and the others lead on from there.
pub record IsMoment (middle after : Content) (back : List ℕ) (first calls : List Call) : Type 0 where
  pub second : List Call
  pub parts : calls ≡ first ++ second
  pub further : Leads middle back second after

pub leads_at_each_front : (a b middle after : Content) (bytes front back : List ℕ) (first calls : List Call) → length bytes < 2 ^ 32 → a ≡ b → bytes ≡ front ++ back → Leads a bytes calls after → Leads b front first middle
    → IsMoment middle after back first calls
leads_at_each_front a b middle after bytes front back first calls few start parts leads (Nowhere content) = record {
  second = calls;
  parts = refl;
  further = subst (λ (c : Content). Leads c back calls after) start (subst (λ (bs : List ℕ). Leads a bs calls after) parts leads);
}
leads_at_each_front a b middle after bytes front back first calls few start parts (Nowhere here) (Further content next end text rest done others room does leads) =
    absurd (whole_is_not_empty text (rest ++ back) (parts ∙ append_assoc (framed text) rest back))
leads_at_each_front a b middle after bytes front back first calls few start parts (Further here next_here end_here text_here rest_here done_here others_here room_here does_here leads_here) (Further content next end text rest done others room does leads) =
    let same : framed text_here ++ rest_here ≡ framed text ++ (rest ++ back) = parts ∙ append_assoc (framed text) rest back in
    let texts = framed_unique text_here text rest_here (rest ++ back) room_here room same in
    let pieces = few_parts text_here rest_here few in
    let did = does_one a next_here next text_here done_here done pieces.0 does_here (does_from a b text_here text done next start texts.0 does) in
    let moment = leads_at_each_front next_here next middle after rest_here rest back others others_here pieces.1 did.1 texts.1 leads_here leads in
    record {
      second = moment.second;
      parts = λ i. did.0 i ∷ moment.parts i;
      further = moment.further;
    }
