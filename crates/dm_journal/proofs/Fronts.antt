-- What bytes begin with, by the look of their front.
use Rattle.std.proofs.Common.{◌≡◌, ℕ, ◌+◌, ◌-◌, ◌^◌, ◌<◌, ◌≤◌, true, false, List, ◌++◌, length, take, drop, replicate, refl, sym, ap, ◌∙◌, subst, arith, append_assoc}
use Rattle.std.proofs.lemmas.Bool.{true≢false}
use Rattle.std.proofs.lemmas.List.{take-append-drop, drop-drop, length-append, length-drop, length-replicate, length-take-le, drop_all}
use Rattle.dm_time.specs.Texts.{number_of}
use Rattle.dm_journal.specs.Framing.{HasRoom, IsTorn, header, framed}
use Rattle.dm_journal.specs.Headers.{header_shape, begins_as, length_digits}
use Rattle.dm_journal.proofs.Headers.{begins_front, begins_further, header_begins, header_there, digits_have_room}

-- a text behind its header, of a known length
framed_as : (text : List ℕ) (size : ℕ) → length text ≡ size → framed text ≡ header size ++ text
framed_as text size long = ap (λ n. header n ++ text) long

framed_begins : (text rest : List ℕ) → begins_as header_shape (framed text ++ rest) ≡ true
framed_begins text rest = header_begins (length text) (text ++ rest)

torn_begins : (bytes : List ℕ) → IsTorn bytes → begins_as header_shape bytes ≡ true
torn_begins bytes torn = begins_front header_shape bytes torn.missing (subst (λ (b : List ℕ). begins_as header_shape b ≡ true) torn.front (header_begins (length torn.text) torn.text))

-- Bytes that don't look like a header are neither torn nor a record.

pub not_torn : (bytes : List ℕ) → begins_as header_shape bytes ≡ false → IsTorn bytes → ⊥
not_torn bytes other torn = true≢false (sym (torn_begins bytes torn) ∙ other)

pub not_whole : (bytes : List ℕ) → begins_as header_shape bytes ≡ false → (text behind : List ℕ) → HasRoom text → bytes ≡ framed text ++ behind → ⊥
not_whole bytes other text behind room is = true≢false (sym (framed_begins text behind) ∙ ap (begins_as header_shape) (sym is) ∙ other)

-- a header with fewer bytes behind it than it says
pub torn_text : (bytes : List ℕ) → begins_as header_shape bytes ≡ true → 17 ≤ length bytes → length bytes < 17 + number_of (length_digits bytes) → IsTorn bytes
torn_text bytes h long short =
    let size = number_of (length_digits bytes) in
    let behind = drop 17 bytes in
    let missing : List ℕ = replicate (size - length behind) 0 in
    let behind_long : length behind ≡ length bytes - 17 = length-drop 17 bytes in
    let filled : length (behind ++ missing) ≡ size = rw (length-append behind missing, length-replicate {A = ℕ} (size - length behind) 0) (omega arith) in
    record {
      text = behind ++ missing;
      has_room = subst (λ n. n < 10 ^ 10) (sym filled) (digits_have_room bytes h);
      missing = missing;
      front = framed_as (behind ++ missing) size filled ∙ sym (append_assoc (header size) behind missing) ∙ ap (λ (b : List ℕ). b ++ missing) (sym (header_there bytes h long));
      some = omega arith;
      not_all = rw (length-replicate {A = ℕ} (size - length behind) 0) (omega arith);
    }

-- a part of a header
pub torn_header : (bytes : List ℕ) → begins_as header_shape bytes ≡ true → 0 < length bytes → length bytes < 17 → IsTorn bytes
torn_header bytes h some short =
    let rest = drop (length bytes) header_shape in
    let whole = bytes ++ rest in
    let shaped = begins_further header_shape bytes refl h in
    let size = number_of (length_digits whole) in
    let text : List ℕ = replicate size 0 in
    let long : length text ≡ size = length-replicate {A = ℕ} size 0 in
    let rest_long : length rest ≡ 17 - length bytes = length-drop (length bytes) header_shape in
    let whole_long : length whole ≡ 17 = rw (length-append bytes rest) (omega arith) in
    let there : whole ≡ header size = header_there whole shaped (omega arith) ∙ ap (λ (b : List ℕ). header size ++ b) (drop_all 17 whole (omega arith)) in
    record {
      text = text;
      has_room = subst (λ n. n < 10 ^ 10) (sym long) (digits_have_room whole shaped);
      missing = rest ++ text;
      front = framed_as text size long ∙ ap (λ (b : List ℕ). b ++ text) (sym there) ∙ append_assoc bytes rest text;
      some = some;
      not_all = rw (length-append rest text) (omega arith);
    }

-- a whole record
pub whole_there : (bytes : List ℕ) (size : ℕ) → begins_as header_shape bytes ≡ true → number_of (length_digits bytes) ≡ size → 17 + size ≤ length bytes →
    (bytes ≡ framed (take size (drop 17 bytes)) ++ drop (17 + size) bytes) × (length (take size (drop 17 bytes)) ≡ size) × (size < 10 ^ 10)
whole_there bytes size h is fits =
    let long : 17 ≤ length bytes = omega arith in
    let behind = drop 17 bytes in
    let text = take size behind in
    let text_fits : size ≤ length behind = rw (length-drop 17 bytes) (omega arith) in
    let text_long : length text ≡ size = length-take-le size behind text_fits in (
      header_there bytes h long ∙ (λ i. header (is i) ++ sym (take-append-drop size behind) i) ∙ sym (append_assoc (header size) text (drop size behind))
          ∙ (λ i. sym (framed_as text size text_long) i ++ drop-drop size 17 bytes i),
      text_long,
      subst (λ n. n < 10 ^ 10) is (digits_have_room bytes h),
    )
