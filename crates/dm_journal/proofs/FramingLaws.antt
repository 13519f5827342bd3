-- Laws of records in bytes: which record bytes begin with is determined, and bytes that are torn begin with none.
use Rattle.std.proofs.Common.{◌≡◌, ℕ, ◌<◌, List, [], ◌∷◌, ◌++◌, length, drop, refl, sym, ap, ◌∙◌, arith, append_assoc, append-nil}
use Rattle.std.proofs.lemmas.List.{length-append}
use Rattle.dm_time.specs.Texts.{number_of}
use Rattle.dm_journal.specs.Framing.{HasRoom, IsTorn, framed}
use Rattle.dm_journal.specs.Headers.{length_digits}
use Rattle.dm_journal.proofs.Headers.{header_read}

parts_same : (a b x y : List ℕ) → length a ≡ length b → a ++ x ≡ b ++ y → (a ≡ b) × (x ≡ y)
parts_same [] [] x y long same = (refl, same)
parts_same [] (d ∷ b) x y long same = absurd (omega arith)
parts_same (c ∷ a) [] x y long same = absurd (omega arith)
parts_same (c ∷ a) (d ∷ b) x y long same =
    let first : c ≡ d = cc in
    let others : a ++ x ≡ b ++ y = cc in
    let rest_long : length a ≡ length b = omega arith in
    let rest = parts_same a b x y rest_long others in
    (λ i. first i ∷ rest.0 i, rest.1)

-- bytes begin with one record, and what is behind it is determined, too
pub framed_unique : (a b x y : List ℕ) → HasRoom a → HasRoom b → framed a ++ x ≡ framed b ++ y → (a ≡ b) × (x ≡ y)
framed_unique a b x y room room_too same =
    let long : length a ≡ length b = sym (header_read (length a) (a ++ x) room) ∙ ap (λ bytes. number_of (length_digits bytes)) same ∙ header_read (length b) (b ++ y) room_too in
    parts_same a b x y long (ap (drop 17) same)

-- a part of a record, not the whole of it, doesn't begin with a whole one
pub part_is_not_whole : (text front missing : List ℕ) → HasRoom text → framed text ≡ front ++ missing → 0 < length missing → (own behind : List ℕ) → HasRoom own → front ≡ framed own ++ behind → ⊥
part_is_not_whole text front missing room is some own behind room_too whole =
    let same : framed text ++ [] ≡ framed own ++ (behind ++ missing) = append-nil (framed text) ∙ is ∙ ap (λ (b : List ℕ). b ++ missing) whole ∙ append_assoc (framed own) behind missing in
    let nothing = (framed_unique text own [] (behind ++ missing) room room_too same).1 in
    absurd (omega (arith, length-append behind missing, ap length nothing))

-- bytes that are torn don't begin with a whole record
pub torn_is_not_whole : (bytes : List ℕ) → IsTorn bytes → (text behind : List ℕ) → HasRoom text → bytes ≡ framed text ++ behind → ⊥
torn_is_not_whole bytes torn text behind room whole = part_is_not_whole torn.text bytes torn.missing torn.has_room torn.front torn.not_all text behind room whole

pub torn_is_not_empty : (bytes : List ℕ) → IsTorn bytes → bytes ≡ [] → ⊥
torn_is_not_empty bytes torn none = absurd (omega (arith, torn.some, ap length none))

-- no record is empty
pub whole_is_not_empty : (text behind : List ℕ) → [] ≡ framed text ++ behind → ⊥
whole_is_not_empty text behind none = cc
