-- Records in a journal's bytes: each text stands behind a header that has its length.
use Rattle.std.specs.Prelude.{◌≡◌, ℕ, ◌+◌, ◌^◌, ◌<◌, List, [], ◌∷◌, ◌++◌, length, take, drop, codes}
use Rattle.dm_time.specs.Written.{digits_of}
use Rattle.dm_journal.specs.declared.framing.Front.{Front}
use Rattle.dm_journal.specs.declared.framing.Front.TheVariants as front

-- a comment in SQL: the length of the text behind it, in ten digits
abbrev pub header : ℕ → List ℕ
header size = codes "-- dm " ++ digits_of 10 size ++ 10 ∷ []

abbrev pub framed : List ℕ → List ℕ
framed text = header (length text) ++ text

-- ten digits have room for the length
abbrev pub HasRoom : List ℕ → Type 0
HasRoom text = length text < 10 ^ 10

-- Bytes that a write which broke off leaves: some, but not all, of a record.
pub record IsTorn (bytes : List ℕ) : Type 0 where
  pub text : List ℕ
  pub has_room : HasRoom text
  pub missing : List ℕ
  pub front : framed text ≡ bytes ++ missing
  pub some : 0 < length bytes
  pub not_all : 0 < length missing

-- the header's bytes
abbrev pub header_size : ℕ
header_size = 17

-- What bytes begin with: nothing, a part of a record, a whole one with a text of so many bytes, or neither.
abbrev pub Begins : List ℕ → Front → Type 0
Begins bytes front.End = bytes ≡ []
Begins bytes front.Torn = IsTorn bytes
Begins bytes (front.Whole size) =
    (bytes ≡ framed (take size (drop header_size bytes)) ++ drop (header_size + size) bytes) × (length (take size (drop header_size bytes)) ≡ size) × (size < 10 ^ 10)
Begins bytes front.Other = (bytes ≡ [] → ⊥) × (IsTorn bytes → ⊥) × ((text behind : List ℕ) → HasRoom text → bytes ≡ framed text ++ behind → ⊥)
