-- Readers that take the bytes that were written, whatever stands before and behind them.
use Rattle.std.proofs.Common.{◌≡◌, ℕ, ◌+◌, ◌<◌, ◌^◌, true, List, [], ◌++◌, length, take, drop, leb, Option, Some, refl, arith, append_assoc, append-nil, length-append}
use Rattle.std.specs.Option.{option_map}
use Rattle.std.proofs.lemmas.List.{drop_at, take_at}
use Rattle.std.proofs.lemmas.Bool.Decides.{nat_tests}
use Rattle.dm_base.specs.Reading.{Reader, Reading, ◌>>=◌, just, le, piece}
use Rattle.dm_encode.specs.Numbers.{le_bytes}
use Rattle.dm_encode.proofs.Digits.{le_back, length-le}

-- a reading in the middle of bytes
abbrev pub between : List ℕ → List ℕ → Reading
between done left = record { bytes = done ++ left; place = length done }

-- The reader takes these bytes, and gives the value.
pub record Takes {A : Type 0} (reader : Reader A) (own : List ℕ) (x : A) : Type 0 where
  pub reads : (done rest : List ℕ) → reader (between done (own ++ rest)) ≡ Some (x, between (done ++ own) rest)

pub piece_at : (count : ℕ) (done own rest : List ℕ) → length own ≡ count → piece count (between done (own ++ rest)) ≡ Some (own, between (done ++ own) rest)
piece_at count done own rest long =
    let within : leb (length done + count) (length (done ++ (own ++ rest))) ≡ true = simp length-append (search (nat_tests, arith)) in
    let left : drop (length done) (done ++ (own ++ rest)) ≡ own ++ rest = drop_at done (own ++ rest) (length done) refl in
    let first : take count (own ++ rest) ≡ own = take_at own rest count long in
    rw (within, left, first, append_assoc, length-append, long) refl

pub takes_piece : (count : ℕ) (own : List ℕ) → length own ≡ count → Takes (piece count) own own
takes_piece count own long = record { reads = λ done rest. piece_at count done own rest long }

-- what a reader does with the bytes behind those that the first reader took
pub behind : {A B : Type 0} (reader : Reader A) (own : List ℕ) (x : A) (next : A → Reader B) (done left : List ℕ) (o : Option (B × Reading))
    → Takes reader own x → next x (between (done ++ own) left) ≡ o → (reader >>= next) (between done (own ++ left)) ≡ o
behind {A} {B} reader own x next done left o takes rest = rw (takes.reads done left) rest

pub takes_just : {A : Type 0} (x : A) → Takes (just x) [] x
takes_just x = record { reads = λ done rest. rw append-nil refl }

pub takes_both : {A B : Type 0} (reader : Reader A) (own : List ℕ) (x : A) (next : A → Reader B) (more : List ℕ) (y : B) → Takes reader own x → Takes (next x) more y → Takes (reader >>= next) (own ++ more) y
takes_both {A} {B} reader own x next more y first second = record {
  reads = λ done rest. rw append_assoc (behind reader own x next done (more ++ rest) (Some (y, between (done ++ (own ++ more)) rest)) first (rw (← append_assoc done own more) (second.reads (done ++ own) rest)));
}

pub takes_le : (width n : ℕ) → n < 256 ^ width → Takes (le width) (le_bytes width n) n
takes_le width n small = record { reads = λ done rest. rw (piece_at width done (le_bytes width n) rest (length-le width n), le_back width n small) refl }

-- The reader gives the value of these bytes, where so many stand before them and none behind.
pub record Ends {A : Type 0} (done : List ℕ) (reader : Reader A) (own : List ℕ) (x : A) : Type 0 where
  pub reads : option_map (λ read. read.0) (reader (between done own)) ≡ Some x

pub ends_both : {A B : Type 0} (done : List ℕ) (reader : Reader A) (own : List ℕ) (x : A) (next : A → Reader B) (more : List ℕ) (y : B)
    → Takes reader own x → Ends (done ++ own) (next x) more y → Ends done (reader >>= next) (own ++ more) y
ends_both {A} {B} done reader own x next more y first second = record { reads = rw (first.reads done more) second.reads }

pub ends_just : {A : Type 0} (done left : List ℕ) (x : A) → Ends done (just x) left x
ends_just done left x = record { reads = refl }

pub ends_nil : {A : Type 0} (done : List ℕ) (reader : Reader A) (own : List ℕ) (x : A) → Ends done reader own x → Ends done reader (own ++ []) x
ends_nil {A} done reader own x ends = record { reads = rw append-nil ends.reads }
