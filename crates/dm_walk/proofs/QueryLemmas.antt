-- A statement is no longer than the body that it stands in.
use Rattle.std.proofs.Common.{◌≡◌, ◌==◌, ℕ, Bool, true, false, List, Option, Some, None, length, take, ◌≤◌, ◌+◌, if◌then◌else◌, refl, sym, ap, ◌∙◌, subst, arith, length-drop, leb}
use Rattle.std.specs.Option.{option_map}
use Rattle.dm_base.specs.Reading.{Reading, Reader, ◌>>=◌, and_then, just, failing, piece, le, le_value, left_of}
use Rattle.dm_binlog.specs.Bodies.{QueryText, closed, rest, query, query_of}

-- Whatever a reader reads, the bytes stay, and it holds of them and what was read.
abbrev Leaves : {A : Type 0} → (List ℕ → A → Type 0) → Reader A → Type 0
Leaves {A} Holds reader = (before : Reading) (x : A) (after : Reading) → reader before ≡ Some (x, after) → (after.bytes ≡ before.bytes) × Holds before.bytes x

abbrev Keeps : {A : Type 0} → Reader A → Type 0
Keeps {A} reader = Leaves (λ (bytes : List ℕ) (x : A). Unit {0}) reader

leaves_both : {A B : Type 0} (Holds : List ℕ → B → Type 0) (reader : Reader A) (next : A → Reader B) → Keeps reader → ((x : A) → Leaves Holds (next x)) → Leaves Holds (reader >>= next)
leaves_both {A} {B} Holds reader next first second = λ before y after e. by before y after (reader before) refl e where
  by : (before : Reading) (y : B) (after : Reading) (o : Option (A × Reading)) → reader before ≡ o → and_then o next ≡ Some (y, after) → (after.bytes ≡ before.bytes) × Holds before.bytes y
  by before y after None r e = absurd cc
  by before y after (Some read) r e =
      let one = first before read.0 read.1 r in
      let two = second read.0 read.1 y after e in
      (two.0 ∙ one.0, subst (λ (bytes : List ℕ). Holds bytes y) one.0 two.1)

keeps_both : {A B : Type 0} (reader : Reader A) (next : A → Reader B) → Keeps reader → ((x : A) → Keeps (next x)) → Keeps (reader >>= next)
keeps_both {A} {B} reader next first second = leaves_both (λ (bytes : List ℕ) (y : B). Unit {0}) reader next first second

keeps_just : {A : Type 0} (x : A) → Keeps (just x)
keeps_just {A} x = λ before y after e. let both : ◌≡◌ {A = A × Reading} (x, before) (y, after) = cc in (sym (ap (λ (p : A × Reading). p.1.bytes) both), tt)

keeps_failing : {A : Type 0} → Keeps {A = A} failing
keeps_failing {A} = λ before y after e. absurd cc

keeps_piece : (count : ℕ) → Keeps (piece count)
keeps_piece count = λ before y after e. by before y after (leb (before.place + count) (length before.bytes)) e where
  by : (before : Reading) (y : List ℕ) (after : Reading) (b : Bool) → (if◌then◌else◌ {A = Option (List ℕ × Reading)} b (Some (take count (left_of before), record { bytes = before.bytes; place = before.place + count })) None) ≡ Some (y, after) → (after.bytes ≡ before.bytes) × Unit {0}
  by before y after true e =
      let both : ◌≡◌ {A = List ℕ × Reading} (take count (left_of before), record { bytes = before.bytes; place = before.place + count }) (y, after) = cc in
      (sym (ap (λ (p : List ℕ × Reading). p.1.bytes) both), tt)
  by before y after false e = absurd cc

keeps_le : (width : ℕ) → Keeps (le width)
keeps_le width = keeps_both (piece width) (λ bytes. just (le_value bytes)) (keeps_piece width) (λ bytes. keeps_just (le_value bytes))

keeps_closed : {A : Type 0} (x : A) → Keeps (closed x)
keeps_closed {A} x = keeps_both (le 1) (λ zero. if zero == 0 then just x else failing) (keeps_le 1) (λ zero. by (zero == 0)) where
  by : (b : Bool) → Keeps {A = A} (if b then just x else failing)
  by true = keeps_just x
  by false = keeps_failing

abbrev IsShort : List ℕ → QueryText → Type 0
IsShort body q = length q.statement ≤ length body

ends_short : (db : List ℕ) → Leaves IsShort (rest >>= λ statement. just (record { db = db; statement = statement }))
ends_short db = λ before q after e.
    let both : ◌≡◌ {A = QueryText × Reading} (record { db = db; statement = left_of before }, record { bytes = before.bytes; place = length before.bytes }) (q, after) = cc in
    let same : left_of before ≡ q.statement = ap (λ (p : QueryText × Reading). p.0.statement) both in
    let cut : length (left_of before) ≤ length before.bytes = simp length-drop (omega arith) in
    (sym (ap (λ (p : QueryText × Reading). p.1.bytes) both), rw same at cut)

query_leaves : Leaves IsShort query
query_leaves =
    leaves_both IsShort (le 4) _ (keeps_le 4) (λ thread.
    leaves_both IsShort (le 4) _ (keeps_le 4) (λ time.
    leaves_both IsShort (le 1) _ (keeps_le 1) (λ db_length.
    leaves_both IsShort (le 2) _ (keeps_le 2) (λ error.
    leaves_both IsShort (le 2) _ (keeps_le 2) (λ status_length.
    leaves_both IsShort (piece status_length) _ (keeps_piece status_length) (λ status.
    leaves_both IsShort (piece db_length) _ (keeps_piece db_length) (λ name.
    leaves_both IsShort (closed name) _ (keeps_closed name) (λ db. ends_short db))))))))

pub query_short : (body : List ℕ) (q : QueryText) → Some q ≡ query_of body → length q.statement ≤ length body
query_short body q e = by (query (record { bytes = body; place = 0 })) refl e where
  by : (o : Option (QueryText × Reading)) → query (record { bytes = body; place = 0 }) ≡ o → Some q ≡ option_map (λ read. read.0) o → length q.statement ≤ length body
  by None r e = absurd cc
  by (Some read) r e =
      let same : q ≡ read.0 = cc in
      rw same (query_leaves (record { bytes = body; place = 0 }) read.0 read.1 r).1
