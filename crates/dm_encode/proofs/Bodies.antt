-- Whole events, and their bodies, read back.
use Rattle.std.proofs.Common.{◌≡◌, ℕ, ◌+◌, ◌<◌, ◌≤◌, ◌^◌, Bool, true, false, ltb, List, [], ◌++◌, length, drop, Some, refl, sym, ap, ◌∙◌, arith, append-nil, length-append, slice_index, lit<}
use Rattle.std.proofs.lemmas.List.{drop_at}
use Rattle.std.proofs.lemmas.Bool.Decides.{nat_tests}
use Rattle.dm_base.specs.Reading.{◌>>=◌, just, le, piece}
use Rattle.dm_binlog.specs.Framing.{Whole, event_size, front_of}
use Rattle.dm_binlog.specs.Bodies.{closed, query, query_of, rest}
use Rattle.dm_encode.specs.Numbers.{le_bytes}
use Rattle.dm_encode.specs.Events.{event, format_body, format_event, query_body, zeros}
use Rattle.dm_encode.specs.ReadBack.{IsOnlyEvent, IsWholeEvent}
use Rattle.dm_binlog.specs.Framing.{framed}
use Rattle.dm_encode.proofs.Digits.{le_back}
use Rattle.dm_encode.proofs.Taking.{Takes, Ends, ends_both, takes_both, takes_just, takes_le, takes_piece}

pub format_only : IsOnlyEvent 15 format_event
unfolding framed le_bytes
format_only true = refl
format_only false = refl

pub format_room : (items body : List ℕ) → body ≡ items → items ≡ format_body → length body + 19 < 2 ^ 32
unfolding le_bytes
format_room items body same is = rw (same, is) (lit< tt)

pub length-event : (kind : ℕ) (body : List ℕ) → length (event kind body) ≡ 19 + length body
unfolding le_bytes
length-event kind body = omega arith

-- an event whose size fits has room for its header
pub event_room : (kind : ℕ) (spelled items body : List ℕ) → body ≡ items → items ≡ spelled → length (event kind spelled) < 2 ^ 32 → length body + 19 < 2 ^ 32
event_room kind spelled items body same is small = rw (same, is) (let long = length-event kind spelled in omega (arith, long))

front_whole : (last : Bool) (bytes : List ℕ) (kind size : ℕ) → slice_index bytes 4 ≡ kind → event_size bytes ≡ size → 19 ≤ size → size ≤ length bytes → front_of last bytes ≡ Whole kind size
front_whole last bytes kind size kind_is size_is some within =
    let header : ltb (length bytes) 19 ≡ false = search (nat_tests, arith) in
    let least : ltb size 19 ≡ false = search (nat_tests, arith) in
    let whole : ltb (length bytes) size ≡ false = search (nat_tests, arith) in
    rw (size_is, kind_is, header, least, whole) refl

size_is : (kind : ℕ) (body more : List ℕ) → 19 + length body < 2 ^ 32 → event_size (event kind body ++ more) ≡ 19 + length body
unfolding le_bytes
size_is kind body more small = le_back 4 (19 + length body) small

kind_is : (kind : ℕ) (body more : List ℕ) → slice_index (event kind body ++ more) 4 ≡ kind
unfolding le_bytes
kind_is kind body more = refl

pub event_whole : (kind : ℕ) (body : List ℕ) → 19 + length body < 2 ^ 32 → IsWholeEvent kind (event kind body)
event_whole kind body small last more =
    let long = length-event kind body in
    front_whole last (event kind body ++ more) kind (length (event kind body)) (kind_is kind body more) (size_is kind body more small ∙ sym long) (omega (arith, long)) (simp length-append (omega arith))

pub is_whole : (kind : ℕ) (body items : List ℕ) → length body + 19 < 2 ^ 32 → items ≡ event kind body → IsWholeEvent kind items
is_whole kind body items small is = rw is (event_whole kind body (omega arith))

pub drop_header : (kind : ℕ) (body : List ℕ) → drop 19 (event kind body) ≡ body
unfolding le_bytes
drop_header kind body = refl

zero_4 : Takes (le 4) (zeros 4) 0
unfolding le_bytes
zero_4 = takes_le 4 0 (lit< tt)

zero_2 : Takes (le 2) (zeros 2) 0
unfolding le_bytes
zero_2 = takes_le 2 0 (lit< tt)

zero_1 : Takes (le 1) (zeros 1) 0
unfolding le_bytes
zero_1 = takes_le 1 0 (lit< tt)

pub takes_closed : {A : Type 0} (x : A) → Takes (closed x) (zeros 1) x
takes_closed {A} x = takes_both (le 1) (zeros 1) 0 _ [] x zero_1 (takes_just x)

-- QUERY_EVENT

ends_rest : {A : Type 0} (done left : List ℕ) (next : List ℕ → A) → Ends done (rest >>= λ bytes. just (next bytes)) left (next left)
ends_rest {A} done left next = record { reads = rw (drop_at done left (length done) refl) refl }

query_ends : (db statement : List ℕ) → length db ≤ 255 → Ends [] query (query_body db statement) (record { db = db; statement = statement ++ [] })
query_ends db statement short =
    ends_both [] (le 4) (zeros 4) 0 _ _ _ zero_4
    (ends_both _ (le 4) (zeros 4) 0 _ _ _ zero_4
    (ends_both _ (le 1) (le_bytes 1 (length db)) (length db) _ _ _ (takes_le 1 (length db) (omega arith))
    (ends_both _ (le 2) (zeros 2) 0 _ _ _ zero_2
    (ends_both _ (le 2) (zeros 2) 0 _ _ _ zero_2
    (ends_both _ (piece 0) [] [] _ _ _ (takes_piece 0 [] refl)
    (ends_both _ (piece (length db)) db db _ _ _ (takes_piece (length db) db refl)
    (ends_both _ (closed db) (zeros 1) db _ _ _ (takes_closed db)
    (ends_rest _ (statement ++ []) (λ bytes. record { db = db; statement = bytes })))))))))

query_reads : (db statement : List ℕ) → length db ≤ 255 → query_of (query_body db statement) ≡ Some (record { db = db; statement = statement })
query_reads db statement short = (query_ends db statement short).reads ∙ ap (λ bytes. Some (record { db = db; statement = bytes })) (append-nil statement)

pub format_back : (items body made : List ℕ) → body ≡ made → made ≡ format_body → items ≡ event 15 body → IsOnlyEvent 15 items
format_back items body made same is event_is = rw (event_is, same, is) format_only

pub query_back : (items body made db statement : List ℕ) → length db ≤ 255 → body ≡ made → made ≡ query_body db statement → items ≡ event 2 body → query_of (drop 19 items) ≡ Some (record { db = db; statement = statement })
query_back items body made db statement short same is event_is = rw (event_is, same, is, drop_header 2 (query_body db statement)) (query_reads db statement short)
