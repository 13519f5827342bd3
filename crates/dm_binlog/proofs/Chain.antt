-- Going over a file's events, one behind another.
use Rattle.std.proofs.Common.{◌≡◌, ℕ, zero, suc, ◌+◌, ◌-◌, ◌<◌, ◌≤◌, Bool, true, false, cond, ltb, List, [], ◌∷◌, ◌++◌, length, drop, None, slice_index, refl, sym, ap, ◌∙◌, arith, append_assoc, append-nil, length-drop, take}
use Rattle.std.proofs.lemmas.Bool.{ltb-false}
use Rattle.std.proofs.lemmas.List.{drop-drop, take_rest}
use Rattle.dm_binlog.specs.declared.event.Event.{Event}
use Rattle.dm_binlog.specs.declared.event.Events.{Events}
use Rattle.dm_binlog.specs.declared.event.SourceCause.TheVariants as cause
use Rattle.dm_binlog.specs.Framing.{Front, Whole, Tail, Damage, event_at, event_size, fault_at, framed, front_of, header_length, no_events, unfinished, with_event}

-- the events so far, and those of what is left
abbrev pub with_front : List Event → Events → Events
with_front front events = record { list = front ++ events.list; fault = events.fault }

-- an event that is whole is there to its end, header and all
abbrev pub IsThere : ℕ → Front → Type 0
IsThere most (Whole kind size) = (header_length ≤ size) × (size ≤ most)
IsThere most Tail = Unit {0}
IsThere most Damage = Unit {0}

unfinished_there : (most : ℕ) (last : Bool) → IsThere most (unfinished last)
unfinished_there most true = tt
unfinished_there most false = tt

pub front_there : (last : Bool) (bytes : List ℕ) → IsThere (length bytes) (front_of last bytes)
front_there last bytes = by (ltb (length bytes) 19) (ltb (event_size bytes) 19) (ltb (length bytes) (event_size bytes)) refl refl where
  by : (short small : Bool) (torn : Bool) → ltb (event_size bytes) 19 ≡ small → ltb (length bytes) (event_size bytes) ≡ torn
      → IsThere (length bytes) (cond short (unfinished last) (cond small Damage (cond torn (unfinished last) (Whole (slice_index bytes 4) (event_size bytes)))))
  by true small torn s t = unfinished_there _ last
  by false true torn s t = tt
  by false false true s t = unfinished_there _ last
  by false false false s t = (ltb-false _ _ s, ltb-false _ _ t)

pub framed_skips : (last : Bool) (at inside : ℕ) (bytes : List ℕ) → inside ≤ length bytes → framed last at inside bytes ≡ framed last (at + inside) 0 (drop inside bytes)
unfolding framed
framed_skips last at zero bytes h = let same : at ≡ at + 0 = omega arith in ap (λ place. framed last place 0 bytes) same
framed_skips last at (suc inside) [] h = absurd (omega arith)
framed_skips last at (suc inside) (b ∷ bs) h =
    let same : at + 1 + inside ≡ at + suc inside = omega arith in
    framed_skips last (at + 1) inside bs (omega arith) ∙ ap (λ place. framed last place 0 (drop inside bs)) same

-- a whole event, and the events behind it
step : (last : Bool) (at kind size : ℕ) (bytes : List ℕ) → 0 < length bytes → front_of last bytes ≡ Whole kind size → IsThere (length bytes) (Whole kind size)
    → framed last at 0 bytes ≡ with_event (event_at kind size at) (framed last (at + size) 0 (drop size bytes))
unfolding framed
step last at kind size [] some front there = absurd (omega arith)
step last at kind zero (b ∷ bs) some front there = absurd (omega (arith, there.0))
step last at kind (suc size) (b ∷ bs) some front there =
    let less : suc size - 1 ≡ size = omega arith in
    let place : at + 1 + size ≡ at + suc size = omega arith in
    rw front (ap (with_event (event_at kind (suc size) at)) (rw less (framed_skips last (at + 1) size bs (omega (arith, there.1)) ∙ ap (λ p. framed last p 0 (drop size bs)) place)))

pub framed_whole : (last : Bool) (at kind size : ℕ) (bytes : List ℕ) → 0 < length bytes → front_of last bytes ≡ Whole kind size → framed last at 0 bytes ≡ with_event (event_at kind size at) (framed last (at + size) 0 (drop size bytes))
framed_whole last at kind size bytes some front = step last at kind size bytes some front (rw front at (front_there last bytes))

pub framed_damaged : (last : Bool) (at : ℕ) (bytes : List ℕ) → 0 < length bytes → front_of last bytes ≡ Damage → framed last at 0 bytes ≡ no_events (fault_at at cause.Size)
unfolding framed
framed_damaged last at [] some front = absurd (omega arith)
framed_damaged last at (b ∷ bs) some front = rw front refl

pub framed_tail : (last : Bool) (at : ℕ) (bytes : List ℕ) → 0 < length bytes → front_of last bytes ≡ Tail → framed last at 0 bytes ≡ no_events None
unfolding framed
framed_tail last at [] some front = absurd (omega arith)
framed_tail last at (b ∷ bs) some front = rw front refl

pub framed_none : (last : Bool) (at : ℕ) (bytes : List ℕ) → length bytes ≡ 0 → framed last at 0 bytes ≡ no_events None
unfolding framed
framed_none last at [] none = refl
framed_none last at (b ∷ bs) none = absurd (omega arith)

-- what a loop over a file knows of the place that it has come to: the events so far, with those from there on, are all
pub behind_whole : (last : Bool) (file : List ℕ) (at kind size : ℕ) (made more : List Event) (all : Events) → at < length file → Whole kind size ≡ front_of last (take (length file - at) (drop at file)) → more ≡ made ++ event_at kind size at ∷ []
    → with_front made (framed last at 0 (drop at file)) ≡ all → with_front more (framed last (at + size) 0 (drop (at + size) file)) ≡ all
behind_whole last file at kind size made more all within front same known =
    let some : 0 < length (drop at file) = simp length-drop (omega arith) in
    let here : front_of last (drop at file) ≡ Whole kind size = sym (rw take_rest at front) in
    let next = framed_whole last at kind size (drop at file) some here in
    rw (same, ← drop-drop size at file, append_assoc) (ap (with_front made) (sym next) ∙ known)

pub whole_within : (last : Bool) (file : List ℕ) (at kind size : ℕ) → at < length file → Whole kind size ≡ front_of last (take (length file - at) (drop at file)) → (header_length ≤ size) × (at + size ≤ length file)
whole_within last file at kind size within front =
    let here : front_of last (drop at file) ≡ Whole kind size = sym (rw take_rest at front) in
    let there : IsThere (length (drop at file)) (Whole kind size) = rw here at (front_there last (drop at file)) in
    (there.0, let most : size ≤ length file - at = simp length-drop at there.1 in omega arith)

pub stops_damaged : (last : Bool) (file : List ℕ) (at : ℕ) (made : List Event) (all : Events) → at < length file → Damage ≡ front_of last (take (length file - at) (drop at file))
    → with_front made (framed last at 0 (drop at file)) ≡ all → record { list = made; fault = fault_at at cause.Size } ≡ all
stops_damaged last file at made all within front known =
    let some : 0 < length (drop at file) = simp length-drop (omega arith) in
    let here : front_of last (drop at file) ≡ Damage = sym (rw take_rest at front) in
    rw (framed_damaged last at (drop at file) some here, append-nil) at known

pub stops_tail : (last : Bool) (file : List ℕ) (at : ℕ) (made : List Event) (all : Events) → at < length file → Tail ≡ front_of last (take (length file - at) (drop at file))
    → with_front made (framed last at 0 (drop at file)) ≡ all → record { list = made; fault = None } ≡ all
stops_tail last file at made all within front known =
    let some : 0 < length (drop at file) = simp length-drop (omega arith) in
    let here : front_of last (drop at file) ≡ Tail = sym (rw take_rest at front) in
    rw (framed_tail last at (drop at file) some here, append-nil) at known

pub stops_none : (last : Bool) (file : List ℕ) (at : ℕ) (made : List Event) (all : Events) → length file ≤ at
    → with_front made (framed last at 0 (drop at file)) ≡ all → record { list = made; fault = None } ≡ all
stops_none last file at made all end known =
    let none : length (drop at file) ≡ 0 = simp length-drop (omega arith) in
    rw (framed_none last at (drop at file) none, append-nil) at known
