-- Events stand in order and don't meet, whatever a file holds.
use Rattle.std.proofs.Common.{◌≡◌, ℕ, zero, suc, ◌+◌, ◌-◌, ◌<◌, ◌≤◌, Bool, true, false, cond, List, [], ◌∷◌, length, drop, take, filter, not, nat_eq, ◌==◌, ◌&&◌, ◌||◌, Option, Some, None, length-drop, length-take, slice_get, ◌⊎◌, inl, inr, refl, arith}
use Rattle.std.specs.Option.{IfSome, option_map_or}
use Rattle.std.specs.Cmp.Lexicographic.{pointwise, as_long}
use Rattle.dm_binlog.specs.declared.event.Event.{Event}
use Rattle.dm_binlog.specs.declared.event.Events.{Events}
use Rattle.dm_binlog.specs.declared.event.Fault.{Fault}
use Rattle.dm_binlog.specs.declared.event.SourceCause.TheVariants as cause
use Rattle.dm_binlog.specs.Framing.{Front, Whole, Tail, Damage, checked, event_at, events_of, fault_at, format_fault, framed, from_start, front_of, header_length, is_before, is_boundary, is_open_magic, magic, no_events, started, told}
use Rattle.dm_binlog.specs.Order.{AreInOrder}
use Rattle.dm_binlog.proofs.Chain.{IsThere, front_there}

-- events that begin behind a place begin behind an earlier one
pub earlier : (from before : ℕ) (events : List Event) (end : ℕ) → before ≤ from → AreInOrder from events end → AreInOrder before events end
earlier from before [] end h order = omega arith
earlier from before (e ∷ es) end h order = (omega (arith, order.0), order.1, order.2, order.3)

pub first_within : (from : ℕ) (e : Event) (es : List Event) (end : ℕ) → AreInOrder from (e ∷ es) end → e.end ≤ end
first_within from e [] end order = order.3
first_within from e (f ∷ es) end order = let rest = first_within e.end f es end order.3 in omega (arith, rest, order.3.0, order.3.1, order.3.2)

-- the first of some events in order is within their end
pub first_end : (events found : List Event) (first : Event) (from end : ℕ) → AreInOrder from events end → found ≡ events → Some first ≡ slice_get found 0 → first.end ≤ end
first_end [] found first from end order same here = absurd (let none : Some first ≡ None = rw same at here in cc)
first_end (e ∷ es) found first from end order same here =
    let one : Some first ≡ Some e = rw same at here in
    let it : first ≡ e = cc in
    rw it (first_within from e es end order)

-- Each event's body is a range of what the events stand in.
pub each_within : (events : List Event) (from end i : ℕ) (e : Event) → AreInOrder from events end → slice_get events i ≡ Some e → (e.body ≡ e.at + header_length) × (e.body ≤ e.end) × (e.end ≤ end)
each_within [] from end i e order here = absurd cc
each_within (x ∷ xs) from end zero e order here =
    let it : x ≡ e = cc in
    rw (← it) (order.1, order.2, first_within from x xs end order)
each_within (x ∷ xs) from end (suc i) e order here = each_within xs x.end end i e order.3 here

pub reaches : (from : ℕ) (events : List Event) (end : ℕ) → AreInOrder from events end → from ≤ end
reaches from [] end order = order
reaches from (e ∷ es) end order = let rest = reaches e.end es end order.3 in omega (arith, rest, order.0, order.1, order.2)

pub filter_in_order : (test : Event → Bool) (from : ℕ) (events : List Event) (end : ℕ) → AreInOrder from events end → AreInOrder from (filter test events) end
filter_in_order test from [] end order = order
filter_in_order test from (e ∷ es) end order = by (test e) (filter_in_order test e.end es end order.3) where
  by : (b : Bool) → AreInOrder e.end (filter test es) end → AreInOrder from (cond b (e ∷ filter test es) (filter test es)) end
  by true rest = (order.0, order.1, order.2, rest)
  by false rest = earlier e.end from (filter test es) end (omega (arith, order.0, order.1, order.2)) rest

-- what follows a front at a place, where the rest is in order behind it
told_in_order : (front : Front) (at most : ℕ) (behind : ℕ → Events) → IsThere most front
    → ((size : ℕ) → 0 < size → size ≤ most → AreInOrder (at + size) (behind size).list (at + most)) → AreInOrder at (told front at behind).list (at + most)
told_in_order (Whole kind size) at most behind there rest = (omega arith, refl, omega (arith, there.0), rest size (omega (arith, there.0)) there.1)
told_in_order Tail at most behind there rest = omega arith
told_in_order Damage at most behind there rest = omega arith

framed_in_order : (last : Bool) (at inside : ℕ) (bytes : List ℕ) → inside ≤ length bytes → AreInOrder (at + inside) (framed last at inside bytes).list (at + length bytes)
unfolding framed
framed_in_order last at inside [] h = omega arith
framed_in_order last at (suc inside) (b ∷ bs) h =
    let from : at + 1 + inside ≡ at + suc inside = omega arith in
    let end : at + 1 + length bs ≡ at + suc (length bs) = omega arith in
    rw (← from, ← end) (framed_in_order last (at + 1) inside bs (omega arith))
framed_in_order last at zero (b ∷ bs) h =
    let here : at + 0 ≡ at = omega arith in
    rw here (told_in_order (front_of last (b ∷ bs)) at (suc (length bs)) (λ size. framed last (at + 1) (size - 1) bs) (front_there last (b ∷ bs))
    (λ size some within.
    let from : at + 1 + (size - 1) ≡ at + size = omega arith in
    let end : at + 1 + length bs ≡ at + suc (length bs) = omega arith in
    rw (← from, ← end) (framed_in_order last (at + 1) (size - 1) bs (omega arith))))

-- a framing's events stand in the file, one behind another
pub framing_in_order : (last : Bool) (file : List ℕ) → 4 ≤ length file → AreInOrder 4 (framed last 4 0 (drop 4 file)).list (length file)
framing_in_order last file h =
    let from : 4 + 0 ≡ 4 = refl in
    let end : 4 + length (drop 4 file) ≡ length file = simp length-drop (omega arith) in
    rw (← end) (framed_in_order last 4 0 (drop 4 file) (omega arith))

pub framing_is_in_order : (last : Bool) (file : List ℕ) (events : Events) → 4 ≤ length file → events ≡ framed last 4 0 (drop 4 file) → AreInOrder 4 events.list (length file)
framing_is_in_order last file events h same = rw same (framing_in_order last file h)

-- The same up to the place of a fault.

told_stops : (front : Front) (at most : ℕ) (behind : ℕ → Events) → IsThere most front
    → ((size : ℕ) → 0 < size → size ≤ most → IfSome (behind size).fault (λ fault. AreInOrder (at + size) (behind size).list fault.at))
    → IfSome (told front at behind).fault (λ fault. AreInOrder at (told front at behind).list fault.at)
told_stops (Whole kind size) at most behind there rest = by (behind size).fault (rest size (omega (arith, there.0)) there.1) where
  by : (fault : Option Fault) → IfSome fault (λ fault. AreInOrder (at + size) (behind size).list fault.at) → IfSome fault (λ fault. AreInOrder at (event_at kind size at ∷ (behind size).list) fault.at)
  by None h = h
  by (Some fault) h = (omega arith, refl, omega (arith, there.0), h)
told_stops Tail at most behind there rest = tt
told_stops Damage at most behind there rest = omega arith

framed_stops : (last : Bool) (at inside : ℕ) (bytes : List ℕ) → inside ≤ length bytes
    → IfSome (framed last at inside bytes).fault (λ fault. AreInOrder (at + inside) (framed last at inside bytes).list fault.at)
unfolding framed
framed_stops last at inside [] h = tt
framed_stops last at (suc inside) (b ∷ bs) h =
    let from : at + 1 + inside ≡ at + suc inside = omega arith in
    rw (← from) (framed_stops last (at + 1) inside bs (omega arith))
framed_stops last at zero (b ∷ bs) h =
    let here : at + 0 ≡ at = omega arith in
    rw here (told_stops (front_of last (b ∷ bs)) at (suc (length bs)) (λ size. framed last (at + 1) (size - 1) bs) (front_there last (b ∷ bs))
    (λ size some within.
    let from : at + 1 + (size - 1) ≡ at + size = omega arith in
    rw (← from) (framed_stops last (at + 1) (size - 1) bs (omega arith))))

-- The first event's faults and the choice by the start keep both.

pub checked_in_order : (file : List ℕ) (events : Events) (end : ℕ) → AreInOrder 4 events.list end → AreInOrder 4 (checked file events).list end
checked_in_order file events end order = by events.list order where
  by : (list : List Event) → AreInOrder 4 list end → AreInOrder 4 (checked file (record { list = list; fault = events.fault })).list end
  by [] order = order
  by (e ∷ es) order = elim (format_fault file e) as (λ o. AreInOrder 4 (option_map_or {U = Events} (λ cause. no_events (fault_at e.at cause)) o (record { list = e ∷ es; fault = events.fault })).list end)
      [ None ↦ order | Some cause ↦ reaches 4 (e ∷ es) end order ]

pub started_in_order : (start : ℕ) (events : Events) (end : ℕ) → AreInOrder 4 events.list end → AreInOrder 4 (started start events).list end
started_in_order start events end order =
    elim (is_boundary start events.list || is_before events.fault start)
    as (λ b. AreInOrder 4 (cond {A = Events} b (record { list = from_start start events.list; fault = events.fault }) (record { list = filter (λ e. e.at == 4) events.list; fault = fault_at start cause.Start })).list end)
    [ true ↦ filter_in_order _ 4 events.list end order | false ↦ filter_in_order _ 4 events.list end order ]

named_long : (file : List ℕ) → pointwise nat_eq (take 4 file) magic ≡ true → 4 ≤ length file
named_long file e = let long : length (take 4 file) ≡ 4 = as_long nat_eq (take 4 file) magic e in let short = length-take 4 file in omega (arith, long, short)

-- The law: the events of a file stand in it one behind another, and don't meet.
pub events_in_order : (file : List ℕ) (start : ℕ) (last : Bool) → AreInOrder 0 (events_of file start last).list (length file)
events_in_order file start last = by (last && is_open_magic file) (pointwise nat_eq (take 4 file) magic) refl where
  by : (open_ended named : Bool) → pointwise nat_eq (take 4 file) magic ≡ named
      → AreInOrder 0 (cond {A = Events} open_ended (no_events None) (cond {A = Events} (not named) (no_events (fault_at 0 cause.Magic)) (started start (checked file (framed last 4 0 (drop 4 file)))))).list (length file)
  by true named e = omega arith
  by false false e = omega arith
  by false true e = earlier 4 0 _ (length file) (omega arith) (started_in_order start _ (length file) (checked_in_order file _ (length file) (framing_in_order last file (named_long file e))))

-- what stands before a fault ends at its place or before it
abbrev Stops : Events → Type 0
Stops events = IfSome events.fault (λ fault. AreInOrder 4 events.list fault.at)

framing_stops : (last : Bool) (file : List ℕ) → Stops (framed last 4 0 (drop 4 file))
framing_stops last file = framed_stops last 4 0 (drop 4 file) (omega arith)

checked_stops : (file : List ℕ) (events : Events) (end : ℕ) → AreInOrder 4 events.list end → Stops events → Stops (checked file events)
checked_stops file events end order stops = by events.list order stops where
  by : (list : List Event) → AreInOrder 4 list end → Stops (record { list = list; fault = events.fault }) → Stops (checked file (record { list = list; fault = events.fault }))
  by [] order stops = stops
  by (e ∷ es) order stops = elim (format_fault file e) as (λ o. Stops (option_map_or {U = Events} (λ cause. no_events (fault_at e.at cause)) o (record { list = e ∷ es; fault = events.fault })))
      [ None ↦ stops | Some cause ↦ order.0 ]

-- the place of a fault is behind the events, or it is the start
abbrev pub StopsOrStarts : ℕ → Events → Type 0
StopsOrStarts start events = IfSome events.fault (λ fault. AreInOrder 0 events.list fault.at ⊎ (fault.at ≡ start))

started_stops : (start : ℕ) (events : Events) → Stops events → StopsOrStarts start (started start events)
started_stops start events stops = by (is_boundary start events.list || is_before events.fault start) events.fault stops where
  by : (b : Bool) (fault : Option Fault) → IfSome fault (λ fault. AreInOrder 4 events.list fault.at)
      → StopsOrStarts start (cond {A = Events} b (record { list = from_start start events.list; fault = fault }) (record { list = filter (λ e. e.at == 4) events.list; fault = fault_at start cause.Start }))
  by true None stops = tt
  by true (Some fault) stops = inl (earlier 4 0 _ fault.at (omega arith) (filter_in_order _ 4 events.list fault.at stops))
  by false fault stops = inr refl

-- The law: a fault's place is at the end of the last event or behind it, or it is the start.
pub fault_behind_events : (file : List ℕ) (start : ℕ) (last : Bool) → StopsOrStarts start (events_of file start last)
fault_behind_events file start last = by (last && is_open_magic file) (pointwise nat_eq (take 4 file) magic) refl where
  by : (open_ended named : Bool) → pointwise nat_eq (take 4 file) magic ≡ named
      → StopsOrStarts start (cond {A = Events} open_ended (no_events None) (cond {A = Events} (not named) (no_events (fault_at 0 cause.Magic)) (started start (checked file (framed last 4 0 (drop 4 file))))))
  by true named e = tt
  by false false e = inl (omega arith)
  by false true e = started_stops start _ (checked_stops file _ (length file) (framing_in_order last file (named_long file e)) (framing_stops last file))

pub chosen_in_order : (file : List ℕ) (start : ℕ) (events tested chosen : Events) (end : ℕ) → AreInOrder 4 events.list end → tested ≡ checked file events → chosen ≡ started start tested → AreInOrder 0 chosen.list end
chosen_in_order file start events tested chosen end order test choice =
    rw (choice, test) (earlier 4 0 (started start (checked file events)).list end (omega arith) (started_in_order start (checked file events) end (checked_in_order file events end order)))
