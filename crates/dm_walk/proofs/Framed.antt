-- Each event of a file stands where its header says: its body behind the header, its end by its size.
use Rattle.std.proofs.Common.{◌≡◌, ℕ, zero, suc, ◌+◌, ◌-◌, Bool, true, false, cond, ltb, not, nat_eq, ◌==◌, ◌&&◌, ◌||◌, List, [], ◌∷◌, ◌++◌, drop, take, filter, length, slice_index, Option, Some, None, refl, sym, ap, ◌∙◌, subst}
use Rattle.std.specs.Prelude.{reverse}
use Rattle.std.specs.List.{find}
use Rattle.std.specs.Option.{option_map_or}
use Rattle.std.specs.Cmp.Lexicographic.{pointwise}
use Rattle.std.proofs.lemmas.List.{drop-drop, reverse-append}
use Rattle.dm_binlog.specs.declared.event.Event.{Event}
use Rattle.dm_binlog.specs.declared.event.Events.{Events}
use Rattle.dm_binlog.specs.declared.event.SourceCause.TheVariants as cause
use Rattle.dm_binlog.specs.Framing.{Front, Whole, Tail, Damage, checked, event_size, events_of, fault_at, format_fault, framed, from_start, front_of, header_length, is_before, is_boundary, is_open_magic, magic, no_events, started, told, unfinished}
use Rattle.dm_walk.specs.Changes.{end_of}

abbrev pub IsFramed : List ℕ → Event → Type 0
IsFramed file e = (e.body ≡ e.at + header_length) × (e.end ≡ end_of file e.at)

abbrev pub AreFramed : List ℕ → List Event → Type 0
AreFramed file [] = Unit {0}
AreFramed file (e ∷ es) = IsFramed file e × AreFramed file es

filter_framed : (test : Event → Bool) (file : List ℕ) (events : List Event) → AreFramed file events → AreFramed file (filter test events)
filter_framed test file [] all = tt
filter_framed test file (e ∷ es) all = by (test e) (filter_framed test file es all.1) where
  by : (b : Bool) → AreFramed file (filter test es) → AreFramed file (cond b (e ∷ filter test es) (filter test es))
  by true rest = (all.0, rest)
  by false rest = rest

pub both_framed : (file : List ℕ) (events others : List Event) → AreFramed file events → AreFramed file others → AreFramed file (events ++ others)
both_framed file [] others first second = second
both_framed file (e ∷ es) others first second = (first.0, both_framed file es others first.1 second)

reverse_framed : (file : List ℕ) (events : List Event) → AreFramed file events → AreFramed file (reverse events)
reverse_framed file [] all = tt
reverse_framed file (e ∷ es) all =
    subst (λ (events : List Event). AreFramed file events) (sym (reverse-append (e ∷ []) es)) (both_framed file (reverse es) (e ∷ []) (reverse_framed file es all.1) (all.0, tt))

find_framed : (test : Event → Bool) (file : List ℕ) (events : List Event) (e : Event) → AreFramed file events → find test events ≡ Some e → IsFramed file e
find_framed test file [] e all found = absurd cc
find_framed test file (x ∷ xs) e all found = by (test x) found (find_framed test file xs e all.1) where
  by : (b : Bool) → cond {A = Option Event} b (Some x) (find test xs) ≡ Some e → (find test xs ≡ Some e → IsFramed file e) → IsFramed file e
  by true is rest = let same : x ≡ e = cc in subst (λ (f : Event). IsFramed file f) same all.0
  by false is rest = rest is

-- the last event of some that passes a test
pub last_framed : (test : Event → Bool) (file : List ℕ) (events : List Event) (e : Event) → AreFramed file events → find test (reverse events) ≡ Some e → IsFramed file e
last_framed test file events e all found = find_framed test file (reverse events) e (reverse_framed file events all) found

abbrev HasSize : List ℕ → Front → Type 0
HasSize bytes (Whole kind size) = size ≡ event_size bytes
HasSize bytes Tail = Unit {0}
HasSize bytes Damage = Unit {0}

unfinished_size : (bytes : List ℕ) (last : Bool) → HasSize bytes (unfinished last)
unfinished_size bytes true = tt
unfinished_size bytes false = tt

front_size : (last : Bool) (bytes : List ℕ) → HasSize bytes (front_of last bytes)
front_size last bytes = by (ltb (length bytes) 19) (ltb (event_size bytes) 19) (ltb (length bytes) (event_size bytes)) where
  by : (short small torn : Bool) → HasSize bytes (cond {A = Front} short (unfinished last) (cond {A = Front} small Damage (cond {A = Front} torn (unfinished last) (Whole (slice_index bytes 4) (event_size bytes)))))
  by true small torn = unfinished_size bytes last
  by false true torn = tt
  by false false true = unfinished_size bytes last
  by false false false = refl

told_framed : (file : List ℕ) (front : Front) (at : ℕ) (behind : ℕ → Events) → HasSize (drop at file) front → ((size : ℕ) → AreFramed file (behind size).list) → AreFramed file (told front at behind).list
told_framed file (Whole kind size) at behind has rest = ((refl, ap (λ (n : ℕ). at + n) has), rest size)
told_framed file Tail at behind has rest = tt
told_framed file Damage at behind has rest = tt

tail_is : (file : List ℕ) (at b : ℕ) (bs : List ℕ) → b ∷ bs ≡ drop at file → bs ≡ drop (at + 1) file
tail_is file at b bs is = ap (drop 1) is ∙ drop-drop 1 at file

framed_are : (last : Bool) (file : List ℕ) (at inside : ℕ) (bytes : List ℕ) → bytes ≡ drop at file → AreFramed file (framed last at inside bytes).list
unfolding framed
framed_are last file at inside [] is = tt
framed_are last file at (suc inside) (b ∷ bs) is = framed_are last file (at + 1) inside bs (tail_is file at b bs is)
framed_are last file at zero (b ∷ bs) is =
    told_framed file (front_of last (b ∷ bs)) at (λ size. framed last (at + 1) (size - 1) bs)
    (subst (λ (bytes : List ℕ). HasSize bytes (front_of last (b ∷ bs))) is (front_size last (b ∷ bs)))
    (λ size. framed_are last file (at + 1) (size - 1) bs (tail_is file at b bs is))

checked_framed : (file : List ℕ) (events : Events) → AreFramed file events.list → AreFramed file (checked file events).list
checked_framed file events all = by events.list all where
  by : (list : List Event) → AreFramed file list → AreFramed file (checked file (record { list = list; fault = events.fault })).list
  by [] all = all
  by (e ∷ es) all = elim (format_fault file e) as (λ o. AreFramed file (option_map_or {U = Events} (λ cause. no_events (fault_at e.at cause)) o (record { list = e ∷ es; fault = events.fault })).list)
      [ None ↦ all | Some cause ↦ tt ]

started_framed : (start : ℕ) (file : List ℕ) (events : Events) → AreFramed file events.list → AreFramed file (started start events).list
started_framed start file events all =
    elim (is_boundary start events.list || is_before events.fault start)
    as (λ b. AreFramed file (cond {A = Events} b (record { list = from_start start events.list; fault = events.fault }) (record { list = filter (λ e. e.at == 4) events.list; fault = fault_at start cause.Start })).list)
    [ true ↦ filter_framed _ file events.list all | false ↦ filter_framed _ file events.list all ]

pub events_framed : (file : List ℕ) (start : ℕ) (last : Bool) → AreFramed file (events_of file start last).list
events_framed file start last = by (last && is_open_magic file) (pointwise nat_eq (take 4 file) magic) where
  by : (open_ended named : Bool)
      → AreFramed file (cond {A = Events} open_ended (no_events None) (cond {A = Events} (not named) (no_events (fault_at 0 cause.Magic)) (started start (checked file (framed last 4 0 (drop 4 file)))))).list
  by true named = tt
  by false false = tt
  by false true = started_framed start file (checked file (framed last 4 0 (drop 4 file))) (checked_framed file (framed last 4 0 (drop 4 file)) (framed_are last file 4 0 (drop 4 file) refl))
