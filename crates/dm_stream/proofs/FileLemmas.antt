-- A file whose events are read in turn.
use Rattle.std.proofs.Common.{◌≡◌, ℕ, Bool, true, false, List, [], ◌∷◌, ◌++◌, Option, Some, None, length, take, drop, get_or, ◌+◌, ◌<◌, ◌≤◌, zero, suc, eqb, ◌⊎◌, inl, inr, if◌then◌else◌, refl, sym, ap, ◌∙◌, subst, arith}
use Rattle.std.specs.Prelude.{IfSome}
use Rattle.std.specs.List.{find}
use Rattle.std.specs.BTreeMap.{BTreeMap}
use Rattle.std.proofs.lemmas.List.{reverse-append, take_more, drop_more, drop_all}
use Rattle.std.proofs.lemmas.Option.{slice_get_read}
use Rattle.std.proofs.lemmas.Bool.Decides.{eqb_tells}
use Rattle.dm_binlog.specs.declared.event.Event.{Event}
use Rattle.dm_binlog.specs.declared.event.Fault.{Fault}
use Rattle.dm_binlog.proofs.Laws.{each_within}
use Rattle.std.specs.Option.{is_some}
use Rattle.dm_stream.specs.declared.event.LogFile as program_file
use Rattle.dm_stream.specs.declared.event.Said as program_said
use Rattle.dm_stream.specs.Views.{seen_file, seen_said}
use Rattle.dm_stream.specs.Sayings.{Heads, Said, maps, last_map, said_of}
use Rattle.dm_stream.specs.Logs.{LogFile, Logged}
use Rattle.dm_stream.specs.TableMaps.{map_at, IsKept, IsWithin, Notes}
use Rattle.dm_stream.specs.Rests.{FileRest, is_empty, is_passed, next_of}

last_behind : (file : List ℕ) (before : List Event) (e : Event) (id : ℕ) → last_map file id (before ++ e ∷ []) ≡ (if maps file id e then Some e else last_map file id before)
last_behind file before e id = ap (find (maps file id)) (reverse-append before (e ∷ []))

pub event_within : (file : List ℕ) (events : List Event) (place : ℕ) (table_maps : BTreeMap ℕ Event) (e : Event) → IsKept file events place table_maps → place < length events → e ≡ get_or events place e → IsWithin (length file) e
event_within file events place table_maps e kept there here =
    let found = each_within events 0 (length file) place e kept.in_order (slice_get_read events (length events) place e refl there here) in
    (found.1, found.2)

more_before : (events : List Event) (place : ℕ) (e : Event) → place < length events → e ≡ get_or events place e → take (place + 1) events ≡ take place events ++ e ∷ []
more_before events place e there here = take_more events place e there ∙ ap (λ (x : Event). take place events ++ x ∷ []) (sym here)

pub kept_next : (file : List ℕ) (events : List Event) (place : ℕ) (old new : BTreeMap ℕ Event) (e : Event) → IsKept file events place old → place < length events → e ≡ get_or events place e → Notes file e old new → IsKept file events (place + 1) new
kept_next file events place old new e kept there here notes = record {
  short = kept.short;
  in_order = kept.in_order;
  placed = omega arith;
  last = λ id.
      notes id ∙ ap (λ (o : Option Event). if maps file id e then Some e else o) (kept.last id)
      ∙ sym (last_behind file (take place events) e id) ∙ ap (last_map file id) (sym (more_before events place e there here));
  within = λ id. subst (λ (o : Option Event). IfSome o (IsWithin (length file))) (sym (notes id)) (by id (maps file id e));
} where
  by : (id : ℕ) (b : Bool) → IfSome (if b then Some e else map_at old id) (IsWithin (length file))
  by id true = event_within file events place old e kept there here
  by id false = kept.within id

abbrev at_place : LogFile → List Event → ℕ → Option Fault → FileRest
at_place file events place fault = record { file = file; before = take place events; behind = drop place events; fault = fault }

behind_is : (events : List Event) (place : ℕ) (e : Event) → place < length events → e ≡ get_or events place e → drop place events ≡ e ∷ drop (place + 1) events
behind_is events place e there here = drop_more events place e there ∙ ap (λ (x : Event). x ∷ drop (place + 1) events) (sym here)

next_here : (heads : Heads) (file : LogFile) (events : List Event) (place : ℕ) (fault : Option Fault) (e : Event) → place < length events → e ≡ get_or events place e
    → Some (record { file = file; event = e; said = said_of heads file.bytes (take place events) e }) ≡ next_of heads (at_place file events place fault)
next_here heads file events place fault e there here = rw (behind_is events place e there here) refl

-- What the program says of the next event is what the definition does.
pub next_seen : (heads : Heads) (file : program_file.LogFile) (events : List Event) (place : ℕ) (fault : Option Fault) (e : Event) (said : program_said.Said) (now : FileRest) → place < length events → e ≡ get_or events place e
    → at_place (seen_file file) events place fault ≡ now → seen_said said ≡ said_of heads file.bytes.now (take place events) e
    → Some (record { file = seen_file file; event = e; said = seen_said said }) ≡ next_of heads now
next_seen heads file events place fault e said now there here view says =
    ap (λ (s : Said). let next : Option Logged = Some (record { file = seen_file file; event = e; said = s }) in next) says
    ∙ next_here heads (seen_file file) events place fault e there here
    ∙ ap (next_of heads) view

some_behind : (events : List Event) (place : ℕ) → place < length events → is_empty (drop place events) ≡ false
some_behind [] place h = absurd (omega arith)
some_behind (e ∷ es) zero h = refl
some_behind (e ∷ es) (suc n) h = some_behind es n (omega arith)

empty_behind : (events : List Event) (place : ℕ) → place ≤ length events → eqb place (length events) ≡ is_empty (drop place events)
empty_behind events place within = by (eqb_tells place (length events)) where
  by : ((eqb place (length events) ≡ true) × (place ≡ length events)) ⊎ ((eqb place (length events) ≡ false) × (place ≡ length events → ⊥)) → eqb place (length events) ≡ is_empty (drop place events)
  by (inl same) = let all : length events ≤ place = omega (arith, same.1) in same.0 ∙ ap (λ (es : List Event). is_empty es) (sym (drop_all place events all))
  by (inr other) = let there : place < length events = omega (arith, other.1) in other.0 ∙ sym (some_behind events place there)

pub passes : (file : LogFile) (events : List Event) (place end : ℕ) (fault : Option Fault) (now : FileRest) → place ≤ length events → end ≡ length events → is_some fault ≡ false → at_place file events place fault ≡ now → eqb place end ≡ is_passed now
passes file events place end fault now within all none view = ap (eqb place) all ∙ empty_behind events place within ∙ by fault none ∙ ap is_passed view where
  by : (f : Option Fault) → is_some f ≡ false → is_empty (drop place events) ≡ is_passed (at_place file events place f)
  by None e = refl
  by (Some f) e = absurd cc
