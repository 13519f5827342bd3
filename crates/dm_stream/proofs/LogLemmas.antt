-- What is left of a log.
use Rattle.std.proofs.Common.{take, drop, get_or, ◌-◌, ◌≡◌, ℕ, Bool, true, false, List, [], ◌∷◌, Option, Some, None, length, ◌<◌, ◌≤◌, refl, sym, ap, ◌∙◌, eqb, ◌⊎◌, inl, inr, arith}
use Rattle.std.specs.Prelude.{IsTrue}
use Rattle.std.specs.Option.{option_map}
use Rattle.dm_binlog.specs.declared.event.Event.{Event}
use Rattle.dm_binlog.specs.declared.event.Events.{Events}
use Rattle.dm_binlog.specs.declared.event.Fault.{Fault}
use Rattle.dm_binlog.specs.Framing.{events_of}
use Rattle.std.specs.Prelude.{map, Result, Ok, Err, IfOk, IfSome, IfNone}
use Rattle.std.specs.declared.alloc.AllocError.{AllocError}
use Rattle.std.proofs.lemmas.Bool.Decides.{eqb_tells}
use Rattle.std.proofs.lemmas.List.{take_rest}
use Rattle.dm_stream.specs.declared.event.LogFile as program_file
use Rattle.dm_stream.specs.declared.event.Logged as program_logged
use Rattle.dm_stream.specs.Views.{seen, seen_file}
use Rattle.dm_stream.specs.Sayings.{Heads}
use Rattle.dm_stream.specs.Logs.{LogFile, Logged, Log, is_last, log_fault, log_of, with_file}
use Rattle.dm_stream.specs.Rests.{FileRest, Rest, IsNext, events_left, is_behind, is_passed, is_ready, left, moved, next_of, no_heads, opened, with_rest}

-- an opened file says what the definition says of it
opened_says : (heads : Heads) (file : LogFile) (events : Events) (behind : Log) → with_rest heads (opened file events) behind ≡ with_file heads file events behind
opened_says heads file events behind = by events.fault where
  by : (fault : Option Fault) → with_rest heads (opened file (record { list = events.list; fault = fault })) behind ≡ with_file heads file (record { list = events.list; fault = fault }) behind
  by None = refl
  by (Some f) = refl

-- a file that is passed adds nothing
passed_says : (heads : Heads) (front : FileRest) (behind : Log) → is_passed front ≡ true → with_rest heads front behind ≡ behind
passed_says heads front behind = by front.fault front.behind where
  by : (fault : Option Fault) (es : List Event) → is_passed (record { file = front.file; before = front.before; behind = es; fault = fault }) ≡ true
      → with_rest heads (record { file = front.file; before = front.before; behind = es; fault = fault }) behind ≡ behind
  by None [] e = refl
  by None (x ∷ xs) e = absurd cc
  by (Some f) es e = absurd cc

pub opens : (heads : Heads) (front : FileRest) (file : LogFile) (files : List LogFile) (start : ℕ) → is_passed front ≡ true
    → left heads (record { front = opened file (events_of file.bytes start (is_last files)); files = files; start = 4 }) ≡ left heads (record { front = front; files = file ∷ files; start = start })
opens heads front file files start passed =
    opened_says heads file (events_of file.bytes start (is_last files)) (log_of heads 4 files)
    ∙ sym (passed_says heads front (log_of heads start (file ∷ files)) passed)

abbrev pub behind_next : Rest → Rest
behind_next rest = record { front = moved rest.front; files = rest.files; start = rest.start }

pub next_left : (heads : Heads) (rest : Rest) → is_ready rest ≡ true → IsNext (left heads rest) (next_of heads rest.front) (left heads (behind_next rest))
next_left heads rest = by rest.front.fault rest.front.behind rest.files where
  by : (fault : Option Fault) (es : List Event) (files : List LogFile)
      → let now : Rest = record { front = record { file = rest.front.file; before = rest.front.before; behind = es; fault = fault }; files = files; start = rest.start } in
      is_ready now ≡ true → IsNext (left heads now) (next_of heads now.front) (left heads (behind_next now))
  by None [] [] e = (refl, refl)
  by None [] (f ∷ fs) e = absurd cc
  by None (x ∷ xs) files e = refl
  by (Some f) [] files e = (refl, refl)
  by (Some f) (x ∷ xs) files e = refl

pub same_fault : (heads : Heads) (rest : Rest) → (left heads (behind_next rest)).fault ≡ (left heads rest).fault
same_fault heads rest = by rest.front.fault rest.front.behind where
  by : (fault : Option Fault) (es : List Event)
      → let now : Rest = record { front = record { file = rest.front.file; before = rest.front.before; behind = es; fault = fault }; files = rest.files; start = rest.start } in
      (left heads (behind_next now)).fault ≡ (left heads now).fault
  by None [] = refl
  by None (x ∷ xs) = refl
  by (Some f) [] = refl
  by (Some f) (x ∷ xs) = refl

pub fewer_left : (heads : Heads) (rest : Rest) (next : Logged) → Some next ≡ next_of heads rest.front → events_left (behind_next rest) < events_left rest
fewer_left heads rest next = by rest.front.fault rest.front.behind where
  by : (fault : Option Fault) (es : List Event)
      → let now : Rest = record { front = record { file = rest.front.file; before = rest.front.before; behind = es; fault = fault }; files = rest.files; start = rest.start } in
      Some next ≡ next_of heads now.front → events_left (behind_next now) < events_left now
  by fault [] e = absurd cc
  by None (x ∷ xs) e = omega arith
  by (Some f) (x ∷ xs) e = omega arith

pub ends_behind : (heads : Heads) (rest : Rest) → is_ready rest ≡ true → None ≡ next_of heads rest.front → is_behind (behind_next rest) ≡ true
ends_behind heads rest = by rest.front.behind where
  by : (es : List Event)
      → let now : Rest = record { front = record { file = rest.front.file; before = rest.front.before; behind = es; fault = rest.front.fault }; files = rest.files; start = rest.start } in
      is_ready now ≡ true → None ≡ next_of heads now.front → is_behind (behind_next now) ≡ true
  by [] ready e = ready
  by (x ∷ xs) ready e = absurd cc

pub fault_behind : (heads : Heads) (rest : Rest) → is_behind rest ≡ true → option_map (log_fault rest.front.file) rest.front.fault ≡ (left heads rest).fault
fault_behind heads rest = by rest.front.fault rest.front.behind rest.files where
  by : (fault : Option Fault) (es : List Event) (files : List LogFile)
      → let now : Rest = record { front = record { file = rest.front.file; before = rest.front.before; behind = es; fault = fault }; files = files; start = rest.start } in
      is_behind now ≡ true → option_map (log_fault now.front.file) now.front.fault ≡ (left heads now).fault
  by (Some f) es files e = refl
  by None (x ∷ xs) files e = absurd cc
  by None [] (f ∷ fs) e = absurd cc
  by None [] [] e = refl

-- The program's steps.

last_of : (files : List program_file.LogFile) (last : Bool) → last ≡ eqb (length files) 0 → last ≡ is_last (map seen_file files)
last_of [] last e = e
last_of (f ∷ fs) last e = by (eqb_tells (length (f ∷ fs)) 0) where
  by : ((eqb (length (f ∷ fs)) 0 ≡ true) × (length (f ∷ fs) ≡ 0)) ⊎ ((eqb (length (f ∷ fs)) 0 ≡ false) × (length (f ∷ fs) ≡ 0 → ⊥)) → last ≡ false
  by (inl same) = absurd (omega (arith, same.1))
  by (inr other) = e ∙ other.0

pub opens_next : (heads : Heads) (front made : FileRest) (files : List program_file.LogFile) (none : program_file.LogFile) (start : ℕ) (last : Bool) (now : Rest) → 1 ≤ length files → is_passed now.front ≡ true
    → last ≡ eqb (length (take (length files - 1) (drop 1 files))) 0
    → made ≡ opened (seen_file (get_or files 0 none)) (events_of (get_or files 0 none).bytes.now start last)
    → record { front = front; files = map seen_file files; start = start } ≡ now
    → left heads (record { front = made; files = map seen_file (take (length files - 1) (drop 1 files)); start = 4 }) ≡ left heads now
opens_next heads front made [] none start last now some passed ends opening view = absurd (omega arith)
opens_next heads front made (f ∷ fs) none start last now some passed ends opening view =
    let rest : take (length (f ∷ fs) - 1) (drop 1 (f ∷ fs)) ≡ fs = take_rest (f ∷ fs) 1 in
    let before : is_passed front ≡ true = ap (λ (r : Rest). is_passed r.front) view ∙ passed in
    let at_end : last ≡ is_last (map seen_file fs) = last_of fs last (ends ∙ ap (λ (es : List program_file.LogFile). eqb (length es) 0) rest) in
    rw (rest, opening, at_end) (opens heads front (seen_file f) (map seen_file fs) start before)
    ∙ ap (left heads) view

pub steps : (heads : Heads) (old rest : Rest) (made : FileRest) (r : Result (Option program_logged.Logged) AllocError) → is_ready rest ≡ true → left heads rest ≡ left heads old
    → IfOk r (λ next. option_map seen next ≡ next_of heads rest.front) → IfOk r (λ next. made ≡ moved rest.front)
    → IfOk r (λ next. IsNext (left heads old) (option_map seen next) (left heads (record { front = made; files = rest.files; start = rest.start })))
steps heads old rest made (Err e) ready same gives moves = tt
steps heads old rest made (Ok next) ready same gives moves = rw (gives, moves, ← same) (next_left heads rest ready)

pub keeps_fault : (heads : Heads) (old rest : Rest) (made : FileRest) (r : Result (Option program_logged.Logged) AllocError) → left heads rest ≡ left heads old → IfOk r (λ next. made ≡ moved rest.front)
    → IfOk r (λ next. (left heads (record { front = made; files = rest.files; start = rest.start })).fault ≡ (left heads old).fault)
keeps_fault heads old rest made (Err e) same moves = tt
keeps_fault heads old rest made (Ok next) same moves = rw (moves, ← same) (same_fault heads rest)

pub fewer : (heads : Heads) (old rest : Rest) (made : FileRest) (r : Result (Option program_logged.Logged) AllocError) → left no_heads rest ≡ left no_heads old
    → IfOk r (λ next. option_map seen next ≡ next_of heads rest.front) → IfOk r (λ next. made ≡ moved rest.front)
    → IfOk r (λ next. IfSome next (λ e. events_left (record { front = made; files = rest.files; start = rest.start }) < events_left old))
fewer heads old rest made (Err e) same gives moves = tt
fewer heads old rest made (Ok None) same gives moves = tt
fewer heads old rest made (Ok (Some e)) same gives moves = rw (moves, ← same) (fewer_left heads rest (seen e) gives)

pub behind_last : (heads : Heads) (rest : Rest) (made : FileRest) (r : Result (Option program_logged.Logged) AllocError) → is_ready rest ≡ true
    → IfOk r (λ next. option_map seen next ≡ next_of heads rest.front) → IfOk r (λ next. made ≡ moved rest.front)
    → IfOk r (λ next. IfNone next (IsTrue (is_behind (record { front = made; files = rest.files; start = rest.start }))))
behind_last heads rest made (Err e) ready gives moves = tt
behind_last heads rest made (Ok None) ready gives moves = rw moves (ends_behind heads rest ready gives)
behind_last heads rest made (Ok (Some e)) ready gives moves = tt
