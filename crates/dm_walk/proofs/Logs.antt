-- Walking over a log, event by event.
use Rattle.std.proofs.Common.{◌≡◌, ℕ, zero, suc, ◌+◌, ◌<◌, ◌≤◌, Bool, true, false, ◌&&◌, List, [], ◌∷◌, ◌++◌, map, fold, length, take, drop, get_or, Option, is_some, refl, sym, ap, ◌∙◌, arith}
use Rattle.std.proofs.Math.ListN.{set}
use Rattle.dm_route.specs.declared.rules.Rules.{Rules}
use Rattle.dm_stream.specs.declared.event.LogFault.{LogFault}
use Rattle.dm_stream.specs.Logs.{Logged, Log}
use Rattle.dm_walk.specs.declared.track.Track.{Track}
use Rattle.dm_walk.specs.Steps.{have_ended}
use Rattle.dm_walk.specs.Walks.{walked, with_end, with_event, Statements}

-- a history that has ended stays as it is
pub ended_stays : (statements : Statements) (rules : Rules) (t : Track) (events : List Logged) → is_some t.fault ≡ true → fold (with_event statements rules) t events ≡ t
ended_stays statements rules t [] over = refl
ended_stays statements rules t (e ∷ es) over =
    let same : with_event statements rules t e ≡ t = rw over refl in
    ap (λ (now : Track). fold (with_event statements rules) now es) same ∙ ended_stays statements rules t es over

end_stays : (fault : Option LogFault) (t : Track) → is_some t.fault ≡ true → with_end fault t ≡ t
end_stays fault t over = rw over refl

pub walked_stays : (statements : Statements) (rules : Rules) (log : Log) (fault : Option LogFault) (t : Track) → is_some t.fault ≡ true → with_end fault t ≡ walked statements rules log t
walked_stays statements rules log fault t over =
    end_stays fault t over ∙ sym (ap (with_end log.fault) (ended_stays statements rules t log.events over) ∙ end_stays log.fault t over)

both : (a b : Bool) → (a && b) ≡ true → (a ≡ true) × (b ≡ true)
both true b e = (refl, e)
both false b e = absurd cc

-- where all have ended, any fault will do
pub all_stay : (statements : Statements) (rules : Rules) (log : Log) (fault : Option LogFault) (tracks : List Track) → have_ended tracks ≡ true → map (with_end fault) tracks ≡ map (walked statements rules log) tracks
all_stay statements rules log fault [] over = refl
all_stay statements rules log fault (t ∷ ts) over =
    let parts = both (is_some t.fault) (have_ended ts) over in
    let first = walked_stays statements rules log fault t parts.0 in
    let rest = all_stay statements rules log fault ts parts.1 in
    rw (first, rest) refl

-- behind the last event
pub walked_end : (statements : Statements) (rules : Rules) (log : Log) (fault : Option LogFault) (tracks : List Track) → log.events ≡ [] → fault ≡ log.fault → map (with_end fault) tracks ≡ map (walked statements rules log) tracks
walked_end statements rules log fault tracks none same = rw (none, same) refl

walked_next : (statements : Statements) (rules : Rules) (old new : Log) (e : Logged) (t : Track) → old.events ≡ e ∷ new.events → new.fault ≡ old.fault
    → walked statements rules new (with_event statements rules t e) ≡ walked statements rules old t
walked_next statements rules old new e t next same = rw (next, same) refl

-- an event more for each history, and then what is left of the log
pub all_next : (statements : Statements) (rules : Rules) (old new : Log) (e : Logged) (tracks : List Track) → old.events ≡ e ∷ new.events → new.fault ≡ old.fault
    → map (walked statements rules new) (map (λ t. with_event statements rules t e) tracks) ≡ map (walked statements rules old) tracks
all_next statements rules old new e [] next same = refl
all_next statements rules old new e (t ∷ ts) next same =
    let first = walked_next statements rules old new e t next same in
    let rest = all_next statements rules old new e ts next same in
    rw (first, rest) refl

-- One history more has the event.
pub one_placed : (f : Track → Track) (all : List Track) (i : ℕ) (d : Track) → i < length all → set (map f (take i all) ++ drop i all) i (f (get_or (map f (take i all) ++ drop i all) i d)) ≡ map f (take (suc i) all) ++ drop (suc i) all
one_placed f [] i d inside = absurd (omega arith)
one_placed f (x ∷ xs) zero d inside = refl
one_placed f (x ∷ xs) (suc i) d inside = ap (λ (ts : List Track). f x ∷ ts) (one_placed f xs i d (omega arith))

pub event_placed : (f : Track → Track) (all now : List Track) (i : ℕ) (here new : Track) → i < length all → now ≡ map f (take i all) ++ drop i all → new ≡ f (get_or now i here)
    → set now i new ≡ map f (take (i + 1) all) ++ drop (i + 1) all
event_placed f all now i here new inside now_is new_is =
    let next : suc i ≡ i + 1 = omega arith in
    let value : new ≡ f (get_or (map f (take i all) ++ drop i all) i here) = new_is ∙ ap (λ (ts : List Track). f (get_or ts i here)) now_is in
    ap (λ (ts : List Track). set ts i new) now_is ∙ ap (set (map f (take i all) ++ drop i all) i) value ∙ one_placed f all i here inside ∙ ap (λ (n : ℕ). map f (take n all) ++ drop n all) next

pub all_placed : (f : Track → Track) (all : List Track) (i : ℕ) → length all ≤ i → map f (take i all) ++ drop i all ≡ map f all
all_placed f [] zero past = refl
all_placed f [] (suc i) past = refl
all_placed f (x ∷ xs) zero past = absurd (omega arith)
all_placed f (x ∷ xs) (suc i) past = ap (λ (ts : List Track). f x ∷ ts) (all_placed f xs i (omega arith))

-- what is known of all histories behind one more event
pub all_kept : (statements : Statements) (rules : Rules) (old new : Log) (e : Logged) (tracks next all : List Track) → old.events ≡ e ∷ new.events → new.fault ≡ old.fault → next ≡ map (λ t. with_event statements rules t e) tracks
    → map (walked statements rules old) tracks ≡ all → map (walked statements rules new) next ≡ all
all_kept statements rules old new e tracks next all taken same next_is known =
    ap (map (walked statements rules new)) next_is ∙ all_next statements rules old new e tracks taken same ∙ known

pub take_whole : (front rest : List Track) (n : ℕ) → n ≡ length front → take n (front ++ rest) ≡ front
take_whole [] rest zero long = refl
take_whole [] rest (suc n) long = absurd (omega arith)
take_whole (t ∷ ts) rest zero long = absurd (omega arith)
take_whole (t ∷ ts) rest (suc n) long = ap (λ (front : List Track). t ∷ front) (take_whole ts rest n (omega arith))
