-- What `show` answers of the bytes that are loaded, by whether these are too many; it is what it answers of all that the
-- journal has.
use Rattle.std.proofs.Common.{◌≡◌, ℕ, ◌+◌, ◌≤◌, ◌<◌, Bool, true, false, ◌||◌, List, length, Option, Some, None, Ok, Err, nat_lt, refl, sym, subst, arith}
use Rattle.std.specs.Prelude.{⊤, IfSome, MatchBool}
use Rattle.std.proofs.lemmas.Bool.{lt-ltb, le-ltb, ltb-true, ltb-false}
use Rattle.std.proofs.lemmas.List.{length-take-le, take_all}
use Rattle.dm_base.specs.Outside.{IsFront, front_of}
use Rattle.dm_report.specs.declared.status.Status.TheVariants as status
use Rattle.dm_report.specs.declared.status.Which.TheVariants as which
use Rattle.dm_top.specs.Showing.{most_journal, ShowsRecords, Shows}
use Rattle.dm_top.specs.Top.{Answer, is_memory, is_target_fault, lacks_memory, is_free_of_journal}

-- one byte more than the most tells that there are too many
too_many : (most : ℕ) (bytes : List ℕ) → most < length bytes → nat_lt most (length (front_of most bytes)) ≡ true
too_many most bytes more =
    let enough : most + 1 ≤ length bytes = omega arith in
    lt-ltb most _ (omega (arith, length-take-le (most + 1) bytes enough))

all_of_few : (most : ℕ) (bytes : List ℕ) → length bytes ≤ most → front_of most bytes ≡ bytes
all_of_few most bytes few = take_all (most + 1) bytes (omega arith)

-- `Shows`, by whether there are too many bytes
abbrev ShowsBy : Bool → List ℕ → Answer → Type 0
ShowsBy more bytes answer = MatchBool more (answer ≡ Err (status.Limit which.Journal)) (ShowsRecords bytes answer)

pub shows_limit : (bytes : List ℕ) → most_journal < length bytes → Shows bytes (Err (status.Limit which.Journal))
shows_limit bytes more = subst (λ b. ShowsBy b bytes (Err (status.Limit which.Journal))) (sym (lt-ltb most_journal (length bytes) more)) refl

pub shows_records : (bytes : List ℕ) (answer : Answer) → length bytes ≤ most_journal → ShowsRecords bytes answer → Shows bytes answer
shows_records bytes answer few shown = subst (λ b. ShowsBy b bytes answer) (sym (le-ltb most_journal (length bytes) few)) shown

shows_all : (bytes : List ℕ) (answer : Answer) → Shows (front_of most_journal bytes) answer → Shows bytes answer
shows_all bytes answer shown = by (nat_lt most_journal (length bytes)) refl where
  by : (more : Bool) → nat_lt most_journal (length bytes) ≡ more → ShowsBy (nat_lt most_journal (length bytes)) bytes answer
  by true is =
      let front = front_of most_journal bytes in
      subst (λ more. ShowsBy more bytes answer) (sym is) (subst (λ more. ShowsBy more front answer) (too_many most_journal bytes (ltb-true most_journal (length bytes) is)) shown)
  by false is = subst (λ xs. Shows xs answer) (all_of_few most_journal bytes (ltb-false most_journal (length bytes) is)) shown

freed : (answer : Answer) (A : Type 0) → MatchBool (lacks_memory answer) ⊤ A → MatchBool (is_free_of_journal answer) ⊤ A
freed (Ok text) A told = told
freed (Err s) A told = by (is_memory s) (is_target_fault s) told where
  by : (lacks failed : Bool) → MatchBool lacks ⊤ A → MatchBool (lacks || failed) ⊤ A
  by true failed told = tt
  by false true told = tt
  by false false told = told

-- what is told of the bytes that are loaded is told of all, where these are told
pub told_of_all : (bytes : Option (List ℕ)) (front : List ℕ) (answer : Answer) → IsFront bytes most_journal front → MatchBool (lacks_memory answer) ⊤ (Shows front answer) → IfSome bytes (λ all. MatchBool (is_free_of_journal answer) ⊤ (Shows all answer))
told_of_all None front answer is told = tt
told_of_all (Some bytes) front answer is told = freed answer (Shows bytes answer) (by (lacks_memory answer) told) where
  by : (lacks : Bool) → MatchBool lacks ⊤ (Shows front answer) → MatchBool lacks ⊤ (Shows bytes answer)
  by true told = tt
  by false told = shows_all bytes answer (subst (λ xs. Shows xs answer) is told)
