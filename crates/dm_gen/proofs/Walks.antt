-- Where a source's steps stand: which ids come next, and how many rows live.
use Rattle.std.proofs.Common.{◌≡◌, ℕ, zero, suc, ◌+◌, ◌/◌, ◌%◌, ◌<◌, ◌≤◌, Bool, true, false, cond, ltb, eqb, length, min, refl, subst, arith, length-append, add-one}
use Rattle.std.proofs.lemmas.Bool.{ltb-true, ltb-false, eqb-true, eqb-false}
use Rattle.std.proofs.lemmas.List.{length-set}
use Rattle.std.proofs.lemmas.List.FromFn.{length-map-range_with_len}
use Rattle.std.proofs.lemmas.List.Edits.{length-remove}
use Rattle.dm_gen.specs.Steps.{Walk, advanced, chosen, deleted, done_before, dumped_row, dumped_rows, first_walk, inserted, place, step, updated, walk_at, with_v}

-- after so many steps
pub record IsWalk (j : ℕ) (w : Walk) : Type 0 where
  pub next : w.next ≤ 3001000 + j
  pub long : length w.live ≡ 1000 + j / 4 + min (j % 4) 2

-- a step leaves it so
kept : (j : ℕ) (w : Walk) → IsWalk j w → IsWalk (j + 1) (step j w).walk
kept j w is = by (ltb (j % 4) 2) (eqb (j % 4) 2) refl refl where
  by : (insert update : Bool) → ltb (j % 4) 2 ≡ insert → eqb (j % 4) 2 ≡ update
      → IsWalk (j + 1) (cond insert (inserted (done_before j) (advanced w)) (cond update (updated (done_before j) (advanced w)) (deleted (done_before j) (advanced w)))).walk
  by true update early third =
      let early = ltb-true (j % 4) 2 early in
      record { next = omega (arith, is.next); long = simp length-append (omega (arith, is.long, early)) }
  by false true early third =
      let third = eqb-true (j % 4) 2 third in
      let long = length-set w.live (place (advanced w)) (with_v ((advanced w).x % 1000) (chosen (advanced w))) in
      record { next = omega (arith, is.next); long = omega (arith, is.long, third, long) }
  by false false early third =
      let late = ltb-false (j % 4) 2 early in
      let other = eqb-false (j % 4) 2 third in
      let some : 0 < length w.live = omega (arith, is.long) in
      let long = length-remove w.live (place (advanced w)) (omega (arith, some)) in
      record { next = omega (arith, is.next); long = omega (arith, is.long, late, other, long) }

dumped_long : (source count : ℕ) → length (dumped_rows source count) ≡ count
unfolding dumped_rows
dumped_long source count = length-map-range_with_len (dumped_row source) 0 count

begun : (number source : ℕ) → source < 4 → IsWalk 0 (first_walk number source)
begun number source few = record { next = omega (arith, few); long = dumped_long source 1000 }

pub is_walk : (number source j : ℕ) → source < 4 → IsWalk j (walk_at number source j)
unfolding walk_at
is_walk number source zero few = begun number source few
is_walk number source (suc j) few = subst (λ n. IsWalk n (walk_at number source (suc j))) (add-one j) (kept j (walk_at number source j) (is_walk number source j few))

-- each history ends with 2000 rows
pub ends_with : (number source : ℕ) → source < 4 → length (walk_at number source 4000).live ≡ 2000
ends_with number source few = (is_walk number source 4000 few).long
