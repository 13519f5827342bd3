-- Folding over one item more.
use Rattle.std.proofs.Common.{◌≡◌, ℕ, zero, suc, ◌+◌, ◌-◌, ◌≤◌, Option, Some, None, Result, Ok, Err, refl, sym, ap, subst, ◌∙◌, arith}
use Rattle.dm_table.specs.Contents.{TableContent, new_table}
use Rattle.dm_files.specs.declared.files.NamedFile.{NamedFile}
use Rattle.std.specs.Prelude.{List}
use Rattle.dm_track.specs.Histories.{History, schema_at}
use Rattle.dm_fold.specs.declared.fault.FoldFault.{FoldFault}
use Rattle.dm_fold.specs.declared.fault.FoldFault.TheVariants as fault
use Rattle.dm_fold.specs.Folds.{and_item, folded, with_item}

one_more : (n : ℕ) → suc n ≡ n + 1
one_more n = omega arith

module _ (files : List NamedFile) (h : History) where
  pub none_done : folded files h 0 ≡ Ok (new_table (schema_at h 0))
  unfolding folded
  none_done = refl

  pub next : (n : ℕ) → folded files h (suc n) ≡ and_item (suc n) (folded files h n) (with_item files h (suc n))
  unfolding folded
  next n = refl

  -- an item that is carried out
  pub goes_on : (n : ℕ) (before behind : TableContent) → folded files h n ≡ Ok before → with_item files h (n + 1) before ≡ Some behind → folded files h (n + 1) ≡ Ok behind
  goes_on n before behind here defined = subst (λ m. with_item files h m before ≡ Some behind → folded files h m ≡ Ok behind) (one_more n) by defined where
    by : with_item files h (suc n) before ≡ Some behind → folded files h (suc n) ≡ Ok behind
    by e = next n ∙ rw (here, e) refl

  -- an item that can't be
  ends : (n : ℕ) (before : TableContent) → folded files h n ≡ Ok before → with_item files h (n + 1) before ≡ None → folded files h (n + 1) ≡ Err (fault.Conflict (n + 1))
  ends n before here none = subst (λ m. with_item files h m before ≡ None → folded files h m ≡ Err (fault.Conflict m)) (one_more n) by none where
    by : with_item files h (suc n) before ≡ None → folded files h (suc n) ≡ Err (fault.Conflict (suc n))
    by e = next n ∙ rw (here, e) refl

  -- behind a conflict there is nothing
  stays : (extra n : ℕ) (f : FoldFault) → folded files h n ≡ Err f → folded files h (extra + n) ≡ Err f
  stays zero n f e =
      let same : n ≡ 0 + n = omega arith in
      subst (λ m. folded files h m ≡ Err f) same e
  stays (suc extra) n f e =
      let same : suc (extra + n) ≡ suc extra + n = omega arith in
      let behind : folded files h (suc (extra + n)) ≡ Err f = next (extra + n) ∙ ap (λ r. and_item (suc (extra + n)) r (with_item files h (suc (extra + n)))) (stays extra n f e) in
      subst (λ m. folded files h m ≡ Err f) same behind

  pub conflicts : (n position : ℕ) (before : TableContent) → n + 1 ≤ position → folded files h n ≡ Ok before → with_item files h (n + 1) before ≡ None → folded files h position ≡ Err (fault.Conflict (n + 1))
  conflicts n position before within here none =
      let apart : position - (n + 1) + (n + 1) ≡ position = omega arith in
      subst (λ m. folded files h m ≡ Err (fault.Conflict (n + 1))) apart (stays (position - (n + 1)) (n + 1) (fault.Conflict (n + 1)) (ends n before here none))
