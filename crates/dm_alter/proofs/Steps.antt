-- Taking the changes of a statement one after another.
use Rattle.std.proofs.Common.{◌≡◌, ℕ, ◌+◌, ◌<◌, ◌≤◌, Bool, true, false, List, [], ◌∷◌, ◌++◌, length, get_or, take, drop, Result, Ok, Err, MatchBool, refl, sym, ap, ◌∙◌}
use Rattle.std.specs.Prelude.{⊤}
use Rattle.std.specs.List.{list_all}
use Rattle.std.proofs.lemmas.List.{at_drop_more, at_drop_all, take_more}
use Rattle.std.proofs.lemmas.Bool.{true≢false}
use Rattle.std.proofs.lemmas.List.Folds.{list_all_at}
use Rattle.dm_list.specs.Answer.{Answers}
use Rattle.dm_schema.specs.declared.change.Change.{Change}
use Rattle.dm_schema.specs.declared.fault.EffectFault.{EffectFault}
use Rattle.dm_schema.specs.Layout.{Layout}
use Rattle.dm_schema.specs.Effect.{Making, Reading, is_change, step, steps}
use Rattle.dm_alter.specs.Answers.{is_memory}

-- behind a fault nothing is changed any more
after_fault : (make : Making) (read : Reading) (before : List Change) (e : EffectFault) (cs : List Change) → steps make read before (Err e) cs ≡ Err e
after_fault make read before e [] = refl
after_fault make read before e (c ∷ cs) = refl

one_more : (make : Making) (read : Reading) (changes : List Change) (i : ℕ) (c : Change) (layout : Layout) → i < length changes → c ≡ get_or changes i c
    → steps make read (take i changes) (Ok layout) (drop i changes) ≡ steps make read (take (i + 1) changes) (step make read (take i changes) layout c) (drop (i + 1) changes)
one_more make read changes i c layout lt here =
    let rest = drop (i + 1) changes in
    at_drop_more (λ cs. steps make read (take i changes) (Ok layout) cs) changes i c lt
    ∙ ap (λ x. steps make read (take i changes ++ x ∷ []) (step make read (take i changes) layout x) rest) (sym here)
    ∙ ap (λ front. steps make read front (step make read (take i changes) layout c) rest) (ap (λ x. take i changes ++ x ∷ []) here ∙ sym (take_more changes i c lt))

-- a change that has an effect
pub goes_on : (make : Making) (read : Reading) (changes before : List Change) (i : ℕ) (c : Change) (layout after : Layout) (total : Result Layout EffectFault)
    → i < length changes → c ≡ get_or changes i c → before ≡ take i changes → Ok after ≡ step make read before layout c
    → steps make read (take i changes) (Ok layout) (drop i changes) ≡ total → steps make read (take (i + 1) changes) (Ok after) (drop (i + 1) changes) ≡ total
goes_on make read changes before i c layout after total lt here front took so_far =
    let took_here : Ok after ≡ step make read (take i changes) layout c = rw front at took in
    ap (λ o. steps make read (take (i + 1) changes) o (drop (i + 1) changes)) took_here ∙ sym (one_more make read changes i c layout lt here) ∙ so_far

-- a change that has a fault, or memory that lacks
pub fails : (make : Making) (read : Reading) (changes before : List Change) (i : ℕ) (c : Change) (layout : Layout) (e : EffectFault) (total : Result Layout EffectFault)
    → i < length changes → c ≡ get_or changes i c → before ≡ take i changes → Answers is_memory (Err e) (step make read before layout c)
    → steps make read (take i changes) (Ok layout) (drop i changes) ≡ total → Answers {T = Layout} is_memory (Err e) total
fails make read changes before i c layout e total lt here front answered so_far = by (is_memory e) answered where
  at_front : Err e ≡ step make read before layout c → Err e ≡ total
  at_front faulted =
      let fault_here : Err e ≡ step make read (take i changes) layout c = rw front at faulted in
      sym (after_fault make read (take (i + 1) changes) e (drop (i + 1) changes))
      ∙ ap (λ o. steps make read (take (i + 1) changes) o (drop (i + 1) changes)) fault_here
      ∙ sym (one_more make read changes i c layout lt here) ∙ so_far

  by : (b : Bool) → MatchBool b ⊤ (Err e ≡ step make read before layout c) → MatchBool b ⊤ (Err e ≡ total)
  by true h = h
  by false h = at_front h

pub ends : (make : Making) (read : Reading) (changes : List Change) (i : ℕ) (layout : Layout) (total : Result Layout EffectFault) → length changes ≤ i
    → steps make read (take i changes) (Ok layout) (drop i changes) ≡ total → Ok layout ≡ total
ends make read changes i layout total le so_far = sym (at_drop_all (λ cs. steps make read (take i changes) (Ok layout) cs) changes i le) ∙ so_far

-- each change is one of which an effect can be taken
pub at_place : (changes : List Change) (i : ℕ) (c : Change) → list_all is_change changes ≡ true → i < length changes → c ≡ get_or changes i c → is_change c ≡ true
at_place changes i c all lt here = ap is_change here ∙ by (is_change (get_or changes i c)) refl where
  by : (b : Bool) → is_change (get_or changes i c) ≡ b → is_change (get_or changes i c) ≡ true
  by true e = e
  by false e = let none : list_all is_change changes ≡ false = list_all_at is_change changes i c lt e in absurd (true≢false (sym all ∙ none))
