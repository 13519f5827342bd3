-- The rule of a lock, and what its steps tell. The lock is a table of one word, 0 for free and 1 for taken, and of
-- one slot, for the value.
use Rattle.std.specs.Prelude.{◌≡◌, ◌≢◌, ℕ, ◌+◌, ◌<◌, ◌⊎◌, List, [], ◌∷◌, length, slice_index, Option, Some, None}
use mathlib.Core.Option.{some, none}
use lib.ListN.{get_elem?}
use Rattle.atomic_table.specs.Table.{State, Me, Step}
use Rattle.dm_rulelock.specs.declared.view.View.{View}
use Rattle.dm_rulelock.specs.Positions.{AtMost}
use Rattle.dm_rulelock.specs.Views.{spent, after_take, after_give}

module _ {I : Type 0} where
  abbrev pub total_callers : List (View I) → ℕ
  total_callers [] = 0
  total_callers (v ∷ vs) = v.callers + total_callers vs

  -- the fact holds of each seat, by its number, and its view
  abbrev pub EachView : (ℕ → View I → Type 0) → List (View I) → Type 0
  EachView F views = (seat : ℕ) (v : View I) → get_elem? views seat ≡ some v → F seat v

  -- a view that is not spent has the lock's inputs and one caller at least
  abbrev pub FitsLock : I → ℕ → View I → Type 0
  FitsLock inputs _ v = (v ≡ spent) ⊎ ((0 < v.callers) × (v.inputs ≡ Some inputs))

  -- while the value is at home no view is marked, and none has seen more than the value's positions
  abbrev pub FitsHome : List ℕ → ℕ → View I → Type 0
  FitsHome positions _ v = (v.taken ≡ None) × AtMost v.seen positions

  -- while the holder has the value no other view is marked, and none has seen more than the holder's mark
  abbrev pub FitsHolder : ℕ → List ℕ → ℕ → View I → Type 0
  FitsHolder holder positions seat v = AtMost v.seen positions × ((seat ≡ holder) ⊎ (v.taken ≡ None))

module _ {T I : Type 0} where
  -- the slot is out with the seat whose view is marked
  pub record IsTaken (s : State (Option T) (View I)) : Type 0 where
    pub word : slice_index s.words 0 ≡ 1
    pub holder : ℕ
    pub mark : List ℕ
    pub home : s.homes ≡ none ∷ []
    pub marked : (v : View I) × (get_elem? s.views holder ≡ some v) × (v.taken ≡ Some mark)
    pub views : EachView (FitsHolder holder mark) s.views

module _ {T I : Type 0} (inputs : T → I) (positions : T → List ℕ) where
  -- the value is at home and over the lock's inputs
  pub record IsFree (over : I) (s : State (Option T) (View I)) : Type 0 where
    pub word : slice_index s.words 0 ≡ 0
    pub value : T
    pub home : s.homes ≡ some (Some value) ∷ []
    pub over_inputs : inputs value ≡ over
    pub views : EachView (FitsHome (positions value)) s.views

  -- what holds between any two steps of a lock over these inputs and for so many callers
  pub record KeepsRule (over : I) (callers : ℕ) (s : State (Option T) (View I)) : Type 0 where
    pub one_word : length s.words ≡ 1
    pub all_callers : total_callers s.views ≡ callers
    pub belongs : EachView (FitsLock over) s.views
    pub place : IsFree over s ⊎ IsTaken s

  -- the seat has the slot and the value in it, which is over the inputs and no less far than was seen
  abbrev pub Takes : Me (Option T) (View I) → Me (Option T) (View I) → Type 0
  Takes before after =
      (value : T)
      × (after ≡ (after_take before.0 (positions value), (0, Some value) ∷ before.1))
      × (before.0.inputs ≡ Some (inputs value))
      × AtMost before.0.seen (positions value)

  -- where the word was free the seat takes the value, and else nothing changes
  abbrev pub TriesToTake : Step (Option T) → Me (Option T) (View I) → ℕ → Me (Option T) (View I) → Type 0
  TriesToTake _ before found after = (found ≡ 0 → Takes before after) × (found ≢ 0 → after ≡ before)

module _ {T I : Type 0} (positions : T → List ℕ) where
  -- the seat gives back the slot with the value that it laid there
  abbrev pub GivesBack : Step (Option T) → Me (Option T) (View I) → ℕ → Me (Option T) (View I) → Type 0
  GivesBack _ before _ after = (value : T) → before.1 ≡ (0, Some value) ∷ [] → after ≡ (after_give before.0 (positions value), [])
