-- Going over the names at which a point is judged, up to the first that it speaks against, and over the points.
use Rattle.std.proofs.Common.{◌≡◌, ℕ, ◌+◌, ◌<◌, ◌≤◌, Bool, true, false, cond, ◌&&◌, List, [], ◌∷◌, ◌++◌, length, get_or, drop, Option, Some, None, Result, IfOk, refl, sym, ap, ◌∙◌}
use Rattle.std.specs.Option.{option_or}
use Rattle.std.proofs.lemmas.List.{at_drop_more, at_drop_all}
use Rattle.std.specs.declared.alloc.AllocError.{AllocError}
use Rattle.dm_list.specs.Answer.{first_refusal}
use Rattle.dm_schema.specs.declared.column.Column.{Column}
use Rattle.dm_schema.specs.NameOrder.{columns_in_order}
use Rattle.dm_lockstate.specs.declared.judging.Point.{Point}
use Rattle.dm_lockstate.specs.declared.judging.Point.TheVariants as point
use Rattle.dm_lockstate.specs.declared.stop.Stop.{Stop}
use Rattle.dm_lockstate.specs.Lock.{Offer, refusals_of}
use Rattle.dm_lockstate.specs.Points.{is_asked, refuses, stop_at, refusals_at}

-- the first refusal at the names of columns
abbrev pub first_at : Offer → Point → List Column → Option Stop
first_at o p columns = first_refusal (refusals_at o p columns)

one_more : (o : Offer) (p : Point) (columns : List Column) (i : ℕ) (c : Column) → i < length columns → c ≡ get_or columns i c
    → first_at o p (drop i columns) ≡ cond (is_asked o p c.name && refuses o p c.name) (Some (stop_at p c.name)) (first_at o p (drop (i + 1) columns))
one_more o p columns i c lt here =
    at_drop_more (first_at o p) columns i c lt
    ∙ ap (λ x. first_at o p (x ∷ drop (i + 1) columns)) (sym here)
    ∙ by (is_asked o p c.name) (refuses o p c.name) refl refl where
      by : (asked refused : Bool) → is_asked o p c.name ≡ asked → refuses o p c.name ≡ refused
          → first_at o p (c ∷ drop (i + 1) columns) ≡ cond (asked && refused) (Some (stop_at p c.name)) (first_at o p (drop (i + 1) columns))
      by true true a r = rw (a, r) refl
      by true false a r = rw (a, r) refl
      by false refused a r = rw a refl

pub found : (o : Offer) (p : Point) (columns : List Column) (i : ℕ) (c : Column) (total : Option Stop) → i < length columns → c ≡ get_or columns i c
    → (is_asked o p c.name && refuses o p c.name) ≡ true → first_at o p (drop i columns) ≡ total → Some (stop_at p c.name) ≡ total
found o p columns i c total lt here against so_far =
    let step : first_at o p (drop i columns) ≡ Some (stop_at p c.name) = one_more o p columns i c lt here ∙ rw against refl in
    sym step ∙ so_far

pub passed : (o : Offer) (p : Point) (columns : List Column) (i : ℕ) (c : Column) (total : Option Stop) → i < length columns → c ≡ get_or columns i c
    → (is_asked o p c.name && refuses o p c.name) ≡ false → first_at o p (drop i columns) ≡ total → first_at o p (drop (i + 1) columns) ≡ total
passed o p columns i c total lt here for_it so_far =
    let step : first_at o p (drop i columns) ≡ first_at o p (drop (i + 1) columns) = one_more o p columns i c lt here ∙ rw for_it refl in
    sym step ∙ so_far

pub ended : (o : Offer) (p : Point) (columns : List Column) (i : ℕ) (total : Option Stop) → length columns ≤ i → first_at o p (drop i columns) ≡ total → None ≡ total
ended o p columns i total le so_far = sym (at_drop_all (first_at o p) columns i le) ∙ so_far

-- the first refusal of two lists
pub first_of_two : (one other : List (Bool × Stop)) → first_refusal (one ++ other) ≡ option_or (first_refusal one) (first_refusal other)
first_of_two [] other = refl
first_of_two (r ∷ rs) other = by r.0 (first_of_two rs other) where
  by : (b : Bool) → first_refusal (rs ++ other) ≡ option_or (first_refusal rs) (first_refusal other)
      → cond b (Some r.1) (first_refusal (rs ++ other)) ≡ option_or (cond b (Some r.1) (first_refusal rs)) (first_refusal other)
  by true h = refl
  by false h = h

-- the first refusal of the four points
pub first_of_four : (a b c d : List (Bool × Stop)) → first_refusal (a ++ b ++ c ++ d) ≡ option_or (first_refusal a) (option_or (first_refusal b) (option_or (first_refusal c) (first_refusal d)))
first_of_four a b c d =
    first_of_two (a ++ b ++ c) d
    ∙ ap (λ o. option_or o (first_refusal d)) (first_of_two (a ++ b) c ∙ ap (λ o. option_or o (first_refusal c)) (first_of_two a b))
    ∙ by (first_refusal a) (first_refusal b) (first_refusal c) where
      by : (x y z : Option Stop) → option_or (option_or (option_or x y) z) (first_refusal d) ≡ option_or x (option_or y (option_or z (first_refusal d)))
      by (Some x) y z = refl
      by None (Some y) z = refl
      by None None z = refl

-- The first refusal, point by point. The columns are those that the shard offers, and those of the joined schema.
pub in_turn : (o : Offer) (gained kept : List Column) → gained ≡ columns_in_order o.schema.columns → kept ≡ columns_in_order o.lock.joined.columns
    → first_refusal (refusals_of o)
    ≡ option_or (first_at o point.ComesAgain gained)
    (option_or (first_at o point.NarrowsDropped kept) (option_or (first_at o point.GainsOtherFill gained) (first_at o point.ChangesFill kept)))
in_turn o gained kept g k = rw (g, k) (first_of_four (refusals_at o point.ComesAgain (columns_in_order o.schema.columns)) (refusals_at o point.NarrowsDropped (columns_in_order o.lock.joined.columns))
    (refusals_at o point.GainsOtherFill (columns_in_order o.schema.columns)) (refusals_at o point.ChangesFill (columns_in_order o.lock.joined.columns)))

-- what a point answered, over columns that were read through a slice
pub answered : (o : Offer) (p : Point) (read columns : List Column) (answer after : Option Stop) → read ≡ columns → answer ≡ first_at o p read → answer ≡ after
    → first_at o p columns ≡ after
answered o p read columns answer after same is_first is = ap (λ l. first_at o p l) (sym same) ∙ sym is_first ∙ is

-- the second, the third and the fourth point decide where those before them refuse nothing
pub by_first : (x rest : Option Stop) (s : Stop) → x ≡ Some s → option_or x rest ≡ Some s
by_first x rest s e = ap (λ y. option_or y rest) e

pub by_rest : (x rest : Option Stop) → x ≡ None → option_or x rest ≡ rest
by_rest x rest e = ap (λ y. option_or y rest) e

pub same_answer : (r : Result (Option Stop) AllocError) (x y : Option Stop) → x ≡ y → IfOk r (λ stop. stop ≡ x) → IfOk r (λ stop. stop ≡ y)
same_answer r x y e h = rw (sym e) h
