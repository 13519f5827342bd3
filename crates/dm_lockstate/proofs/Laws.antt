-- Laws of the lock machine: what an accepted offer leaves, what each point says of it, and what a dropped pair says.
use Rattle.std.proofs.Common.{◌≡◌, ℕ, ◌==◌, ◌<◌, ◌≢◌, Bool, true, false, not, ◌&&◌, cond, List, [], ◌∷◌, ◌++◌, length, Option, Some, None, Result, Ok, Err, refl, sym, ap, subst, ◌∙◌, inl, inr}
use Rattle.std.specs.Prelude.{◌⊎◌, IsTrue, slice_set}
use Rattle.std.specs.List.{filter, list_all}
use Rattle.std.specs.Option.{option_or, option_and_then}
use Rattle.std.proofs.lemmas.Bool.{false≢true, cases_Bool, not-true, not-false, not_from_false, and_from, and_parts, eq-eqb, eqb-true, both_ways, false_from_ne_true}
use Rattle.std.proofs.lemmas.Bool.Decides.{eqb_tells}
use Rattle.std.proofs.lemmas.List.{get_or-set_same, get_or-set_other, length-set}
use Rattle.dm_list.specs.Answer.{first_refusal}
use Rattle.dm_value.specs.declared.value.Value.{Value}
use Rattle.dm_schema.specs.declared.column.Column.{Column}
use Rattle.dm_schema.specs.Layout.{Layout}
use Rattle.dm_schema.specs.Names.{Text, same_name, column_at, has_column}
use Rattle.dm_schema.specs.NameOrder.{columns_in_order}
use Rattle.dm_schema.specs.Fill.{fill}
use Rattle.dm_schema.specs.Schemas.{is_formed}
use Rattle.dm_join.specs.declared.no_join.NoJoin.{NoJoin}
use Rattle.dm_join.specs.AtMost.{at_most}
use Rattle.dm_join.specs.Groups.{are_formed}
use Rattle.dm_join.specs.Join.{join}
use Rattle.dm_join.proofs.Lists.{IsIn, all_of, all_from, any_of, any_from, in_filter, from_filter, in_map, from_map, in_left, in_right, in_either}
use Rattle.dm_join.proofs.NameLemmas.{same_is_equal, same_from}
use Rattle.dm_join.proofs.Orders.{column_name, found_column, in_ordered}
use Rattle.dm_join.proofs.Exact.{value_same}
use Rattle.dm_join.proofs.JoinAnswers.{not_refused}
use Rattle.dm_join.proofs.JoinLaws.{join_bounds}
use Rattle.dm_join.proofs.Laws.{has_found, lacks_unfound, found_there, unfound_lacks, replaced_from}
use Rattle.dm_lockstate.specs.declared.state.Dropped.{Dropped}
use Rattle.dm_lockstate.specs.declared.stop.Stop.{Stop}
use Rattle.dm_lockstate.specs.declared.stop.Stop.TheVariants as stop
use Rattle.dm_lockstate.specs.Lock.{Lock, Offer, no_layout, recorded, is_dropped, is_paired, first_by, first, gained, kept, names_of, pairs_of, dropped_after, narrows, narrows_to, fill_at, same_fill, joined_before, comes_again, narrows_dropped, gains_other_fill, changes_fill, tests, refusals_of, offer_by, offer}

-- What an accepted offer leaves.

abbrev pub offer_to : Lock → ℕ → Layout → Layout → Offer
offer_to lock member schema joined = record { lock = lock; member = member; schema = schema; joined = joined; dropped = dropped_after lock member schema joined }

pub record Accepted (lock : Lock) (member : ℕ) (schema : Layout) (after : Lock) : Type 0 where
  pub schemas : after.schemas ≡ slice_set lock.schemas member schema
  pub joined : join after.schemas ≡ Ok after.joined
  pub dropped : after.dropped ≡ dropped_after lock member schema after.joined
  pub unrefused : first_refusal (refusals_of (offer_to lock member schema after.joined)) ≡ None

pub accepted : (lock : Lock) (member : ℕ) (schema : Layout) (after : Lock) → offer lock member schema ≡ Ok after → Accepted lock member schema after
unfolding offer
accepted lock member schema after e = by (join (slice_set lock.schemas member schema)) refl where
  by : (r : Result Layout NoJoin) → join (slice_set lock.schemas member schema) ≡ r → Accepted lock member schema after
  by (Err none) is = absurd (cc (sym (ap (offer_by lock member schema) is) ∙ e))
  by (Ok joined) is =
      let there = not_refused (first_refusal (refusals_of (offer_to lock member schema joined)))
      (record { schemas = slice_set lock.schemas member schema; dropped = dropped_after lock member schema joined; joined = joined }) after
      (sym (ap (offer_by lock member schema) is) ∙ e) in
      subst (Accepted lock member schema) there.1 (record { schemas = refl; joined = is; dropped = refl; unrefused = there.0 })

-- the shard's recorded schema is the one that it offered
pub recorded_is_offered : (lock : Lock) (member : ℕ) (schema : Layout) (after : Lock) → member < length lock.schemas → offer lock member schema ≡ Ok after → recorded after member ≡ schema
recorded_is_offered lock member schema after lt e =
    ap (λ s. recorded (record { schemas = s; dropped = after.dropped; joined = after.joined }) member) (accepted lock member schema after e).schemas
    ∙ get_or-set_same lock.schemas member schema no_layout lt

-- the other shards' stay
pub others_stay : (lock : Lock) (member other : ℕ) (schema : Layout) (after : Lock) → other ≢ member → offer lock member schema ≡ Ok after → recorded after other ≡ recorded lock other
others_stay lock member other schema after apart e =
    ap (λ s. recorded (record { schemas = s; dropped = after.dropped; joined = after.joined }) other) (accepted lock member schema after e).schemas
    ∙ get_or-set_other lock.schemas member other schema no_layout apart

-- each shard's recorded schema is at most the joined one
pub each_at_most : (lock : Lock) (member : ℕ) (schema : Layout) (after : Lock) (s : Layout) → IsTrue (are_formed after.schemas) → offer lock member schema ≡ Ok after → IsIn s after.schemas → at_most s after.joined ≡ true
each_at_most lock member schema after s formed e i = join_bounds after.schemas after.joined s formed (accepted lock member schema after e).joined i

-- What each point says of an accepted offer.

-- of a list without refusals none refuses
unrefused_at : {E : Type 0} (rs : List (Bool × E)) (r : Bool × E) → first_refusal rs ≡ None → IsIn r rs → r.0 ≡ false
unrefused_at [] r none i = absurd i
unrefused_at (q ∷ qs) r none i = by (cases_Bool q.0) i (unrefused_at qs r) where
  by : (q.0 ≡ true) ⊎ (q.0 ≡ false) → IsIn r (q ∷ qs) → (first_refusal qs ≡ None → IsIn r qs → r.0 ≡ false) → r.0 ≡ false
  by (inl refused) i later = absurd (cc (sym (ap (λ b. cond b (Some q.1) (first_refusal qs)) refused) ∙ none))
  by (inr passed) (inl is) later = sym (ap (λ x. x.0) is) ∙ passed
  by (inr passed) (inr i) later = later (sym (ap (λ b. cond b (Some q.1) (first_refusal qs)) passed) ∙ none) i

-- no point speaks against the offer at a name at which it is asked
record Unrefused (o : Offer) : Type 0 where
  again : (name : Text) → IsIn name (gained o) → comes_again o name ≡ false
  narrow : (name : Text) → IsIn name (kept o) → narrows_dropped o name ≡ false
  fills : (name : Text) → IsIn name (gained o) → gains_other_fill o name ≡ false
  others : (name : Text) → IsIn name (kept o) → changes_fill o name ≡ false

unrefused : (o : Offer) → first_refusal (refusals_of o) ≡ None → Unrefused o
unrefused o none = record {
  again = λ name i. unrefused_at (refusals_of o) (comes_again o name, stop.NotFullyDropped name) none
      (in_left (again ++ narrow ++ fills) others _ (in_left (again ++ narrow) fills _ (in_left again narrow _ (in_map (λ n. (comes_again o n, stop.NotFullyDropped n)) (gained o) name i))));
  narrow = λ name i. unrefused_at (refusals_of o) (narrows_dropped o name, stop.NotFullyDropped name) none
      (in_left (again ++ narrow ++ fills) others _ (in_left (again ++ narrow) fills _ (in_right again narrow _ (in_map (λ n. (narrows_dropped o n, stop.NotFullyDropped n)) (kept o) name i))));
  fills = λ name i. unrefused_at (refusals_of o) (gains_other_fill o name, stop.FillDiffers name) none
      (in_left (again ++ narrow ++ fills) others _ (in_right (again ++ narrow) fills _ (in_map (λ n. (gains_other_fill o n, stop.FillDiffers n)) (gained o) name i)));
  others = λ name i. unrefused_at (refusals_of o) (changes_fill o name, stop.FillDiffers name) none
      (in_right (again ++ narrow ++ fills) others _ (in_map (λ n. (changes_fill o n, stop.FillDiffers n)) (kept o) name i));
} where
  again : List (Bool × Stop)
  again = tests (comes_again o) (λ n. stop.NotFullyDropped n) (gained o)

  narrow : List (Bool × Stop)
  narrow = tests (narrows_dropped o) (λ n. stop.NotFullyDropped n) (kept o)

  fills : List (Bool × Stop)
  fills = tests (gains_other_fill o) (λ n. stop.FillDiffers n) (gained o)

  others : List (Bool × Stop)
  others = tests (changes_fill o) (λ n. stop.FillDiffers n) (kept o)

-- a column of a layout is among the names in order
is_named : (layout : Layout) (name : Text) (c : Column) → column_at layout.columns name ≡ Some c → IsIn name (names_of layout)
is_named layout name c at =
    let found = found_column layout.columns name c at in
    subst (λ n. IsIn n (names_of layout)) found.1 (in_map column_name (columns_in_order layout.columns) c (in_ordered column_name layout.columns c found.0))

is_gained : (lock : Lock) (member : ℕ) (schema joined : Layout) (name : Text) (own : Column) → column_at (recorded lock member).columns name ≡ None → column_at schema.columns name ≡ Some own
    → IsIn name (gained (offer_to lock member schema joined))
is_gained lock member schema joined name own lacks has =
    in_filter (λ n. not (has_column (recorded lock member).columns n)) (names_of schema) name (is_named schema name own has) (not_from_false _ (lacks_unfound (recorded lock member).columns name lacks))

is_kept : (lock : Lock) (member : ℕ) (schema joined : Layout) (name : Text) (before now : Column) → column_at lock.joined.columns name ≡ Some before → column_at joined.columns name ≡ Some now
    → IsIn name (kept (offer_to lock member schema joined))
is_kept lock member schema joined name before now was is =
    in_filter (λ n. has_column joined.columns n) (names_of lock.joined) name (is_named lock.joined name before was) (has_found joined.columns name now is)

passed : (lock : Lock) (member : ℕ) (schema : Layout) (after : Lock) → offer lock member schema ≡ Ok after → Unrefused (offer_to lock member schema after.joined)
passed lock member schema after e = unrefused (offer_to lock member schema after.joined) (accepted lock member schema after e).unrefused

-- Point 3: a column that comes to the shard isn't one that it dropped and that is still downstream.
pub gained_is_not_dropped : (lock : Lock) (member : ℕ) (schema : Layout) (after : Lock) (name : Text) (own : Column) → offer lock member schema ≡ Ok after
    → column_at (recorded lock member).columns name ≡ None → column_at schema.columns name ≡ Some own → is_dropped lock.dropped member name ≡ false
gained_is_not_dropped lock member schema after name own e lacks has = (passed lock member schema after e).again name (is_gained lock member schema after.joined name own lacks has)

first_fails : (a b : Bool) → (a && b) ≡ false → b ≡ true → a ≡ false
first_fails true b e h = sym h ∙ e
first_fails false b e h = refl

second_fails : (a b : Bool) → (a && b) ≡ false → a ≡ true → b ≡ false
second_fails true b e h = e
second_fails false b e h = absurd (false≢true h)

-- Point 4: a joined column that stays, and that some shard has dropped, becomes neither narrower nor NOT NULL.
pub dropped_is_not_narrowed : (lock : Lock) (member : ℕ) (schema : Layout) (after : Lock) (name : Text) (before now : Column) → offer lock member schema ≡ Ok after
    → column_at lock.joined.columns name ≡ Some before → column_at after.joined.columns name ≡ Some now → is_paired after.dropped name ≡ true → narrows_to before now ≡ false
dropped_is_not_narrowed lock member schema after name before now e was is paired =
    sym (ap (λ o. narrows o (column_at after.joined.columns name)) was ∙ ap (narrows (Some before)) is)
    ∙ first_fails (narrows (column_at lock.joined.columns name) (column_at after.joined.columns name)) (is_paired after.dropped name)
    (ap (λ pairs. narrows (column_at lock.joined.columns name) (column_at after.joined.columns name) && is_paired pairs name) (accepted lock member schema after e).dropped
    ∙ (passed lock member schema after e).narrow name (is_kept lock member schema after.joined name before now was is)) paired

-- the same fill is the same value, or none
fill_is_same : (a b : Option Value) → same_fill a b ≡ true → a ≡ b
fill_is_same None None e = refl
fill_is_same None (Some w) e = absurd (false≢true e)
fill_is_same (Some v) None e = absurd (false≢true e)
fill_is_same (Some v) (Some w) e = ap Some (value_same v w e)

-- a column that comes to the shard has the fill of the joined one before, or else after
gained_has_fill : (lock : Lock) (member : ℕ) (schema : Layout) (after : Lock) (name : Text) (own : Column) → offer lock member schema ≡ Ok after
    → column_at (recorded lock member).columns name ≡ None → column_at schema.columns name ≡ Some own
    → fill own ≡ option_and_then fill (option_or (column_at lock.joined.columns name) (column_at after.joined.columns name))
gained_has_fill lock member schema after name own e lacks has =
    ap (option_and_then fill) (sym has)
    ∙ fill_is_same (fill_at schema name) (option_and_then fill (joined_before (offer_to lock member schema after.joined) name))
    (not-false _ ((passed lock member schema after e).fills name (is_gained lock member schema after.joined name own lacks has)))

-- Point 5: a column that comes to the shard has the fill of the joined column that was there,
pub gained_fill : (lock : Lock) (member : ℕ) (schema : Layout) (after : Lock) (name : Text) (own before : Column) → offer lock member schema ≡ Ok after
    → column_at (recorded lock member).columns name ≡ None → column_at schema.columns name ≡ Some own → column_at lock.joined.columns name ≡ Some before → fill own ≡ fill before
gained_fill lock member schema after name own before e lacks has was =
    gained_has_fill lock member schema after name own e lacks has
    ∙ ap (λ o. option_and_then fill (option_or o (column_at after.joined.columns name))) was

-- and where none was there, of the joined column that comes with it.
pub new_fill : (lock : Lock) (member : ℕ) (schema : Layout) (after : Lock) (name : Text) (own now : Column) → offer lock member schema ≡ Ok after
    → column_at (recorded lock member).columns name ≡ None → column_at schema.columns name ≡ Some own → column_at lock.joined.columns name ≡ None → column_at after.joined.columns name ≡ Some now → fill own ≡ fill now
new_fill lock member schema after name own now e lacks has none is =
    gained_has_fill lock member schema after name own e lacks has
    ∙ ap (λ o. option_and_then fill (option_or o (column_at after.joined.columns name))) none
    ∙ ap (option_and_then fill) is

-- Point 6: a joined column that stays, and that some shard lacks, keeps its fill.
pub lacked_fill_stays : (lock : Lock) (member : ℕ) (schema : Layout) (after : Lock) (name : Text) (before now : Column) (s : Layout) → offer lock member schema ≡ Ok after
    → column_at lock.joined.columns name ≡ Some before → column_at after.joined.columns name ≡ Some now → IsIn s after.schemas → column_at s.columns name ≡ None → fill before ≡ fill now
lacked_fill_stays lock member schema after name before now s e was is i lacks =
    ap (option_and_then fill) (sym was)
    ∙ fill_is_same (fill_at lock.joined name) (fill_at after.joined name)
    (not-false _ (second_fails (not (list_all (λ t. has_column t.columns name) (slice_set lock.schemas member schema))) (not (same_fill (fill_at lock.joined name) (fill_at after.joined name)))
    ((passed lock member schema after e).others name (is_kept lock member schema after.joined name before now was is)) (not_from_false _ not_all)))
    ∙ ap (option_and_then fill) is where
      not_all : list_all (λ t. has_column t.columns name) (slice_set lock.schemas member schema) ≡ false
      not_all = false_from_ne_true _ (λ all. both_ways (has_column s.columns name) (lacks_unfound s.columns name lacks)
          (all_of (λ t. has_column t.columns name) (slice_set lock.schemas member schema) s all (subst (IsIn s) (accepted lock member schema after e).schemas i)))

-- What the dropped pairs are behind an offer (point 2).

paired_by : (pairs : List Dropped) (m : ℕ) (name : Text) (p : Dropped) → IsIn p pairs → p.member ≡ m → p.column ≡ name → is_dropped pairs m name ≡ true
paired_by pairs m name p i here named =
    any_of (λ d. (d.member == m) && same_name d.column name) pairs p i (and_from (p.member == m) (same_name p.column name) (eq-eqb p.member m here) (same_from p.column name named))

record PairOf (pairs : List Dropped) (m : ℕ) (name : Text) : Type 0 where
  pair : Dropped
  there : IsIn pair pairs
  member : pair.member ≡ m
  column : pair.column ≡ name

pair_of : (pairs : List Dropped) (m : ℕ) (name : Text) → is_dropped pairs m name ≡ true → PairOf pairs m name
pair_of pairs m name e =
    let some = any_from (λ d. (d.member == m) && same_name d.column name) pairs e in
    let parts = and_parts (some.0.member == m) (same_name some.0.column name) some.2 in
    record { pair = some.0; there = some.1; member = eqb-true some.0.member m parts.0; column = same_is_equal some.0.column name parts.1 }

-- a pair whose column stays in the join stays
pub pair_stays : (lock : Lock) (member : ℕ) (schema : Layout) (after : Lock) (m : ℕ) (name : Text) (now : Column) → offer lock member schema ≡ Ok after
    → is_dropped lock.dropped m name ≡ true → column_at after.joined.columns name ≡ Some now → is_dropped after.dropped m name ≡ true
pair_stays lock member schema after m name now e dropped is =
    let p = pair_of lock.dropped m name dropped in
    paired_by after.dropped m name p.pair
    (subst (IsIn p.pair) (sym (accepted lock member schema after e).dropped)
    (in_filter (λ d. has_column after.joined.columns d.column) (lock.dropped ++ pairs_of member (recorded lock member).columns schema) p.pair
    (in_left lock.dropped (pairs_of member (recorded lock member).columns schema) p.pair p.there)
    (ap (has_column after.joined.columns) p.column ∙ has_found after.joined.columns name now is))) p.member p.column

-- a column that the shard had, lacks now and that is still in the join makes one
pub loss_is_paired : (lock : Lock) (member : ℕ) (schema : Layout) (after : Lock) (name : Text) (own now : Column) → offer lock member schema ≡ Ok after
    → column_at (recorded lock member).columns name ≡ Some own → column_at schema.columns name ≡ None → column_at after.joined.columns name ≡ Some now → is_dropped after.dropped member name ≡ true
loss_is_paired lock member schema after name own now e had lost is =
    let found = found_column (recorded lock member).columns name own had in
    paired_by after.dropped member name (record { member = member; column = own.name })
    (subst (IsIn (record { member = member; column = own.name })) (sym (accepted lock member schema after e).dropped)
    (in_filter (λ d. has_column after.joined.columns d.column) (lock.dropped ++ pairs_of member (recorded lock member).columns schema) (record { member = member; column = own.name })
    (in_right lock.dropped (pairs_of member (recorded lock member).columns schema) (record { member = member; column = own.name })
    (in_map (λ c. record { member = member; column = c.name }) (filter (λ c. not (has_column schema.columns c.name)) (recorded lock member).columns) own
    (in_filter (λ c. not (has_column schema.columns c.name)) (recorded lock member).columns own found.0
    (not_from_false _ (ap (has_column schema.columns) found.1 ∙ lacks_unfound schema.columns name lost)))))
    (ap (has_column after.joined.columns) found.1 ∙ has_found after.joined.columns name now is))) refl found.1

-- and each pair is an old one, or of a column that the shard had and lacks now
pub pair_is_old_or_lost : (lock : Lock) (member : ℕ) (schema : Layout) (after : Lock) (m : ℕ) (name : Text) → offer lock member schema ≡ Ok after → is_dropped after.dropped m name ≡ true
    → (is_dropped lock.dropped m name ≡ true) ⊎ ((m ≡ member) × (has_column (recorded lock member).columns name ≡ true) × (has_column schema.columns name ≡ false))
pair_is_old_or_lost lock member schema after m name e dropped = by (in_either lock.dropped (pairs_of member (recorded lock member).columns schema) p.pair there) where
  p : PairOf after.dropped m name
  p = pair_of after.dropped m name dropped

  there : IsIn p.pair (lock.dropped ++ pairs_of member (recorded lock member).columns schema)
  there = (from_filter (λ d. has_column after.joined.columns d.column) (lock.dropped ++ pairs_of member (recorded lock member).columns schema) p.pair (subst (IsIn p.pair) (accepted lock member schema after e).dropped p.there)).0

  by : IsIn p.pair lock.dropped ⊎ IsIn p.pair (pairs_of member (recorded lock member).columns schema)
      → (is_dropped lock.dropped m name ≡ true) ⊎ ((m ≡ member) × (has_column (recorded lock member).columns name ≡ true) × (has_column schema.columns name ≡ false))
  by (inl old) = inl (paired_by lock.dropped m name p.pair old p.member p.column)
  by (inr new) =
      let c = from_map (λ d. record { member = member; column = d.name }) (filter (λ d. not (has_column schema.columns d.name)) (recorded lock member).columns) p.pair new in
      let lost = from_filter (λ d. not (has_column schema.columns d.name)) (recorded lock member).columns c.0 c.1 in
      let named : c.0.name ≡ name = ap (λ (d : Dropped). d.column) c.2 ∙ p.column in
      inr (
        sym p.member ∙ sym (ap (λ (d : Dropped). d.member) c.2),
        any_of (λ d. same_name d.name name) (recorded lock member).columns c.0 lost.0 (same_from c.0.name name named),
        subst (λ n. has_column schema.columns n ≡ false) named (not-true _ lost.1),
      )

-- What a dropped pair says: its column is downstream, and its shard lacks it.

pub pairs_are_joined : (lock : Lock) (member : ℕ) (schema : Layout) (after : Lock) → offer lock member schema ≡ Ok after → (p : Dropped) → IsIn p after.dropped → has_column after.joined.columns p.column ≡ true
pairs_are_joined lock member schema after e p i =
    (from_filter (λ d. has_column after.joined.columns d.column) (lock.dropped ++ pairs_of member (recorded lock member).columns schema) p
    (subst (IsIn p) (accepted lock member schema after e).dropped i)).1

-- the shards of the pairs lack the columns
abbrev pub AreLacked : Lock → Type 0
AreLacked lock = (p : Dropped) → IsIn p lock.dropped → has_column (recorded lock p.member).columns p.column ≡ false

-- a column that the shard dropped doesn't come again
stays_dropped : (lock : Lock) (member : ℕ) (schema : Layout) (after : Lock) → AreLacked lock → offer lock member schema ≡ Ok after
    → (p : Dropped) → IsIn p lock.dropped → p.member ≡ member → has_column schema.columns p.column ≡ false
stays_dropped lock member schema after lacked e p i same = false_from_ne_true (has_column schema.columns p.column) (λ some.
    let own = found_there schema.columns p.column some in
    let lacks = unfound_lacks (recorded lock member).columns p.column (subst (λ m. has_column (recorded lock m).columns p.column ≡ false) same (lacked p i)) in
    both_ways (is_dropped lock.dropped member p.column) (gained_is_not_dropped lock member schema after p.column own.0 e lacks own.1) (paired_by lock.dropped member p.column p i same refl))

-- The pairs of a lock that comes to be by offers say so.
pub pairs_are_lacked : (lock : Lock) (member : ℕ) (schema : Layout) (after : Lock) → member < length lock.schemas → AreLacked lock → offer lock member schema ≡ Ok after → AreLacked after
pairs_are_lacked lock member schema after lt lacked e p i = by (in_either lock.dropped new_pairs p there.0) where
  new_pairs : List Dropped
  new_pairs = pairs_of member (recorded lock member).columns schema

  there : IsIn p (lock.dropped ++ new_pairs) × (has_column after.joined.columns p.column ≡ true)
  there = from_filter (λ d. has_column after.joined.columns d.column) (lock.dropped ++ new_pairs) p (subst (IsIn p) (accepted lock member schema after e).dropped i)

  -- the shard's own schema, where the pair is of the shard that offers
  own : p.member ≡ member → has_column schema.columns p.column ≡ false → has_column (recorded after p.member).columns p.column ≡ false
  own same lacks =
      subst (λ m. has_column (recorded after m).columns p.column ≡ false) (sym same)
      (subst (λ (l : Layout). has_column l.columns p.column ≡ false) (sym (recorded_is_offered lock member schema after lt e)) lacks)

  by : IsIn p lock.dropped ⊎ IsIn p new_pairs → has_column (recorded after p.member).columns p.column ≡ false
  by (inl old) = which (eqb_tells p.member member) where
    which : (((p.member == member) ≡ true) × (p.member ≡ member)) ⊎ (((p.member == member) ≡ false) × (p.member ≢ member)) → has_column (recorded after p.member).columns p.column ≡ false
    which (inl is) = own is.1 (stays_dropped lock member schema after lacked e p old is.1)
    which (inr other) = subst (λ (l : Layout). has_column l.columns p.column ≡ false) (sym (others_stay lock member p.member schema after other.1 e)) (lacked p old)
  by (inr new) =
      let c = from_map (λ d. record { member = member; column = d.name }) (filter (λ d. not (has_column schema.columns d.name)) (recorded lock member).columns) p new in
      let lost = from_filter (λ d. not (has_column schema.columns d.name)) (recorded lock member).columns c.0 c.1 in
      own (sym (ap (λ (d : Dropped). d.member) c.2)) (subst (λ n. has_column schema.columns n ≡ false) (ap (λ (d : Dropped). d.column) c.2) (not-true _ lost.1))

-- The lock over first schemas.

pub record Begun (firsts : List Layout) (lock : Lock) : Type 0 where
  pub schemas : lock.schemas ≡ firsts
  pub joined : join lock.schemas ≡ Ok lock.joined
  pub dropped : lock.dropped ≡ []

pub begun : (schemas : List Layout) (lock : Lock) → first schemas ≡ Ok lock → Begun schemas lock
unfolding first
begun schemas lock e = by (join schemas) refl where
  by : (r : Result Layout NoJoin) → join schemas ≡ r → Begun schemas lock
  by (Err none) is = absurd (cc (sym (ap (first_by schemas) is) ∙ e))
  by (Ok joined) is =
      let there : record { schemas = schemas; dropped = []; joined = joined } ≡ lock = cc (sym (ap (first_by schemas) is) ∙ e) in
      subst (Begun schemas) there (record { schemas = refl; joined = is; dropped = refl })

pub begun_lacked : (schemas : List Layout) (lock : Lock) → first schemas ≡ Ok lock → AreLacked lock
begun_lacked schemas lock e p i = absurd (subst (IsIn p) (begun schemas lock e).dropped i)

-- Any list of offers.

-- what holds of each lock that comes to be by offers of schemas
pub record IsLock (lock : Lock) : Type 0 where
  pub some : 0 < length lock.schemas
  pub formed : IsTrue (are_formed lock.schemas)
  pub joined : join lock.schemas ≡ Ok lock.joined
  pub downstream : (p : Dropped) → IsIn p lock.dropped → has_column lock.joined.columns p.column ≡ true
  pub lacked : AreLacked lock

pub begun_is_lock : (schemas : List Layout) (lock : Lock) → 0 < length schemas → IsTrue (are_formed schemas) → first schemas ≡ Ok lock → IsLock lock
begun_is_lock schemas lock some formed e =
    let b = begun schemas lock e in
    record {
      some = subst (λ l. 0 < length l) (sym b.schemas) some;
      formed = subst (λ l. are_formed l ≡ true) (sym b.schemas) formed;
      joined = b.joined;
      downstream = λ p i. absurd (subst (IsIn p) b.dropped i);
      lacked = begun_lacked schemas lock e;
    }

replaced_formed : (schemas : List Layout) (member : ℕ) (s : Layout) → are_formed schemas ≡ true → is_formed s ≡ true → are_formed (slice_set schemas member s) ≡ true
unfolding are_formed
replaced_formed schemas member s all one = all_from is_formed (slice_set schemas member s) (λ t i. by t (replaced_from schemas member s t i)) where
  by : (t : Layout) → (s ≡ t) ⊎ IsIn t schemas → is_formed t ≡ true
  by t (inl is) = subst (λ l. is_formed l ≡ true) is one
  by t (inr i) = all_of is_formed schemas t all i

pub accepted_is_lock : (lock : Lock) (member : ℕ) (schema : Layout) (after : Lock) → IsLock lock → member < length lock.schemas → IsTrue (is_formed schema) → offer lock member schema ≡ Ok after → IsLock after
accepted_is_lock lock member schema after h lt formed e =
    let a = accepted lock member schema after e in
    record {
      some = subst (λ l. 0 < length l) (sym a.schemas) (subst (λ n. 0 < n) (sym (length-set lock.schemas member schema)) h.some);
      formed = subst (λ l. are_formed l ≡ true) (sym a.schemas) (replaced_formed lock.schemas member schema h.formed formed);
      joined = a.joined;
      downstream = pairs_are_joined lock member schema after e;
      lacked = pairs_are_lacked lock member schema after lt h.lacked e;
    }

-- a refused offer changes nothing
abbrev pub left_by : Lock → Result Lock Stop → Lock
left_by lock (Ok after) = after
left_by lock (Err e) = lock

-- the lock after offers, one behind another: the shards that make them, and their schemas
abbrev pub after_offers : Lock → List (ℕ × Layout) → Lock
after_offers lock [] = lock
after_offers lock (o ∷ os) = after_offers (left_by lock (offer lock o.0 o.1)) os

-- offers that can be made of so many shards
abbrev pub AreOffers : ℕ → List (ℕ × Layout) → Type 0
AreOffers members offers = (o : ℕ × Layout) → IsIn o offers → (o.0 < members) × IsTrue (is_formed o.1)

left_is_lock : (lock : Lock) (member : ℕ) (schema : Layout) → IsLock lock → member < length lock.schemas → IsTrue (is_formed schema)
    → IsLock (left_by lock (offer lock member schema)) × (length (left_by lock (offer lock member schema)).schemas ≡ length lock.schemas)
left_is_lock lock member schema h lt formed = by (offer lock member schema) refl where
  by : (r : Result Lock Stop) → offer lock member schema ≡ r → IsLock (left_by lock r) × (length (left_by lock r).schemas ≡ length lock.schemas)
  by (Err e) is = (h, refl)
  by (Ok after) is = (accepted_is_lock lock member schema after h lt formed is, ap length (accepted lock member schema after is).schemas ∙ length-set lock.schemas member schema)

-- after any list of offers it is a lock of as many shards
pub offers_keep : (lock : Lock) (offers : List (ℕ × Layout)) → IsLock lock → AreOffers (length lock.schemas) offers → IsLock (after_offers lock offers) × (length (after_offers lock offers).schemas ≡ length lock.schemas)
offers_keep lock [] h each = (h, refl)
offers_keep lock (o ∷ os) h each =
    let one = left_is_lock lock o.0 o.1 h (each o (inl refl)).0 (each o (inl refl)).1 in
    let rest = offers_keep (left_by lock (offer lock o.0 o.1)) os one.0 (λ p i. (subst (λ n. p.0 < n) (sym one.1) (each p (inr i)).0, (each p (inr i)).1)) in
    (rest.0, rest.1 ∙ one.1)
