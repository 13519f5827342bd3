-- What an accepted offer says of the values that rows hold downstream, where the target table is altered to the new join:
-- rows of a shard that lacks a column have the joined fill in it, and all values fit the new joined columns.
use Rattle.std.proofs.Common.{◌≡◌, ℕ, ◌==◌, ◌<◌, ◌≢◌, Bool, true, false, List, length, get_or, Option, Some, None, Ok, refl, sym, ap, subst, ◌∙◌, inl, inr}
use Rattle.std.specs.Prelude.{◌⊎◌, ◌&&◌, not, IsTrue, slice_set}
use Rattle.std.proofs.lemmas.Bool.{true≢false, false≢true, both_ways, or_parts, or_cases, and_parts, false_from_ne_true}
use Rattle.std.proofs.lemmas.Bool.Decides.{eqb_tells}
use Rattle.std.proofs.lemmas.List.{length-set, set-get_or}
use Rattle.dm_value.specs.declared.value.Value.{Value}
use Rattle.dm_schema.specs.declared.column.Kind.{Kind}
use Rattle.dm_schema.specs.declared.column.Column.{Column}
use Rattle.dm_schema.specs.Layout.{Layout}
use Rattle.dm_schema.specs.Names.{Text, same_name, column_at}
use Rattle.dm_schema.specs.Fill.{fill}
use Rattle.dm_schema.specs.Fits.{fits}
use Rattle.dm_schema.specs.KindOrder.{kind_at_most, same_kind, comparable}
use Rattle.dm_schema.specs.Schemas.{is_formed}
use Rattle.dm_join.proofs.Lists.{IsIn, any_of, any_from}
use Rattle.dm_join.proofs.Orders.{found_column}
use Rattle.dm_join.proofs.JoinAnswers.{join_is_formed}
use Rattle.dm_join.proofs.KindLaws.{kind_reflexive, kind_transitive}
use Rattle.dm_join.proofs.Laws.{HasFrom, joined_from, joined_above, column_above, kinds_above_one, replaced_here, replaced_from, replaced_stays}
use Rattle.dm_join.proofs.Widening.{fits_grows, fits_above, fill_fits}
use Rattle.dm_join.proofs.Exact.{kind_exact}
use Rattle.dm_lockstate.specs.declared.state.Dropped.{Dropped}
use Rattle.dm_lockstate.specs.Lock.{Lock, no_layout, recorded, is_dropped, is_paired, narrows_to, offer}
use Rattle.dm_lockstate.proofs.Laws.{accepted, recorded_is_offered, others_stay, gained_is_not_dropped, dropped_is_not_narrowed, gained_fill, new_fill, lacked_fill_stays, pair_stays, loss_is_paired, IsLock, accepted_is_lock}

-- which values rows of a shard hold in a column of a name
abbrev pub Holding : Type 1
Holding = ℕ → Text → Value → Type 0

-- In a joined column that its shard lacks and hasn't dropped, each row has the joined fill.
abbrev pub HaveFills : Lock → Holding → Type 0
HaveFills lock holds =
    (m : ℕ) (name : Text) (c : Column) (v : Value) → m < length lock.schemas → column_at lock.joined.columns name ≡ Some c → column_at (recorded lock m).columns name ≡ None → is_dropped lock.dropped m name ≡ false
    → holds m name v → fill c ≡ Some v

-- each value fits the joined column
abbrev pub FitJoined : Lock → Holding → Type 0
FitJoined lock holds = (m : ℕ) (name : Text) (c : Column) (v : Value) → m < length lock.schemas → column_at lock.joined.columns name ≡ Some c → holds m name v → fits v c ≡ true

-- An alteration from one joined schema to another keeps the values of the columns that stay, and fills new ones.
pub record Altered (old new : Layout) (before behind : Holding) : Type 0 where
  pub kept : (m : ℕ) (name : Text) (c : Column) (v : Value) → column_at old.columns name ≡ Some c → behind m name v → before m name v
  pub filled : (m : ℕ) (name : Text) (c : Column) (v : Value) → column_at old.columns name ≡ None → column_at new.columns name ≡ Some c → behind m name v → fill c ≡ Some v

-- A shard's offer is accepted, over a lock that came to be by offers.
pub record Offering (lock : Lock) (member : ℕ) (schema : Layout) (after : Lock) : Type 0 where
  pub is_lock : IsLock lock
  pub within : member < length lock.schemas
  pub formed : IsTrue (is_formed schema)
  pub goes : offer lock member schema ≡ Ok after

pub next_lock : (lock : Lock) (member : ℕ) (schema : Layout) (after : Lock) → Offering lock member schema after → IsLock after
next_lock lock member schema after o = accepted_is_lock lock member schema after o.is_lock o.within o.formed o.goes

as_many : (lock : Lock) (member : ℕ) (schema : Layout) (after : Lock) → Offering lock member schema after → length after.schemas ≡ length lock.schemas
as_many lock member schema after o = ap length (accepted lock member schema after o.goes).schemas ∙ length-set lock.schemas member schema

-- the recorded schema of a shard is in the list
pub recorded_there : (schemas : List Layout) (m : ℕ) → m < length schemas → IsIn (get_or schemas m no_layout) schemas
recorded_there schemas m lt = subst (IsIn (get_or schemas m no_layout)) (set-get_or schemas m no_layout) (replaced_here schemas m (get_or schemas m no_layout) lt)

-- Rows that lack a column.

-- what isn't dropped behind the offer wasn't before
undropped : (lock : Lock) (member : ℕ) (schema : Layout) (after : Lock) (m : ℕ) (name : Text) (now : Column) → offer lock member schema ≡ Ok after
    → column_at after.joined.columns name ≡ Some now → is_dropped after.dropped m name ≡ false → is_dropped lock.dropped m name ≡ false
undropped lock member schema after m name now e is free = false_from_ne_true (is_dropped lock.dropped m name) (λ dropped. both_ways (is_dropped after.dropped m name) free (pair_stays lock member schema after m name now e dropped is))

-- a shard that lacks a joined column behind the offer, and hasn't dropped it, lacked it before
lacked_before : (lock : Lock) (member : ℕ) (schema : Layout) (after : Lock) (m : ℕ) (name : Text) (now : Column) → Offering lock member schema after
    → column_at after.joined.columns name ≡ Some now → column_at (recorded after m).columns name ≡ None → is_dropped after.dropped m name ≡ false → column_at (recorded lock m).columns name ≡ None
lacked_before lock member schema after m name now o is lacks free = by (eqb_tells m member) where
  lost : m ≡ member → (c : Option Column) → column_at (recorded lock member).columns name ≡ c → c ≡ None
  lost same None had = refl
  lost same (Some own) had =
      let none : column_at schema.columns name ≡ None = sym (ap (λ (l : Layout). column_at l.columns name) (ap (recorded after) same ∙ recorded_is_offered lock member schema after o.within o.goes)) ∙ lacks in
      absurd (both_ways (is_dropped after.dropped m name) free (ap (λ i. is_dropped after.dropped i name) same ∙ loss_is_paired lock member schema after name own now o.goes had none is))

  by : (((m == member) ≡ true) × (m ≡ member)) ⊎ (((m == member) ≡ false) × (m ≢ member)) → column_at (recorded lock m).columns name ≡ None
  by (inl same) = ap (λ i. column_at (recorded lock i).columns name) same.1 ∙ lost same.1 (column_at (recorded lock member).columns name) refl
  by (inr other) = ap (λ (l : Layout). column_at l.columns name) (sym (others_stay lock member m schema after other.1 o.goes)) ∙ lacks

-- After the alteration, rows still have the joined fill where their shard lacks the column and hasn't dropped it.
pub fills_stay : (lock : Lock) (member : ℕ) (schema : Layout) (after : Lock) (before behind : Holding) → Offering lock member schema after → Altered lock.joined after.joined before behind → HaveFills lock before → HaveFills after behind
fills_stay lock member schema after before behind o altered fills m name now v lt is lacks free holds = by (column_at lock.joined.columns name) refl where
  within : m < length lock.schemas
  within = subst (λ n. m < n) (as_many lock member schema after o) lt

  by : (c : Option Column) → column_at lock.joined.columns name ≡ c → fill now ≡ Some v
  by None none = altered.filled m name now v none is holds
  by (Some c) was =
      sym (lacked_fill_stays lock member schema after name c now (recorded after m) o.goes was is (recorded_there after.schemas m lt) lacks)
      ∙ fills m name c v within was (lacked_before lock member schema after m name now o is lacks free) (undropped lock member schema after m name now o.goes is free) (altered.kept m name c v was holds)

-- A column that is new in the join comes to the shard that offers: it lacked the column, and has it now.
pub new_is_gained : (lock : Lock) (member : ℕ) (schema : Layout) (after : Lock) (name : Text) (now : Column) → Offering lock member schema after → column_at lock.joined.columns name ≡ None → column_at after.joined.columns name ≡ Some now
    → (own : Column) × (column_at (recorded lock member).columns name ≡ None) × (column_at schema.columns name ≡ Some own)
new_is_gained lock member schema after name now o none is = by (replaced_from lock.schemas member schema to.schema (subst (IsIn to.schema) (accepted lock member schema after o.goes).schemas to.there)) where
  to : HasFrom after.schemas name
  to = joined_from after.schemas after.joined name now (next_lock lock member schema after o).joined is

  -- no schema of the old lock has it
  none_had : (s : Layout) (d : Column) → IsIn s lock.schemas → column_at s.columns name ≡ Some d → ⊥
  none_had s d i at = cc (sym none ∙ (joined_above lock.schemas lock.joined s name d o.is_lock.formed o.is_lock.joined i at).at)

  lacked : (c : Option Column) → column_at (recorded lock member).columns name ≡ c → c ≡ None
  lacked None had = refl
  lacked (Some d) had = absurd (none_had (recorded lock member) d (recorded_there lock.schemas member o.within) had)

  by : (schema ≡ to.schema) ⊎ IsIn to.schema lock.schemas → (own : Column) × (column_at (recorded lock member).columns name ≡ None) × (column_at schema.columns name ≡ Some own)
  by (inl new) = (to.column, lacked (column_at (recorded lock member).columns name) refl, ap (λ (l : Layout). column_at l.columns name) new ∙ to.at)
  by (inr there) = absurd (none_had to.schema to.column there to.at)

-- In a column that comes to the shard its rows hold the fill of the shard's own column.
pub gained_is_held : (lock : Lock) (member : ℕ) (schema : Layout) (after : Lock) (before behind : Holding) (name : Text) (own now : Column) (v : Value) → Offering lock member schema after → Altered lock.joined after.joined before behind
    → HaveFills lock before → column_at (recorded lock member).columns name ≡ None → column_at schema.columns name ≡ Some own → column_at after.joined.columns name ≡ Some now → behind member name v → fill own ≡ Some v
gained_is_held lock member schema after before behind name own now v o altered fills lacks has is holds = by (column_at lock.joined.columns name) refl where
  by : (c : Option Column) → column_at lock.joined.columns name ≡ c → fill own ≡ Some v
  by None none = new_fill lock member schema after name own now o.goes lacks has none is ∙ altered.filled member name now v none is holds
  by (Some c) was =
      gained_fill lock member schema after name own c o.goes lacks has was
      ∙ fills member name c v o.within was lacks (gained_is_not_dropped lock member schema after name own o.goes lacks has) (altered.kept member name c v was holds)

-- Kinds.

-- the shard's columns that stay have comparable kinds
abbrev pub KindsStay : Layout → Layout → Type 0
KindsStay old new = (name : Text) (c d : Column) → column_at old.columns name ≡ Some c → column_at new.columns name ≡ Some d → comparable c.kind d.kind ≡ true

-- a kind that is at most both
record Below (a b : Kind) : Type 0 where
  kind : Kind
  first : kind_at_most kind a ≡ true
  second : kind_at_most kind b ≡ true

below_both : (c d a b : Kind) → comparable c d ≡ true → kind_at_most c a ≡ true → kind_at_most d b ≡ true → Below a b
below_both c d a b either low high = by (or_cases (kind_at_most c d) (kind_at_most d c) either) where
  by : (kind_at_most c d ≡ true) ⊎ (kind_at_most d c ≡ true) → Below a b
  by (inl up) = record { kind = c; first = low; second = kind_transitive c d b up high }
  by (inr down) = record { kind = d; first = kind_transitive d c a down low; second = high }

-- a joined column that stays has a comparable kind
pub joined_kinds_stay : (lock : Lock) (member : ℕ) (schema : Layout) (after : Lock) (name : Text) (c now : Column) → Offering lock member schema after → KindsStay (recorded lock member) schema
    → column_at lock.joined.columns name ≡ Some c → column_at after.joined.columns name ≡ Some now → comparable c.kind now.kind ≡ true
joined_kinds_stay lock member schema after name c now o kinds was is = let b = below in kinds_above_one b.kind c.kind now.kind b.first b.second where
  next : IsLock after
  next = next_lock lock member schema after o

  schemas : after.schemas ≡ slice_set lock.schemas member schema
  schemas = (accepted lock member schema after o.goes).schemas

  -- a shard that has the column in both locks, or the one that offers, which has it in both of its schemas
  in_both : (s : Layout) (d : Column) → IsIn s lock.schemas → IsIn s after.schemas → column_at s.columns name ≡ Some d → Below c.kind now.kind
  in_both s d old new at = record {
    kind = d.kind;
    first = (column_above lock.schemas lock.joined s name d c o.is_lock.formed o.is_lock.joined old at was).kind;
    second = (column_above after.schemas after.joined s name d now next.formed next.joined new at is).kind;
  }

  own : (d e : Column) → column_at (recorded lock member).columns name ≡ Some d → column_at schema.columns name ≡ Some e → Below c.kind now.kind
  own d e had has = below_both d.kind e.kind c.kind now.kind (kinds name d e had has)
      (column_above lock.schemas lock.joined (recorded lock member) name d c o.is_lock.formed o.is_lock.joined (recorded_there lock.schemas member o.within) had was).kind
      (column_above after.schemas after.joined schema name e now next.formed next.joined (subst (IsIn schema) (sym schemas) (replaced_here lock.schemas member schema o.within)) has is).kind

  from : HasFrom lock.schemas name
  from = joined_from lock.schemas lock.joined name c o.is_lock.joined was

  to : HasFrom after.schemas name
  to = joined_from after.schemas after.joined name now next.joined is

  by : recorded lock member ≡ from.schema → (schema ≡ to.schema) ⊎ IsIn to.schema lock.schemas → Below c.kind now.kind
  by old (inl new) = own from.column to.column (ap (λ (l : Layout). column_at l.columns name) old ∙ from.at) (ap (λ (l : Layout). column_at l.columns name) new ∙ to.at)
  by old (inr there) = in_both to.schema to.column there to.there to.at

  at : (recorded lock member ≡ from.schema) ⊎ IsIn from.schema (slice_set lock.schemas member schema) → Below c.kind now.kind
  at (inr stays) = in_both from.schema from.column from.there (subst (IsIn from.schema) (sym schemas) stays) from.at
  at (inl old) = by old (replaced_from lock.schemas member schema to.schema (subst (IsIn to.schema) schemas to.there))

  below : Below c.kind now.kind
  below = at (replaced_stays lock.schemas member schema from.schema no_layout from.there)

-- what isn't narrowed holds what it held
not_narrowed_holds : (c now : Column) (v : Value) → comparable c.kind now.kind ≡ true → narrows_to c now ≡ false → fits v c ≡ true → fits v now ≡ true
not_narrowed_holds c now v either e fit = fits_grows c now v (kinds (or_cases (kind_at_most c.kind now.kind) (kind_at_most now.kind c.kind) either)) nulls fit where
  parts : ((kind_at_most now.kind c.kind && not (same_kind now.kind c.kind)) ≡ false) × ((c.nullable && not now.nullable) ≡ false)
  parts = or_parts (kind_at_most now.kind c.kind && not (same_kind now.kind c.kind)) (c.nullable && not now.nullable) e

  same_of : (a b : Bool) → (a && not b) ≡ false → a ≡ true → b ≡ true
  same_of true true h t = refl
  same_of true false h t = absurd (true≢false h)
  same_of false b h t = absurd (false≢true t)

  kinds : (kind_at_most c.kind now.kind ≡ true) ⊎ (kind_at_most now.kind c.kind ≡ true) → kind_at_most c.kind now.kind ≡ true
  kinds (inl up) = up
  kinds (inr down) =
      let same = kind_exact now.kind c.kind (same_of (kind_at_most now.kind c.kind) (same_kind now.kind c.kind) parts.0 down) in
      subst (λ k. kind_at_most k now.kind ≡ true) same (kind_reflexive now.kind)

  nulls : c.nullable ≡ true → now.nullable ≡ true
  nulls t = same_of c.nullable now.nullable parts.1 t

-- A joined column that some shard has dropped holds what it held.
pub dropped_column_holds : (lock : Lock) (member : ℕ) (schema : Layout) (after : Lock) (name : Text) (c now : Column) (v : Value) → Offering lock member schema after → KindsStay (recorded lock member) schema
    → column_at lock.joined.columns name ≡ Some c → column_at after.joined.columns name ≡ Some now → is_paired after.dropped name ≡ true → fits v c ≡ true → fits v now ≡ true
dropped_column_holds lock member schema after name c now v o kinds was is paired fit =
    not_narrowed_holds c now v (joined_kinds_stay lock member schema after name c now o kinds was is) (dropped_is_not_narrowed lock member schema after name c now o.goes was is paired) fit

-- Values fit.

-- a value of a row in a column that its shard has fits the shard's column
abbrev pub FitOwn : Lock → Holding → Type 0
FitOwn lock holds = (m : ℕ) (name : Text) (c : Column) (v : Value) → m < length lock.schemas → column_at (recorded lock m).columns name ≡ Some c → holds m name v → fits v c ≡ true

-- a column of which no pair speaks isn't dropped by any shard
unpaired : (pairs : List Dropped) (m : ℕ) (name : Text) → is_paired pairs name ≡ false → is_dropped pairs m name ≡ false
unpaired pairs m name none = false_from_ne_true (is_dropped pairs m name) (λ dropped.
    let some = any_from (λ p. p.member == m && same_name p.column name) pairs dropped in
    both_ways (is_paired pairs name) none (any_of (λ p. same_name p.column name) pairs some.0 some.1 (and_parts (some.0.member == m) (same_name some.0.column name) some.2).1))

-- After the alteration each value fits the new joined column, where the shards' own values fit their own columns.
pub values_fit : (lock : Lock) (member : ℕ) (schema : Layout) (after : Lock) (before behind : Holding) → Offering lock member schema after → KindsStay (recorded lock member) schema → Altered lock.joined after.joined before behind
    → HaveFills lock before → FitJoined lock before → FitOwn after behind → FitJoined after behind
values_fit lock member schema after before behind o kinds altered fills fit own m name now v lt is holds = by (column_at lock.joined.columns name) refl where
  next : IsLock after
  next = next_lock lock member schema after o

  within : m < length lock.schemas
  within = subst (λ n. m < n) (as_many lock member schema after o) lt

  filled : fill now ≡ Some v → fits v now ≡ true
  filled e = fill_fits after.joined now v (join_is_formed after.schemas after.joined next.some next.formed next.joined) (found_column after.joined.columns name now is).0 e

  -- where the column becomes narrower, no shard has dropped it
  narrower : is_paired after.dropped name ≡ false → (d : Option Column) → column_at (recorded after m).columns name ≡ d → fits v now ≡ true
  narrower none (Some d) has = fits_above d now v (column_above after.schemas after.joined (recorded after m) name d now next.formed next.joined (recorded_there after.schemas m lt) has is) (own m name d v lt has holds)
  narrower none None lacks = filled (fills_stay lock member schema after before behind o altered fills m name now v lt is lacks (unpaired after.dropped m name none) holds)

  paired : (c : Column) → column_at lock.joined.columns name ≡ Some c → (b : Bool) → is_paired after.dropped name ≡ b → fits v now ≡ true
  paired c was true e = dropped_column_holds lock member schema after name c now v o kinds was is e (fit m name c v within was (altered.kept m name c v was holds))
  paired c was false e = narrower e (column_at (recorded after m).columns name) refl

  by : (c : Option Column) → column_at lock.joined.columns name ≡ c → fits v now ≡ true
  by None none = filled (altered.filled m name now v none is holds)
  by (Some c) was = paired c was (is_paired after.dropped name) refl
