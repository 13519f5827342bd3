-- Each place of a good answer has its row in the order of literals that is in force there by the answer's own orders.
use Rattle.std.proofs.Common.{◌≡◌, ◌==◌, ℕ, suc, ◌<◌, ◌≤◌, Bool, true, false, not, cond, ◌&&◌, ◌||◌, leb, List, [], ◌∷◌, ◌++◌, filter, fold, drop, length, Option, Some, None, IfOk, Result, Ok, Err, is_some, is_none, refl, sym, ap, ◌∙◌, subst, ◌⊎◌, inl, inr, arith}
use Rattle.std.specs.Option.{option_map}
use Rattle.std.specs.Prelude.{option_and_then, reverse}
use Rattle.std.specs.List.{list_all, find}
use Rattle.std.proofs.lemmas.Bool.{and_parts, and_from, eqb-true, leb-true, leb-false}
use Rattle.std.proofs.lemmas.List.{reverse-append}
use Rattle.dm_list.specs.Answer.{first_refusal}
use Rattle.dm_value.specs.declared.value.Value.{Value}
use Rattle.dm_lex.specs.declared.token.Token.{Token}
use Rattle.dm_lex.specs.Tokens.{lexed_of}
use Rattle.dm_lex.proofs.Laws.{AreInOrder, left_are_in_order}
use Rattle.dm_schema.specs.declared.column.Column.{Column}
use Rattle.dm_schema.specs.declared.column.UniqueKey.{UniqueKey}
use Rattle.dm_schema.specs.declared.fault.SchemaFault.TheVariants as schema_fault
use Rattle.dm_schema.specs.Kinds.{is_column, is_key}
use Rattle.dm_schema.specs.Layout.{Layout}
use Rattle.dm_schema.specs.Names.{Text, column_names}
use Rattle.dm_schema.specs.Schemas.{all_columns, names_repeat, column_repeats, key_repeats, some_key_repeats_names, refusals, is_formed}
use Rattle.dm_syntax.specs.declared.piece.Piece.{Piece}
use Rattle.dm_syntax.specs.Pieces.{pieces_of, parts, has_role}
use Rattle.dm_dump.specs.declared.fault.Fault.{Fault}
use Rattle.dm_dump.specs.declared.fault.DumpFault.{DumpFault}
use Rattle.dm_dump.specs.declared.inserts.InsertOrder.{InsertOrder}
use Rattle.dm_dump.specs.declared.inserts.Inserts.{Inserts}
use Rattle.dm_dump.specs.declared.role.TheConstants as role
use Rattle.dm_dump.specs.Reading.{kinds_of, counts, Contents, HasContents}
use Rattle.dm_dump.specs.Units.{begins_unit, units}
use Rattle.dm_dump.specs.Outlines.{least, second_place, second_create}
use Rattle.dm_dump.specs.Orders.{is_order, columns_by, stand_so, row_of, order_at, row_in_force}
use Rattle.dm_dump.specs.Rows.{Gathered, nothing, head_fault, order_in, row_fault, orders_with, with_order, with_head, with_row, with_unit, gathered, unless, rows_of, HasRows, are_readable}
use Rattle.dm_dump.specs.Dumps.{OrMemory}
use Rattle.dm_dump.proofs.Leading.{reading_led, kept_led, roles_in, is_led, units_led, pieces_led}
use Rattle.dm_dump.proofs.Laws.{names_of_order, InForce, Stands, RowAt, AllStand, added, row_added, rows_added, places_of, Sound, no_lack, fine_head, row_columns, unit_sound, own_order, rows_in, rows_stand}

-- Pieces stand in order, each behind the one before it.

abbrev Ascend : ℕ → List Piece → Type 0
Ascend low [] = Unit {0}
Ascend low (p ∷ ps) = (low ≤ p.token.from) × Ascend (suc p.token.from) ps

from_lower : (low lower : ℕ) (ps : List Piece) → lower ≤ low → Ascend low ps → Ascend lower ps
from_lower low lower [] le h = tt
from_lower low lower (p ∷ ps) le h = (omega (arith, h.0), h.1)

kept_ascends : (b : Bool) (low : ℕ) (p : Piece) (ps : List Piece) → low ≤ p.token.from → Ascend (suc p.token.from) ps → Ascend low (cond b (p ∷ ps) ps)
kept_ascends true low p ps le h = (le, h)
kept_ascends false low p ps le h = from_lower (suc p.token.from) low ps (omega arith) h

pieces_ascend : (low high : ℕ) (tokens : List Token) (kinds roles : List ℕ) → AreInOrder low high tokens → Ascend low (filter counts (pieces_of tokens kinds roles))
pieces_ascend low high [] kinds roles h = tt
pieces_ascend low high (t ∷ ts) [] roles h = tt
pieces_ascend low high (t ∷ ts) (k ∷ ks) [] h = tt
pieces_ascend low high (t ∷ ts) (k ∷ ks) (r ∷ rs) h =
    let p : Piece = record { token = t; kind = k; role = r } in
    kept_ascends (counts p) low p (filter counts (pieces_of ts ks rs)) h.0
    (from_lower t.to (suc t.from) (filter counts (pieces_of ts ks rs)) (omega (arith, h.1)) (pieces_ascend t.to high ts ks rs h.3))

abbrev UnitsAscend : ℕ → List (List Piece) → Type 0
UnitsAscend low [] = Unit {0}
UnitsAscend low ([] ∷ us) = UnitsAscend low us
UnitsAscend low ((p ∷ ps) ∷ us) = (low ≤ p.token.from) × UnitsAscend (suc p.token.from) us

units_lower : (low lower : ℕ) (us : List (List Piece)) → lower ≤ low → UnitsAscend low us → UnitsAscend lower us
units_lower low lower [] le h = tt
units_lower low lower ([] ∷ us) le h = units_lower low lower us le h
units_lower low lower ((p ∷ ps) ∷ us) le h = (omega (arith, h.0), h.1)

parts_ascend : (low : ℕ) (ps : List Piece) → Ascend low ps → UnitsAscend low (parts begins_unit ps)
parts_ascend low [] h = tt
parts_ascend low (p ∷ ps) h = by (begins_unit p) refl (parts_ascend (suc p.token.from) ps h.1) where
  by : (b : Bool) → begins_unit p ≡ b → UnitsAscend (suc p.token.from) (parts begins_unit ps) → UnitsAscend low (parts begins_unit (p ∷ ps))
  by true e more = rw e (h.0, more)
  by false e more = rw e (units_lower (suc p.token.from) low (parts begins_unit ps) (omega (arith, h.0)) more)

units_ascend : (low : ℕ) (ps : List Piece) → Ascend low ps → UnitsAscend low (units ps)
units_ascend low [] h = tt
units_ascend low (p ∷ ps) h = (h.0, parts_ascend (suc p.token.from) ps h.1)

-- The order in force.

abbrev names_at : List InsertOrder → ℕ → Option (List Text)
names_at orders at = option_map (λ o. o.order) (order_at orders at)

is_le : (a b : ℕ) → a ≤ b → leb a b ≡ true
is_le a b le = by (leb a b) refl where
  by : (t : Bool) → leb a b ≡ t → t ≡ true
  by true e = refl
  by false e = absurd (omega (arith, leb-false a b e, le))

is_not_le : (a b : ℕ) → b < a → leb a b ≡ false
is_not_le a b lt = by (leb a b) refl where
  by : (t : Bool) → leb a b ≡ t → t ≡ false
  by false e = refl
  by true e = absurd (omega (arith, leb-true a b e, lt))

order_push : (orders : List InsertOrder) (o : InsertOrder) (at : ℕ) → order_at (orders ++ o ∷ []) at ≡ cond (leb o.first at) (Some o) (order_at orders at)
order_push orders o at = ap (find (λ (x : InsertOrder). leb x.first at)) (reverse-append orders (o ∷ []))

-- an order that is added is in force from its first row on
place_later : (is_new : Bool) (orders : List InsertOrder) (at n : ℕ) (cs : List Column) → n < at → order_at (orders_with orders is_new at cs) n ≡ order_at orders n
place_later false orders at n cs lt = refl
place_later true orders at n cs lt = order_push orders (record { first = at; order = column_names cs }) n ∙ rw (is_not_le at n lt) refl

place_here : (is_new : Bool) (orders : List InsertOrder) (at n : ℕ) (cs : List Column) → at ≤ n → (is_new ≡ false → names_at orders n ≡ Some (column_names cs)) → names_at (orders_with orders is_new at cs) n ≡ Some (column_names cs)
place_here false orders at n cs le h = h refl
place_here true orders at n cs le h =
    ap (option_map (λ (o : InsertOrder). o.order)) (order_push orders (record { first = at; order = column_names cs }) n) ∙ rw (is_le at n le) refl

-- What a unit adds is in force from its own place on.

row_later : (text : List ℕ) (g : Gathered) (at n : ℕ) (closed : Bool) (o : Option Fault) → row_fault text at closed g.columns ≡ o → n < at → order_at (with_row text g at closed).orders n ≡ order_at g.orders n
row_later text g at n closed (Some f) e lt = rw e refl
row_later text g at n true None e lt = rw e (place_later g.is_new g.orders at n g.columns lt)
row_later text g at n false None e lt = rw e refl

head_orders : (text table : List ℕ) (columns : List Column) (g : Gathered) (u : List Piece) → (with_head text table columns g u).orders ≡ g.orders
head_orders text table columns g u = by (head_fault text table columns u) refl where
  ordered : (b : Bool) → stand_so g.columns (order_in text columns u) ≡ b → (with_order columns g (order_in text columns u)).orders ≡ g.orders
  ordered true e = rw e refl
  ordered false e = rw e refl

  by : (o : Option Fault) → head_fault text table columns u ≡ o → (with_head text table columns g u).orders ≡ g.orders
  by (Some f) e = rw e refl
  by None e = rw e (ordered (stand_so g.columns (order_in text columns u)) refl)

unit_later : (text table : List ℕ) (columns : List Column) (g : Gathered) (p : Piece) (ps : List Piece) (n : ℕ) → n < p.token.from → order_at (with_unit text table columns g (p ∷ ps)).orders n ≡ order_at g.orders n
unit_later text table columns g p ps n lt = by (is_some g.fault) (p.role == role.INSERT) (p.role == role.ROW_OPEN) where
  by : (f i r : Bool) → order_at (cond f g (cond i (with_head text table columns g (p ∷ ps)) (cond r (with_row text g p.token.from (has_role role.ROW_CLOSE (p ∷ ps))) g))).orders n ≡ order_at g.orders n
  by true i r = refl
  by false true r = ap (λ (os : List InsertOrder). order_at os n) (head_orders text table columns g (p ∷ ps))
  by false false true = row_later text g p.token.from n (has_role role.ROW_CLOSE (p ∷ ps)) (row_fault text p.token.from (has_role role.ROW_CLOSE (p ∷ ps)) g.columns) refl lt
  by false false false = refl

past : (text table : List ℕ) (columns : List Column) (us : List (List Piece)) (g : Gathered) (low n : ℕ) → UnitsAscend low us → n < low → order_at (fold (with_unit text table columns) g us).orders n ≡ order_at g.orders n
past text table columns [] g low n h lt = refl
past text table columns ([] ∷ us) g low n h lt = past text table columns us g low n h lt
past text table columns ((p ∷ ps) ∷ us) g low n h lt =
    past text table columns us (with_unit text table columns g (p ∷ ps)) (suc p.token.from) n h.1 (omega (arith, h.0)) ∙ unit_later text table columns g p ps n (omega (arith, h.0))

-- The last order is that of the columns, unless it is yet to come.

abbrev IsRecent : Gathered → ℕ → Type 0
IsRecent g low = g.is_new ≡ false → (n : ℕ) → low ≤ n → names_at g.orders n ≡ Some (column_names g.columns)

head_recent : (text table : List ℕ) (columns : List Column) (g : Gathered) (u : List Piece) (low : ℕ) → IsRecent g low → IsRecent (with_head text table columns g u) low
head_recent text table columns g u low recent = by (head_fault text table columns u) refl where
  ordered : (b : Bool) → stand_so g.columns (order_in text columns u) ≡ b → IsRecent (with_order columns g (order_in text columns u)) low
  ordered true e = rw e recent
  ordered false e = rw e (λ new. absurd cc)

  by : (o : Option Fault) → head_fault text table columns u ≡ o → IsRecent (with_head text table columns g u) low
  by (Some f) e = rw e recent
  by None e = rw e (ordered (stand_so g.columns (order_in text columns u)) refl)

later_recent : (g : Gathered) (low at : ℕ) → low ≤ at → IsRecent g low → IsRecent g (suc at)
later_recent g low at le recent = λ new n h. recent new n (omega arith)

row_recent : (text : List ℕ) (g : Gathered) (low at : ℕ) (closed : Bool) (o : Option Fault) → row_fault text at closed g.columns ≡ o → low ≤ at → IsRecent g low → IsRecent (with_row text g at closed) (suc at)
row_recent text g low at closed (Some f) e le recent = rw e (later_recent g low at le recent)
row_recent text g low at true None e le recent = rw e (λ new n h. place_here g.is_new g.orders at n g.columns (omega arith) (λ was. recent was n (omega arith)))
row_recent text g low at false None e le recent = rw e (later_recent g low at le recent)

unit_recent : (text table : List ℕ) (columns : List Column) (g : Gathered) (p : Piece) (ps : List Piece) (low : ℕ) → low ≤ p.token.from → IsRecent g low → IsRecent (with_unit text table columns g (p ∷ ps)) (suc p.token.from)
unit_recent text table columns g p ps low le recent = by (is_some g.fault) (p.role == role.INSERT) (p.role == role.ROW_OPEN) where
  by : (f i r : Bool) → IsRecent (cond f g (cond i (with_head text table columns g (p ∷ ps)) (cond r (with_row text g p.token.from (has_role role.ROW_CLOSE (p ∷ ps))) g))) (suc p.token.from)
  by true i r = later_recent g low p.token.from le recent
  by false true r = later_recent (with_head text table columns g (p ∷ ps)) low p.token.from le (head_recent text table columns g (p ∷ ps) low recent)
  by false false true = row_recent text g low p.token.from (has_role role.ROW_CLOSE (p ∷ ps)) (row_fault text p.token.from (has_role role.ROW_CLOSE (p ∷ ps)) g.columns) refl le recent
  by false false false = later_recent g low p.token.from le recent

-- Each row has the order that is in force at its place.

abbrev AllInForce : List InsertOrder → List RowAt → Type 0
AllInForce orders [] = Unit {0}
AllInForce orders (r ∷ rs) = (names_at orders r.at ≡ Some r.order) × AllInForce orders rs

force_append : (orders : List InsertOrder) (xs ys : List RowAt) → AllInForce orders xs → AllInForce orders ys → AllInForce orders (xs ++ ys)
force_append orders [] ys h k = k
force_append orders (x ∷ xs) ys h k = (h.0, force_append orders xs ys h.1 k)

added_in_force : (text : List ℕ) (g : Gathered) (low at : ℕ) (closed : Bool) (o : Option Fault) (final : List InsertOrder) → row_fault text at closed g.columns ≡ o → low ≤ at → IsRecent g low
    → order_at final at ≡ order_at (with_row text g at closed).orders at → AllInForce final (added o closed at (column_names g.columns))
added_in_force text g low at closed (Some f) final e le recent same = tt
added_in_force text g low at false None final e le recent same = tt
added_in_force text g low at true None final e le recent same =
    let here : names_at (with_row text g at true).orders at ≡ Some (column_names g.columns) = rw e (place_here g.is_new g.orders at at g.columns (omega arith) (λ was. recent was at le)) in
    (ap (option_map (λ (o : InsertOrder). o.order)) same ∙ here, tt)

unit_in_force : (text table : List ℕ) (columns : List Column) (g : Gathered) (p : Piece) (ps : List Piece) (low : ℕ) (final : List InsertOrder) → low ≤ p.token.from → IsRecent g low
    → order_at final p.token.from ≡ order_at (with_unit text table columns g (p ∷ ps)).orders p.token.from → AllInForce final (row_added text g (p ∷ ps))
unit_in_force text table columns g p ps low final le recent same = by (is_some g.fault) (p.role == role.INSERT) (p.role == role.ROW_OPEN) same where
  by : (f i r : Bool) → order_at final p.token.from ≡ order_at (cond f g (cond i (with_head text table columns g (p ∷ ps)) (cond r (with_row text g p.token.from (has_role role.ROW_CLOSE (p ∷ ps))) g))).orders p.token.from
      → AllInForce final (cond f [] (cond i [] (cond r (added (row_fault text p.token.from (has_role role.ROW_CLOSE (p ∷ ps)) g.columns) (has_role role.ROW_CLOSE (p ∷ ps)) p.token.from (column_names g.columns)) [])))
  by true i r same = tt
  by false true r same = tt
  by false false true same = added_in_force text g low p.token.from (has_role role.ROW_CLOSE (p ∷ ps)) (row_fault text p.token.from (has_role role.ROW_CLOSE (p ∷ ps)) g.columns) final refl le recent same
  by false false false same = tt

all_in_force : (text table : List ℕ) (columns : List Column) (us : List (List Piece)) (g : Gathered) (low : ℕ) → UnitsAscend low us → IsRecent g low → AllInForce (fold (with_unit text table columns) g us).orders (rows_added text table columns g us)
all_in_force text table columns [] g low h recent = tt
all_in_force text table columns ([] ∷ us) g low h recent = all_in_force text table columns us g low h recent
all_in_force text table columns ((p ∷ ps) ∷ us) g low h recent =
    let next = with_unit text table columns g (p ∷ ps) in
    let final = (fold (with_unit text table columns) next us).orders in
    force_append final (row_added text g (p ∷ ps)) (rows_added text table columns next us)
    (unit_in_force text table columns g p ps low final h.0 recent (past text table columns us next (suc p.token.from) p.token.from h.1 (omega arith)))
    (all_in_force text table columns us next (suc p.token.from) h.1 (unit_recent text table columns g p ps low h.0 recent))

-- No row's order is empty.

abbrev AllNamed : List RowAt → Type 0
AllNamed [] = Unit {0}
AllNamed (r ∷ rs) = (r.order ≡ [] → ⊥) × AllNamed rs

named_append : (xs ys : List RowAt) → AllNamed xs → AllNamed ys → AllNamed (xs ++ ys)
named_append [] ys h k = k
named_append (x ∷ xs) ys h k = (h.0, named_append xs ys h.1 k)

order_parts : (columns : List Column) (order : List Text) → is_order columns order ≡ true → ((length order == length columns) ≡ true) × (all_columns columns order ≡ true)
order_parts columns order h = and_parts (length order == length columns) (all_columns columns order) (and_parts (length order == length columns && all_columns columns order) (not (names_repeat order)) h).0

no_empty_order : (columns : List Column) (order : List Text) → 0 < length columns → is_order columns order ≡ true → order ≡ [] → ⊥
no_empty_order columns order some h e =
    let count : length order ≡ length columns = eqb-true (length order) (length columns) (order_parts columns order h).0 in
    let none : length order ≡ 0 = ap length e in
    omega arith

names_in_force : (columns cs : List Column) → 0 < length columns → InForce columns cs → column_names cs ≡ [] → ⊥
names_in_force columns cs some (order, is_one, here) e =
    no_empty_order columns order some is_one (sym (names_of_order columns order (order_parts columns order is_one).1) ∙ ap column_names (sym here) ∙ e)

-- an INSERT is still to come before a row, or there was a fault, or an order is in force
abbrev IsBegun : List Column → List (List Piece) → Gathered → Type 0
IsBegun columns us g = (units_led us ≡ true) ⊎ ((is_some g.fault ≡ true) ⊎ InForce columns g.columns)

added_named : (o : Option Fault) (closed : Bool) (at : ℕ) (order : List Text) → (order ≡ [] → ⊥) → AllNamed (added o closed at order)
added_named (Some f) closed at order named = tt
added_named None false at order named = tt
added_named None true at order named = (named, tt)

unit_named : (text : List ℕ) (columns : List Column) (g : Gathered) (p : Piece) (ps : List Piece) (us : List (List Piece)) → 0 < length columns → IsBegun columns ((p ∷ ps) ∷ us) g → AllNamed (row_added text g (p ∷ ps))
unit_named text columns g p ps us some begun = by (is_some g.fault) (p.role == role.INSERT) (p.role == role.ROW_OPEN) begun where
  by : (f i r : Bool) → (cond i true (cond r false (units_led us)) ≡ true) ⊎ ((f ≡ true) ⊎ InForce columns g.columns)
      → AllNamed (cond f [] (cond i [] (cond r (added (row_fault text p.token.from (has_role role.ROW_CLOSE (p ∷ ps)) g.columns) (has_role role.ROW_CLOSE (p ∷ ps)) p.token.from (column_names g.columns)) [])))
  by true i r h = tt
  by false true r h = tt
  by false false false h = tt
  by false false true (inl led) = absurd cc
  by false false true (inr (inl fault)) = absurd cc
  by false false true (inr (inr force)) =
      added_named (row_fault text p.token.from (has_role role.ROW_CLOSE (p ∷ ps)) g.columns) (has_role role.ROW_CLOSE (p ∷ ps)) p.token.from (column_names g.columns) (names_in_force columns g.columns some force)

-- columns that stand in an order of a schema aren't none
kept_order : (columns cs : List Column) (order : List Text) → 0 < length columns → is_order columns order ≡ true → stand_so cs order ≡ true → Sound columns cs → InForce columns cs
kept_order columns cs order some one stand (inr force) = force
kept_order columns cs [] some one stand (inl none) = absurd (no_empty_order columns [] some one refl)
kept_order columns cs (n ∷ ns) some one stand (inl none) = absurd (let stood : stand_so [] (n ∷ ns) ≡ true = ap (λ (x : List Column). stand_so x (n ∷ ns)) (sym none) ∙ stand in cc)

head_begun : (text table : List ℕ) (columns : List Column) (g : Gathered) (u : List Piece) → 0 < length columns → is_order columns (column_names columns) ≡ true → Sound columns g.columns
    → (is_some (with_head text table columns g u).fault ≡ true) ⊎ InForce columns (with_head text table columns g u).columns
head_begun text table columns g u some own sound = by (head_fault text table columns u) refl where
  ordered : (b : Bool) → is_order columns (order_in text columns u) ≡ true → stand_so g.columns (order_in text columns u) ≡ b → InForce columns (with_order columns g (order_in text columns u)).columns
  ordered true one e = rw e (kept_order columns g.columns (order_in text columns u) some one e sound)
  ordered false one e = rw e (order_in text columns u, one, refl)

  by : (o : Option Fault) → head_fault text table columns u ≡ o → (is_some (with_head text table columns g u).fault ≡ true) ⊎ InForce columns (with_head text table columns g u).columns
  by (Some f) e = rw e (inl refl)
  by None e = rw e (inr (ordered (stand_so g.columns (order_in text columns u)) (no_lack text columns u own (fine_head text table columns u e)) refl))

row_begun : (text : List ℕ) (columns : List Column) (g : Gathered) (at : ℕ) (closed : Bool) → InForce columns g.columns → InForce columns (with_row text g at closed).columns
row_begun text columns g at closed force =
    let P : List Column → Type 0 = λ cs. InForce columns cs in subst P (sym (row_columns text g at closed (row_fault text at closed g.columns) refl)) force

next_begun : (text table : List ℕ) (columns : List Column) (g : Gathered) (p : Piece) (ps : List Piece) (us : List (List Piece)) → 0 < length columns → is_order columns (column_names columns) ≡ true → Sound columns g.columns
    → IsBegun columns ((p ∷ ps) ∷ us) g → IsBegun columns us (with_unit text table columns g (p ∷ ps))
next_begun text table columns g p ps us some own sound begun = by (is_some g.fault) refl (p.role == role.INSERT) (p.role == role.ROW_OPEN) begun where
  by : (f : Bool) → is_some g.fault ≡ f → (i r : Bool) → (cond i true (cond r false (units_led us)) ≡ true) ⊎ ((f ≡ true) ⊎ InForce columns g.columns)
      → IsBegun columns us (cond f g (cond i (with_head text table columns g (p ∷ ps)) (cond r (with_row text g p.token.from (has_role role.ROW_CLOSE (p ∷ ps))) g)))
  by true e i r h = inr (inl e)
  by false e true r h = inr (head_begun text table columns g (p ∷ ps) some own sound)
  by false e false true (inl led) = absurd cc
  by false e false true (inr (inl fault)) = absurd cc
  by false e false true (inr (inr force)) = inr (inr (row_begun text columns g p.token.from (has_role role.ROW_CLOSE (p ∷ ps)) force))
  by false e false false (inl led) = inl led
  by false e false false (inr (inl fault)) = absurd cc
  by false e false false (inr (inr force)) = inr (inr force)

all_named : (text table : List ℕ) (columns : List Column) (us : List (List Piece)) (g : Gathered) → 0 < length columns → is_order columns (column_names columns) ≡ true → Sound columns g.columns → IsBegun columns us g
    → AllNamed (rows_added text table columns g us)
all_named text table columns [] g some own sound begun = tt
all_named text table columns ([] ∷ us) g some own sound begun = all_named text table columns us g some own sound begun
all_named text table columns ((p ∷ ps) ∷ us) g some own sound begun =
    let next = with_unit text table columns g (p ∷ ps) in
    named_append (row_added text g (p ∷ ps)) (rows_added text table columns next us) (unit_named text columns g p ps us some begun)
    (all_named text table columns us next some own (unit_sound text table columns g (p ∷ ps) own sound) (next_begun text table columns g p ps us some own sound begun))

-- A schema has a column.

passes : {E : Type 0} (b : Bool) (e : E) (rest : List (Bool × E)) → is_none (first_refusal ((b, e) ∷ rest)) ≡ true → (b ≡ false) × (is_none (first_refusal rest) ≡ true)
passes false e rest h = (refl, h)
passes true e rest h = absurd cc

some_columns : (columns : List Column) (primary : List Text) → (length primary == 0) ≡ false → all_columns columns primary ≡ true → 0 < length columns
some_columns (c ∷ cs) primary some all = omega arith
some_columns [] [] some all = absurd cc
some_columns [] (n ∷ ns) some all = absurd cc

unnot : (b : Bool) → not b ≡ false → b ≡ true
unnot true h = refl
unnot false h = absurd cc

has_column_at_all : (layout : Layout) → is_formed layout ≡ true → 0 < length layout.columns
has_column_at_all layout formed =
    let all = refusals layout.columns layout.primary layout.uniques in
    let known = all_columns layout.columns layout.primary in
    let keys = list_all (λ (k : UniqueKey). all_columns layout.columns k.columns) layout.uniques in
    let last = and_parts (list_all is_column layout.columns && list_all is_key layout.uniques && leb (length layout.uniques) 16) (is_none (first_refusal all)) formed in
    let first = passes (column_repeats layout.columns || key_repeats layout.uniques || names_repeat layout.primary || some_key_repeats_names layout.uniques) schema_fault.Duplicate (drop 1 all) last.1 in
    let second = passes (length layout.primary == 0) schema_fault.NoPrimary (drop 2 all) first.1 in
    let third = passes (not (known && keys)) schema_fault.UnknownColumn (drop 3 all) second.1 in
    some_columns layout.columns layout.primary second.0 (and_parts known keys (unnot (known && keys) third.0)).0

-- The law.

readable : (text : List ℕ) (layout : Layout) (orders : List InsertOrder) (at : ℕ) (order : List Text) → names_at orders at ≡ Some order → is_some (row_of text at order layout) ≡ true → is_some (row_in_force text orders layout at) ≡ true
readable text layout orders at order here row = by (order_at orders at) here where
  by : (o : Option InsertOrder) → option_map (λ (x : InsertOrder). x.order) o ≡ Some order → is_some (option_and_then (λ (x : InsertOrder). row_of text at x.order layout) o) ≡ true
  by None e = absurd cc
  by (Some x) e =
      let same : x.order ≡ order = cc in
      let P : List Text → Type 0 = λ names. is_some (row_of text at names layout) ≡ true in
      subst P (sym same) row

stands_readable : (text : List ℕ) (layout : Layout) (orders : List InsertOrder) (at : ℕ) (order : List Text) → Stands text layout at order → names_at orders at ≡ Some order → (order ≡ [] → ⊥) → is_some (row_in_force text orders layout at) ≡ true
stands_readable text layout orders at order (inl none) here named = absurd (named none)
stands_readable text layout orders at order (inr row) here named = readable text layout orders at order here row

all_readable : (text : List ℕ) (layout : Layout) (orders : List InsertOrder) (rows : List RowAt) → AllStand text layout rows → AllInForce orders rows → AllNamed rows → list_all (λ at. is_some (row_in_force text orders layout at)) (places_of rows) ≡ true
all_readable text layout orders [] stand force named = refl
all_readable text layout orders (r ∷ rs) stand force named =
    and_from (is_some (row_in_force text orders layout r.at)) (list_all (λ at. is_some (row_in_force text orders layout at)) (places_of rs))
    (stands_readable text layout orders r.at r.order stand.0 force.0 named.0) (all_readable text layout orders rs stand.1 force.1 named.1)

abbrev orders_of : Result Inserts DumpFault → List InsertOrder
orders_of (Ok i) = i.orders
orders_of (Err f) = []

good_orders : (g : Gathered) (o : Option Fault) (inserts : Inserts) → unless o (record { places = g.places; orders = g.orders }) ≡ Ok inserts → inserts.orders ≡ g.orders
good_orders g None inserts e = ap orders_of (sym e)
good_orders g (Some f) inserts e = absurd cc

-- At each place of a good answer stands a row, in the order of literals that the answer has in force there.
pub orders_in_force : (text table : List ℕ) (layout : Layout) (all : Contents) (inserts : Inserts) → is_formed layout ≡ true → HasContents text all → rows_of text table layout all ≡ Ok inserts
    → list_all (λ at. is_some (row_in_force text inserts.orders layout at)) inserts.places ≡ true
orders_in_force text table layout all inserts formed (roles, first, reading, e) answer =
    let tokens = (lexed_of text).tokens in
    let kinds = kinds_of text tokens in
    let kept = filter counts (pieces_of tokens kinds roles) in
    let same : all.pieces ≡ kept = ap (λ (c : Contents). c.pieces) e in
    let us = units all.pieces in
    let Led : List Piece → Type 0 = λ ps. units_led (units ps) ≡ true in
    let led = subst Led (sym same) (pieces_led kept (kept_led tokens kinds roles (reading_led kinds roles first reading))) in
    let InOrder : List Piece → Type 0 = λ ps. UnitsAscend 0 (units ps) in
    let ascend = subst InOrder (sym same) (units_ascend 0 kept (pieces_ascend 0 (length text) tokens kinds roles (left_are_in_order text 0 (omega arith)))) in
    let own = own_order layout formed in
    let stand = rows_stand text table layout all inserts formed answer in
    let g = gathered text table layout.columns us in
    let rows = rows_in text table layout all in
    let found : inserts.orders ≡ g.orders = good_orders g (least g.fault (least (second_create (second_place us)) all.ending)) inserts answer in
    let read = all_readable text layout g.orders rows stand.1 (all_in_force text table layout.columns us nothing 0 ascend (λ new. absurd cc)) (all_named text table layout.columns us nothing (has_column_at_all layout formed) own (inl refl) (inl led)) in
    let Places : List ℕ → Type 0 = λ ps. list_all (λ at. is_some (row_in_force text inserts.orders layout at)) ps ≡ true in
    let Orders : List InsertOrder → Type 0 = λ os. list_all (λ at. is_some (row_in_force text os layout at)) (places_of rows) ≡ true in
    subst Places (sym stand.0) (subst Orders (sym found) read)

-- what reading rows answers is the text's, so each place of it has its row
pub rows_readable : (text table : List ℕ) (layout : Layout) (r : Result Inserts DumpFault) → is_formed layout ≡ true → OrMemory (HasRows text table layout) r → IfOk r (λ inserts. are_readable text layout inserts ≡ true)
rows_readable text table layout (Ok inserts) formed (all, has, e) = orders_in_force text table layout all inserts formed has (sym e)
rows_readable text table layout (Err f) formed h = tt
