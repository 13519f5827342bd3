-- Laws of the rows of a dump: each place that a good answer has is one from which a row is read again, in the order of
-- literals that is in force there; and what is read fits the schema.
pub use Rattle.dm_dump.proofs.RowFits.{row_fits, row_in_force_fits}
use Rattle.std.proofs.Common.{◌≡◌, ◌==◌, ℕ, suc, Bool, true, false, not, cond, ◌&&◌, ◌||◌, leb, List, [], ◌∷◌, ◌++◌, map, fold, drop, length, Option, Some, None, Result, Ok, Err, is_some, is_none, refl, sym, ap, ◌∙◌, subst, ◌⊎◌, inl, inr, arith, append_assoc, append-nil}
use Rattle.std.specs.Option.{option_map, option_to_list}
use Rattle.std.specs.List.{list_any, list_all}
use Rattle.std.specs.Cmp.Lexicographic.{same_text}
use Rattle.std.proofs.lemmas.Bool.{and_parts, eqb-true, eq-eqb}
use Rattle.std.proofs.lemmas.Cmp.{nat_list_eq_equiv}
use Rattle.dm_list.specs.Answer.{first_refusal}
use Rattle.dm_value.specs.declared.value.Value.{Value}
use Rattle.dm_schema.specs.declared.column.Column.{Column}
use Rattle.dm_schema.specs.declared.fault.SchemaFault.TheVariants as schema_fault
use Rattle.dm_schema.specs.Kinds.{is_column, is_key}
use Rattle.dm_schema.specs.Layout.{Layout}
use Rattle.dm_schema.specs.Names.{Text, same_name, column_at, column_names, has_column}
use Rattle.dm_schema.specs.Schemas.{all_columns, names_repeat, column_repeats, key_repeats, some_key_repeats_names, refusals, is_formed}
use Rattle.dm_syntax.specs.declared.piece.Piece.{Piece}
use Rattle.dm_syntax.specs.Pieces.{has_role}
use Rattle.dm_dump.specs.declared.fault.Fault.{Fault}
use Rattle.dm_dump.specs.declared.fault.DumpFault.{DumpFault}
use Rattle.dm_dump.specs.declared.literal.Literal.{Literal}
use Rattle.dm_dump.specs.declared.inserts.Inserts.{Inserts}
use Rattle.dm_dump.specs.declared.role.TheConstants as role
use Rattle.dm_dump.specs.Reading.{Contents}
use Rattle.dm_dump.specs.Units.{units}
use Rattle.dm_dump.specs.Outlines.{least, second_place, second_create}
use Rattle.dm_dump.specs.Literals.{has_bracket, literals_at, value_in, values_of, first_unfit}
use Rattle.dm_dump.specs.Orders.{is_order, columns_by, stand_so, in_schema_order, row_of}
use Rattle.dm_dump.specs.Rows.{Gathered, nothing, names_other, lacks_column, head_fault, order_in, unfit, row_fault, with_order, with_head, with_row, with_unit, gathered, unless, rows_of}

equal_names : (a b : Text) → same_name a b ≡ true → a ≡ b
equal_names a b h = same_text a b (sym h)

-- The columns of an order have the order's names.

names_append : (xs ys : List Column) → column_names (xs ++ ys) ≡ column_names xs ++ column_names ys
names_append [] ys = refl
names_append (x ∷ xs) ys = ap (λ (ns : List Text). x.name ∷ ns) (names_append xs ys)

found_name : (columns : List Column) (n : Text) → has_column columns n ≡ true → column_names (option_to_list (column_at columns n)) ≡ n ∷ []
found_name [] n h = absurd cc
found_name (c ∷ cs) n h = by (same_name c.name n) refl h (found_name cs n) where
  by : (b : Bool) → same_name c.name n ≡ b → (b || has_column cs n) ≡ true → (has_column cs n ≡ true → column_names (option_to_list (column_at cs n)) ≡ n ∷ [])
      → column_names (option_to_list (cond b (Some c) (column_at cs n))) ≡ n ∷ []
  by true e h rest = ap (λ (m : Text). m ∷ []) (equal_names c.name n e)
  by false e h rest = rest h

pub names_of_order : (columns : List Column) (order : List Text) → all_columns columns order ≡ true → column_names (columns_by columns order) ≡ order
names_of_order columns [] h = refl
names_of_order columns (n ∷ ns) h =
    let parts = and_parts (has_column columns n) (all_columns columns ns) h in
    names_append (option_to_list (column_at columns n)) (columns_by columns ns)
    ∙ ap (λ (front : List Text). front ++ column_names (columns_by columns ns)) (found_name columns n parts.0)
    ∙ ap (λ (rest : List Text). n ∷ rest) (names_of_order columns ns parts.1)

-- A row without a fault has its values.

some_map : {A B : Type 0} (f : A → B) (o : Option A) → is_some (option_map f o) ≡ is_some o
some_map f None = refl
some_map f (Some x) = refl

values_stand : (text : List ℕ) (cs : List Column) (ls : List Literal) → length ls ≡ length cs → first_unfit text cs ls ≡ None → is_some (values_of text cs ls) ≡ true
values_stand text [] [] same fit = refl
values_stand text [] (l ∷ ls) same fit = absurd (omega arith)
values_stand text (c ∷ cs) [] same fit = absurd (omega arith)
values_stand text (c ∷ cs) (l ∷ ls) same fit = by (value_in text c l) refl fit (values_stand text cs ls (omega arith)) where
  by : (o : Option Value) → value_in text c l ≡ o → cond (is_some o) (first_unfit text cs ls) (Some l.first.from) ≡ None → (first_unfit text cs ls ≡ None → is_some (values_of text cs ls) ≡ true)
      → is_some (values_of text (c ∷ cs) (l ∷ ls)) ≡ true
  by None e fit rest = absurd cc
  by (Some v) e fit rest = rw e (some_map (λ (vs : List Value). v ∷ vs) (values_of text cs ls) ∙ rest fit)

no_unfit : (place : Option ℕ) → unfit place ≡ None → place ≡ None
no_unfit None h = refl
no_unfit (Some at) h = absurd cc

-- a whole row without a fault has as many literals as columns, each with a value
whole_row : (text : List ℕ) (at : ℕ) (cs : List Column) → row_fault text at true cs ≡ None → (length (literals_at text at) ≡ length cs) × (first_unfit text cs (literals_at text at) ≡ None)
whole_row text at cs h = by (length (literals_at text at) == length cs) refl h where
  by : (b : Bool) → (length (literals_at text at) == length cs) ≡ b → row_fault text at true cs ≡ None → (length (literals_at text at) ≡ length cs) × (first_unfit text cs (literals_at text at) ≡ None)
  by true e h = (eqb-true _ _ e, no_unfit (first_unfit text cs (literals_at text at)) (rw e at h))
  by false e h = absurd (let none = rw e at h in cc)

-- An order is in force: the columns are those of an order of the schema's.
abbrev pub InForce : List Column → List Column → Type 0
InForce columns cs = (order : List Text) × (is_order columns order ≡ true) × (cs ≡ columns_by columns order)

-- a row can be read again, where an order is in force; a schema has columns, so its orders aren't empty
abbrev pub Stands : List ℕ → Layout → ℕ → List Text → Type 0
Stands text layout at order = (order ≡ []) ⊎ (is_some (row_of text at order layout) ≡ true)

empty_names : (cs : List Column) → length cs ≡ 0 → column_names cs ≡ []
empty_names [] h = refl
empty_names (c ∷ cs) h = absurd (omega arith)

stand_if : {A B : Type 0} (b o : Bool) (f : A → B) (v : Option A) → b ≡ true → o ≡ true → is_some v ≡ true → is_some (cond (b && o) (option_map f v) None) ≡ true
stand_if b o f v p q r = rw (p, q) (some_map f v ∙ r)

row_stands : (text : List ℕ) (layout : Layout) (at : ℕ) (cs : List Column) → InForce layout.columns cs → row_fault text at true cs ≡ None → Stands text layout at (column_names cs)
row_stands text layout at cs (order, is_one, here) fine =
    let whole = whole_row text at cs fine in
    let front = and_parts (length order == length layout.columns && all_columns layout.columns order) (not (names_repeat order)) is_one in
    let all = and_parts (length order == length layout.columns) (all_columns layout.columns order) front.0 in
    let names : column_names cs ≡ order = ap column_names here ∙ names_of_order layout.columns order all.1 in
    by (has_bracket text at) refl whole.0 whole.1 names
  where
    by : (b : Bool) → has_bracket text at ≡ b → length (literals_at text at) ≡ length cs → first_unfit text cs (literals_at text at) ≡ None → column_names cs ≡ order → Stands text layout at (column_names cs)
    by false e same fit names =
        let none : literals_at text at ≡ [] = rw e refl in
        inl (empty_names cs (sym same ∙ ap length none))
    by true e same fit names =
        let values : is_some (values_of text (columns_by layout.columns order) (literals_at text at)) ≡ true =
        subst (λ (x : List Column). is_some (values_of text x (literals_at text at)) ≡ true) here (values_stand text cs (literals_at text at) same fit) in
        let P : List Text → Type 0 = λ names. is_some (row_of text at names layout) ≡ true in
        inr (subst P (sym names) (stand_if (has_bracket text at) (is_order layout.columns order) (in_schema_order layout.columns order) (values_of text (columns_by layout.columns order) (literals_at text at)) e is_one values))

-- Going over the units.

-- a row's place, and the order in force there
pub record RowAt : Type 0 where
  pub at : ℕ
  pub order : List Text

abbrev pub AllStand : List ℕ → Layout → List RowAt → Type 0
AllStand text layout [] = Unit {0}
AllStand text layout (r ∷ rs) = Stands text layout r.at r.order × AllStand text layout rs

abbrev pub added : Option Fault → Bool → ℕ → List Text → List RowAt
added (Some f) closed at order = []
added None false at order = []
added None true at order = record { at = at; order = order } ∷ []

-- the row that a unit adds to what was gathered
abbrev pub row_added : List ℕ → Gathered → List Piece → List RowAt
row_added text g [] = []
row_added text g (p ∷ ps) =
    cond (is_some g.fault) [] (cond (p.role == role.INSERT) []
    (cond (p.role == role.ROW_OPEN) (added (row_fault text p.token.from (has_role role.ROW_CLOSE (p ∷ ps)) g.columns) (has_role role.ROW_CLOSE (p ∷ ps)) p.token.from (column_names g.columns)) []))

abbrev pub rows_added : List ℕ → List ℕ → List Column → Gathered → List (List Piece) → List RowAt
rows_added text table columns g [] = []
rows_added text table columns g (u ∷ us) = row_added text g u ++ rows_added text table columns (with_unit text table columns g u) us

abbrev pub places_of : List RowAt → List ℕ
places_of rows = map (λ r. r.at) rows

places_append : (xs ys : List RowAt) → places_of (xs ++ ys) ≡ places_of xs ++ places_of ys
places_append [] ys = refl
places_append (x ∷ xs) ys = ap (λ (ps : List ℕ). x.at ∷ ps) (places_append xs ys)

stand_append : (text : List ℕ) (layout : Layout) (xs ys : List RowAt) → AllStand text layout xs → AllStand text layout ys → AllStand text layout (xs ++ ys)
stand_append text layout [] ys h k = k
stand_append text layout (x ∷ xs) ys h k = (h.0, stand_append text layout xs ys h.1 k)

-- The places are those of the rows that are added.

row_places : (text : List ℕ) (g : Gathered) (at : ℕ) (closed : Bool) (o : Option Fault) → row_fault text at closed g.columns ≡ o → (with_row text g at closed).places ≡ g.places ++ places_of (added o closed at (column_names g.columns))
row_places text g at closed (Some f) e = rw e (sym (append-nil g.places))
row_places text g at true None e = rw e refl
row_places text g at false None e = rw e (sym (append-nil g.places))

head_places : (text table : List ℕ) (columns : List Column) (g : Gathered) (u : List Piece) → (with_head text table columns g u).places ≡ g.places
head_places text table columns g u = by (head_fault text table columns u) refl where
  ordered : (b : Bool) → stand_so g.columns (order_in text columns u) ≡ b → (with_order columns g (order_in text columns u)).places ≡ g.places
  ordered true e = rw e refl
  ordered false e = rw e refl

  by : (o : Option Fault) → head_fault text table columns u ≡ o → (with_head text table columns g u).places ≡ g.places
  by (Some f) e = rw e refl
  by None e = rw e (ordered (stand_so g.columns (order_in text columns u)) refl)

unit_places : (text table : List ℕ) (columns : List Column) (g : Gathered) (u : List Piece) → (with_unit text table columns g u).places ≡ g.places ++ places_of (row_added text g u)
unit_places text table columns g [] = sym (append-nil g.places)
unit_places text table columns g (p ∷ ps) = by (is_some g.fault) (p.role == role.INSERT) (p.role == role.ROW_OPEN) where
  by : (f i r : Bool) → (cond f g (cond i (with_head text table columns g (p ∷ ps)) (cond r (with_row text g p.token.from (has_role role.ROW_CLOSE (p ∷ ps))) g))).places
      ≡ g.places ++ places_of (cond f [] (cond i [] (cond r (added (row_fault text p.token.from (has_role role.ROW_CLOSE (p ∷ ps)) g.columns) (has_role role.ROW_CLOSE (p ∷ ps)) p.token.from (column_names g.columns)) [])))
  by true i r = sym (append-nil g.places)
  by false true r = head_places text table columns g (p ∷ ps) ∙ sym (append-nil g.places)
  by false false true = row_places text g p.token.from (has_role role.ROW_CLOSE (p ∷ ps)) (row_fault text p.token.from (has_role role.ROW_CLOSE (p ∷ ps)) g.columns) refl
  by false false false = sym (append-nil g.places)

all_places : (text table : List ℕ) (columns : List Column) (us : List (List Piece)) (g : Gathered) → (fold (with_unit text table columns) g us).places ≡ g.places ++ places_of (rows_added text table columns g us)
all_places text table columns [] g = sym (append-nil g.places)
all_places text table columns (u ∷ us) g =
    let next = with_unit text table columns g u in
    all_places text table columns us next
    ∙ ap (λ (ps : List ℕ). ps ++ places_of (rows_added text table columns next us)) (unit_places text table columns g u)
    ∙ append_assoc g.places (places_of (row_added text g u)) (places_of (rows_added text table columns next us))
    ∙ ap (λ (ps : List ℕ). g.places ++ ps) (sym (places_append (row_added text g u) (rows_added text table columns next us)))

-- No order is in force before the first INSERT, and one is behind it.

abbrev pub Sound : List Column → List Column → Type 0
Sound columns cs = (cs ≡ []) ⊎ InForce columns cs

pub no_lack : (text : List ℕ) (columns : List Column) (u : List Piece) → is_order columns (column_names columns) ≡ true → lacks_column text columns u ≡ false → is_order columns (order_in text columns u) ≡ true
no_lack text columns u own h = by (has_role role.NAMES_CLOSE u) refl h where
  unnot : (b : Bool) → not b ≡ false → b ≡ true
  unnot true h = refl
  unnot false h = absurd cc

  by : (b : Bool) → has_role role.NAMES_CLOSE u ≡ b → lacks_column text columns u ≡ false → is_order columns (order_in text columns u) ≡ true
  by true e h = rw e (unnot _ (rw e at h))
  by false e h = rw e own

pub fine_head : (text table : List ℕ) (columns : List Column) (u : List Piece) → head_fault text table columns u ≡ None → lacks_column text columns u ≡ false
fine_head text table columns u h = by (names_other text table u) (lacks_column text columns u) refl refl h where
  by : (o l : Bool) → names_other text table u ≡ o → lacks_column text columns u ≡ l → head_fault text table columns u ≡ None → l ≡ false
  by o false p q h = refl
  by true true p q h = absurd (let some = rw p at h in cc)
  by false true p q h = absurd (let some = rw (p, q) at h in cc)

head_sound : (text table : List ℕ) (columns : List Column) (g : Gathered) (u : List Piece) → is_order columns (column_names columns) ≡ true → Sound columns g.columns → Sound columns (with_head text table columns g u).columns
head_sound text table columns g u own sound = by (head_fault text table columns u) refl where
  ordered : (b : Bool) → is_order columns (order_in text columns u) ≡ true → stand_so g.columns (order_in text columns u) ≡ b → Sound columns (with_order columns g (order_in text columns u)).columns
  ordered true one e = rw e sound
  ordered false one e = rw e (inr (order_in text columns u, one, refl))

  by : (o : Option Fault) → head_fault text table columns u ≡ o → Sound columns (with_head text table columns g u).columns
  by (Some f) e = rw e sound
  by None e = rw e (ordered (stand_so g.columns (order_in text columns u)) (no_lack text columns u own (fine_head text table columns u e)) refl)

pub row_columns : (text : List ℕ) (g : Gathered) (at : ℕ) (closed : Bool) (o : Option Fault) → row_fault text at closed g.columns ≡ o → (with_row text g at closed).columns ≡ g.columns
row_columns text g at closed (Some f) e = rw e refl
row_columns text g at true None e = rw e refl
row_columns text g at false None e = rw e refl

pub unit_sound : (text table : List ℕ) (columns : List Column) (g : Gathered) (u : List Piece) → is_order columns (column_names columns) ≡ true → Sound columns g.columns → Sound columns (with_unit text table columns g u).columns
unit_sound text table columns g [] own sound = sound
unit_sound text table columns g (p ∷ ps) own sound = by (is_some g.fault) (p.role == role.INSERT) (p.role == role.ROW_OPEN) where
  by : (f i r : Bool) → Sound columns (cond f g (cond i (with_head text table columns g (p ∷ ps)) (cond r (with_row text g p.token.from (has_role role.ROW_CLOSE (p ∷ ps))) g))).columns
  by true i r = sound
  by false true r = head_sound text table columns g (p ∷ ps) own sound
  by false false true =
      let P : List Column → Type 0 = λ cs. Sound columns cs in
      subst P (sym (row_columns text g p.token.from (has_role role.ROW_CLOSE (p ∷ ps)) (row_fault text p.token.from (has_role role.ROW_CLOSE (p ∷ ps)) g.columns) refl)) sound
  by false false false = sound

-- Each row that is added stands.

added_stands : (text : List ℕ) (layout : Layout) (at : ℕ) (closed : Bool) (cs : List Column) (o : Option Fault) → row_fault text at closed cs ≡ o → Sound layout.columns cs → AllStand text layout (added o closed at (column_names cs))
added_stands text layout at closed cs (Some f) e sound = tt
added_stands text layout at false cs None e sound = tt
added_stands text layout at true cs None e (inl none) = (inl (ap column_names none), tt)
added_stands text layout at true cs None e (inr force) = (row_stands text layout at cs force e, tt)

unit_stands : (text : List ℕ) (layout : Layout) (g : Gathered) (u : List Piece) → Sound layout.columns g.columns → AllStand text layout (row_added text g u)
unit_stands text layout g [] sound = tt
unit_stands text layout g (p ∷ ps) sound = by (is_some g.fault) (p.role == role.INSERT) (p.role == role.ROW_OPEN) where
  by : (f i r : Bool) → AllStand text layout (cond f [] (cond i [] (cond r (added (row_fault text p.token.from (has_role role.ROW_CLOSE (p ∷ ps)) g.columns) (has_role role.ROW_CLOSE (p ∷ ps)) p.token.from (column_names g.columns)) [])))
  by true i r = tt
  by false true r = tt
  by false false true = added_stands text layout p.token.from (has_role role.ROW_CLOSE (p ∷ ps)) g.columns (row_fault text p.token.from (has_role role.ROW_CLOSE (p ∷ ps)) g.columns) refl sound
  by false false false = tt

all_stand : (text table : List ℕ) (layout : Layout) (us : List (List Piece)) (g : Gathered) → is_order layout.columns (column_names layout.columns) ≡ true → Sound layout.columns g.columns
    → AllStand text layout (rows_added text table layout.columns g us)
all_stand text table layout [] g own sound = tt
all_stand text table layout (u ∷ us) g own sound =
    stand_append text layout (row_added text g u) (rows_added text table layout.columns (with_unit text table layout.columns g u) us) (unit_stands text layout g u sound)
    (all_stand text table layout us (with_unit text table layout.columns g u) own (unit_sound text table layout.columns g u own sound))

-- The schema's own order is one.

same_repeats : (columns : List Column) → names_repeat (column_names columns) ≡ column_repeats columns
same_repeats [] = refl
same_repeats (c ∷ cs) = ap (λ (b : Bool). b || names_repeat (column_names cs)) (same_any c cs) ∙ ap (λ (b : Bool). list_any (λ d. same_name c.name d.name) cs || b) (same_repeats cs) where
  same_any : (c : Column) (cs : List Column) → list_any (λ n. same_name c.name n) (column_names cs) ≡ list_any (λ d. same_name c.name d.name) cs
  same_any c [] = refl
  same_any c (d ∷ ds) = ap (λ (b : Bool). same_name c.name d.name || b) (same_any c ds)

or_true : (b : Bool) → (b || true) ≡ true
or_true true = refl
or_true false = refl

all_own : (front columns : List Column) → ((n : Text) → has_column columns n ≡ true → has_column front n ≡ true) → all_columns front (column_names columns) ≡ true
all_own front [] more = refl
all_own front (c ∷ cs) more =
    let here : has_column front c.name ≡ true = more c.name (ap (λ (b : Bool). b || has_column cs c.name) (nat_list_eq_equiv.refl c.name)) in
    rw here (all_own front cs (λ n h. more n (ap (λ (b : Bool). same_name c.name n || b) h ∙ or_true (same_name c.name n))))

pub first_passes_not : {E : Type 0} (b : Bool) (e : E) (rest : List (Bool × E)) → is_none (first_refusal ((b, e) ∷ rest)) ≡ true → b ≡ false
first_passes_not false e rest h = refl
first_passes_not true e rest h = absurd cc

or_left_false : (a b : Bool) → (a || b) ≡ false → a ≡ false
or_left_false false b h = refl
or_left_false true b h = h

count_names : (columns : List Column) → length (column_names columns) ≡ length columns
count_names [] = refl
count_names (c ∷ cs) = ap suc (count_names cs)

pub own_order : (layout : Layout) → is_formed layout ≡ true → is_order layout.columns (column_names layout.columns) ≡ true
own_order layout formed =
    let last = and_parts (list_all is_column layout.columns && list_all is_key layout.uniques && leb (length layout.uniques) 16) (is_none (first_refusal (refusals layout.columns layout.primary layout.uniques))) formed in
    let keys = key_repeats layout.uniques in
    let names = names_repeat layout.primary in
    let inner = some_key_repeats_names layout.uniques in
    let repeated = first_passes_not (column_repeats layout.columns || keys || names || inner) schema_fault.Duplicate (drop 1 (refusals layout.columns layout.primary layout.uniques)) last.1 in
    let apart : column_repeats layout.columns ≡ false =
    or_left_false (column_repeats layout.columns) keys (or_left_false (column_repeats layout.columns || keys) names (or_left_false (column_repeats layout.columns || keys || names) inner repeated)) in
    let count : (length (column_names layout.columns) == length layout.columns) ≡ true = rw (count_names layout.columns) (same_number (length layout.columns)) in
    rw (count, all_own layout.columns layout.columns (λ n h. h), same_repeats layout.columns, apart) refl
  where
    same_number : (n : ℕ) → (n == n) ≡ true
    same_number n = eq-eqb n n refl

abbrev places_in : Result Inserts DumpFault → List ℕ
places_in (Ok i) = i.places
places_in (Err f) = []

-- the rows of a dump's INSERTs, each with the order that is in force there
abbrev pub rows_in : List ℕ → List ℕ → Layout → Contents → List RowAt
rows_in text table layout all = rows_added text table layout.columns nothing (units all.pieces)

-- Each place of a good answer is that of a row, in the order that is in force there.
pub rows_stand : (text table : List ℕ) (layout : Layout) (all : Contents) (inserts : Inserts) → is_formed layout ≡ true → rows_of text table layout all ≡ Ok inserts
    → (inserts.places ≡ places_of (rows_in text table layout all)) × AllStand text layout (rows_in text table layout all)
rows_stand text table layout all inserts formed answer =
    let us = units all.pieces in
    let own = own_order layout formed in
    (good (least (gathered text table layout.columns us).fault (least (second_create (second_place us)) all.ending)) answer ∙ all_places text table layout.columns us nothing, all_stand text table layout us nothing own (inl refl))
  where
    good : (o : Option Fault) → unless o (record { places = (gathered text table layout.columns (units all.pieces)).places; orders = (gathered text table layout.columns (units all.pieces)).orders }) ≡ Ok inserts
        → inserts.places ≡ (gathered text table layout.columns (units all.pieces)).places
    good None e = ap places_in (sym e)
    good (Some f) e = absurd cc
