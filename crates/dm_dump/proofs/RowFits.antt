-- A row of a dump fits its schema.
use Rattle.std.proofs.Common.{◌≡◌, ℕ, Bool, true, false, cond, ◌&&◌, ◌||◌, List, [], ◌∷◌, ◌++◌, map, Option, Some, None, refl, sym, ap, ◌∙◌, subst}
use Rattle.std.specs.Prelude.{option_and_then, unwrap_or}
use Rattle.std.specs.Option.{option_map, option_to_list}
use Rattle.std.specs.List.{AllByRecursion, IsDistinct, list_any, find, zip}
use Rattle.std.specs.Cmp.Lexicographic.{pointwise, same_text}
use Rattle.std.proofs.lemmas.Bool.{and_parts}
use Rattle.std.proofs.lemmas.Cmp.{nat_list_eq_equiv}
use Rattle.dm_value.specs.declared.value.Value.{Value}
use Rattle.dm_value.specs.declared.value.Value.TheVariants as value
use Rattle.dm_schema.specs.declared.column.Column.{Column}
use Rattle.dm_schema.specs.Fits.{fits}
use Rattle.dm_schema.specs.Layout.{Layout}
use Rattle.dm_schema.specs.Names.{Text, same_name, column_at, column_names, has_column}
use Rattle.dm_schema.specs.Rows.{cell}
use Rattle.dm_dump.specs.declared.inserts.InsertOrder.{InsertOrder}
use Rattle.dm_dump.specs.declared.literal.Literal.{Literal}
use Rattle.dm_dump.specs.Literals.{has_bracket, if_fits, literals_at, value_in, values_of}
use Rattle.dm_dump.specs.Orders.{is_order, columns_by, stand_so, in_schema_order, row_of, order_at, row_in_force}
use Rattle.dm_dump.proofs.WholeOrder.{stands_in, names_apart}

-- Each column is found by its name.

abbrev AreFound : List Column → List Column → Type 0
AreFound columns [] = Unit {0}
AreFound columns (c ∷ cs) = (column_at columns c.name ≡ Some c) × AreFound columns cs

found_behind : (c : Column) (columns part : List Column) → AllByRecursion (λ n. same_name c.name n ≡ false) (column_names part) → AreFound columns part → AreFound (c ∷ columns) part
found_behind c columns [] apart found = tt
found_behind c columns (d ∷ ds) apart found =
    let differ = apart.0 in
    (rw differ found.0, found_behind c columns ds apart.1 found.1)

each_found : (columns : List Column) → IsDistinct same_name (column_names columns) → AreFound columns columns
unfolding IsDistinct
each_found [] apart = tt
each_found (c ∷ cs) apart =
    let own = nat_list_eq_equiv.refl c.name in
    (rw own refl, found_behind c cs cs apart.0 (each_found cs apart.1))

-- Values that stand in the schema's order.

-- columns by their own names are they themselves
own_columns : (columns part : List Column) (order : List Text) → AreFound columns part → stand_so part order ≡ true → columns_by columns order ≡ part
own_columns columns [] [] found so = refl
own_columns columns [] (n ∷ ns) found so = absurd cc
own_columns columns (c ∷ cs) [] found so = absurd cc
own_columns columns (c ∷ cs) (n ∷ ns) found so =
    let parts = and_parts (same_name c.name n) (stand_so cs ns) so in
    let here : column_at columns n ≡ Some c = subst (λ (m : Text). column_at columns m ≡ Some c) (same_text c.name n (sym parts.0)) found.0 in
    rw here (ap (λ (rest : List Column). c ∷ rest) (own_columns columns cs ns found.1 parts.1))

-- Values that stand in another order.

name_of_found : (columns : List Column) (name : Text) (c : Column) → column_at columns name ≡ Some c → c.name ≡ name
name_of_found [] name c found = absurd cc
name_of_found (d ∷ ds) name c found = by (same_name d.name name) refl found (name_of_found ds name c) where
  by : (b : Bool) → same_name d.name name ≡ b → cond {A = Option Column} b (Some d) (column_at ds name) ≡ Some c → (column_at ds name ≡ Some c → c.name ≡ name) → c.name ≡ name
  by true same found rest = let it : d ≡ c = cc in ap (λ (x : Column). x.name) (sym it) ∙ same_text d.name name (sym same)
  by false other found rest = rest found

has_found : (columns : List Column) (name : Text) (c : Column) → column_at columns name ≡ Some c → has_column columns name ≡ true
has_found [] name c found = absurd cc
has_found (d ∷ ds) name c found = by (same_name d.name name) found (has_found ds name c) where
  by : (b : Bool) → cond {A = Option Column} b (Some d) (column_at ds name) ≡ Some c → (column_at ds name ≡ Some c → has_column ds name ≡ true) → (b || has_column ds name) ≡ true
  by true found rest = refl
  by false found rest = rest found

-- the value in the column of a name, or NULL
abbrev value_at : List Column → List Value → Text → Value
value_at columns row name = unwrap_or (cell columns row name) value.Null

first_value : (columns : List Column) (c d : Column) (v : Value) (cs : List Column) (vs : List Value) → column_at columns c.name ≡ Some c → column_at columns d.name ≡ Some d → fits v d ≡ true
    → (same_name c.name d.name ≡ false → fits (value_at cs vs c.name) c ≡ true) → fits (value_at (d ∷ cs) (v ∷ vs) c.name) c ≡ true
first_value columns c d v cs vs own other fit rest = by (same_name d.name c.name) refl where
  by : (b : Bool) → same_name d.name c.name ≡ b → fits (unwrap_or (option_map (λ (p : Column × Value). p.1) (cond b (Some (d, v)) (find (λ p. same_name p.0.name c.name) (zip cs vs)))) value.Null) c ≡ true
  by true same =
      let found : column_at columns c.name ≡ Some d = subst (λ (m : Text). column_at columns m ≡ Some d) (same_text d.name c.name (sym same)) other in
      let both : Some d ≡ Some c = sym found ∙ own in
      let it : d ≡ c = cc in
      subst (λ (x : Column). fits v x ≡ true) it fit
  by false differ = rest (nat_list_eq_equiv.symm c.name d.name ∙ differ)

-- of values that each fit the column of a name, the one of a column fits it
cell_fits : (columns : List Column) (c : Column) → column_at columns c.name ≡ Some c → (order : List Text) (vs : List Value) → pointwise fits vs (columns_by columns order) ≡ true → list_any (same_name c.name) order ≡ true
    → fits (value_at (columns_by columns order) vs c.name) c ≡ true
cell_fits columns c own [] vs all stands = absurd cc
cell_fits columns c own (n ∷ ns) vs all stands = by (column_at columns n) refl vs all (cell_fits columns c own ns) where
  Rest : Type 0
  Rest = (ws : List Value) → pointwise fits ws (columns_by columns ns) ≡ true → list_any (same_name c.name) ns ≡ true → fits (value_at (columns_by columns ns) ws c.name) c ≡ true

  later : same_name c.name n ≡ false → list_any (same_name c.name) ns ≡ true
  later other = rw other at stands

  by : (o : Option Column) → column_at columns n ≡ o → (ws : List Value) → pointwise fits ws (option_to_list o ++ columns_by columns ns) ≡ true → Rest → fits (value_at (option_to_list o ++ columns_by columns ns) ws c.name) c ≡ true
  by None is ws all rest = none (same_name c.name n) refl where
    none : (b : Bool) → same_name c.name n ≡ b → fits (value_at (columns_by columns ns) ws c.name) c ≡ true
    none true same = absurd (let both : None ≡ Some c = sym is ∙ subst (λ (m : Text). column_at columns m ≡ Some c) (same_text c.name n (sym same)) own in cc)
    none false other = rest ws all (later other)
  by (Some d) is [] all rest = absurd cc
  by (Some d) is (v ∷ ws) all rest =
      let parts = and_parts (fits v d) (pointwise fits ws (columns_by columns ns)) all in
      let name : d.name ≡ n = name_of_found columns n d is in
      let other : column_at columns d.name ≡ Some d = subst (λ (m : Text). column_at columns m ≡ Some d) (sym name) is in
      first_value columns c d v (columns_by columns ns) ws own other parts.0 (λ differ. rest ws parts.1 (later (subst (λ (m : Text). same_name c.name m ≡ false) name differ)))

all_fit : (columns : List Column) (order : List Text) (vs : List Value) → is_order columns order ≡ true → pointwise fits vs (columns_by columns order) ≡ true → (part : List Column) → AreFound columns part
    → pointwise fits (map (value_at (columns_by columns order) vs) (column_names part)) part ≡ true
all_fit columns order vs is all [] found = refl
all_fit columns order vs is all (c ∷ cs) found =
    let here = cell_fits columns c found.0 order vs all (stands_in columns order c.name is (has_found columns c.name c found.0)) in
    rw here (all_fit columns order vs is all cs found.1)

-- values that fit the columns of an order fit the columns, put in their order
placed_fit : (columns : List Column) (order : List Text) (vs : List Value) → is_order columns order ≡ true → pointwise fits vs (columns_by columns order) ≡ true → pointwise fits (in_schema_order columns order vs) columns ≡ true
placed_fit columns order vs is all = by (stand_so columns order) refl where
  found : AreFound columns columns
  found = each_found columns (names_apart columns order is)

  by : (b : Bool) → stand_so columns order ≡ b → pointwise fits (cond b vs (map (value_at (columns_by columns order) vs) (column_names columns))) columns ≡ true
  by true so = subst (λ (cs : List Column). pointwise fits vs cs ≡ true) (own_columns columns columns order found so) all
  by false other = all_fit columns order vs is all columns found

-- Values of literals.

judged : (column : Column) (o : Option Value) (v : Value) → if_fits column o ≡ Some v → fits v column ≡ true
judged column None v is = absurd cc
judged column (Some w) v is = by (fits w column) refl is where
  by : (b : Bool) → fits w column ≡ b → cond {A = Option Value} b (Some w) None ≡ Some v → fits v column ≡ true
  by true fit same = let it : w ≡ v = cc in subst (λ (x : Value). fits x column ≡ true) it fit
  by false unfit same = absurd cc

values_fit : (text : List ℕ) (columns : List Column) (literals : List Literal) (vs : List Value) → values_of text columns literals ≡ Some vs → pointwise fits vs columns ≡ true
values_fit text [] [] vs is = let none : [] ≡ vs = cc in subst (λ (xs : List Value). pointwise fits xs [] ≡ true) none refl
values_fit text [] (l ∷ ls) vs is = absurd cc
values_fit text (c ∷ cs) [] vs is = absurd cc
values_fit text (c ∷ cs) (l ∷ ls) vs is = by (value_in text c l) refl (values_of text cs ls) (values_fit text cs ls) is where
  by : (o : Option Value) → value_in text c l ≡ o → (rest : Option (List Value)) → ((ws : List Value) → rest ≡ Some ws → pointwise fits ws cs ≡ true) → option_and_then (λ v. option_map (λ ws. v ∷ ws) rest) o ≡ Some vs → pointwise fits vs (c ∷ cs) ≡ true
  by None first rest behind is = absurd cc
  by (Some v) first None behind is = absurd cc
  by (Some v) first (Some ws) behind is =
      let it : v ∷ ws ≡ vs = cc in
      let here : fits v c ≡ true = judged c _ v first in
      subst (λ (xs : List Value). pointwise fits xs (c ∷ cs) ≡ true) it (rw here (behind ws refl))

-- Rows.

some_of : {A B : Type 0} (f : A → B) (o : Option A) (y : B) → option_map f o ≡ Some y → (x : A) × (o ≡ Some x) × (f x ≡ y)
some_of f None y is = absurd cc
some_of f (Some x) y is = (x, refl, cc)

-- The law: a row that is read of a dump has a value for each column, which fits it.
pub row_fits : (text : List ℕ) (at : ℕ) (order : List Text) (layout : Layout) (row : List Value) → row_of text at order layout ≡ Some row → pointwise fits row layout.columns ≡ true
row_fits text at order layout row is = by (has_bracket text at) (is_order layout.columns order) refl is where
  columns : List Column
  columns = columns_by layout.columns order

  by : (bracket ordered : Bool) → is_order layout.columns order ≡ ordered
      → cond {A = Option (List Value)} (bracket && ordered) (option_map (in_schema_order layout.columns order) (values_of text columns (literals_at text at))) None ≡ Some row → pointwise fits row layout.columns ≡ true
  by false ordered one is = absurd cc
  by true false one is = absurd cc
  by true true one is =
      let read = some_of (in_schema_order layout.columns order) (values_of text columns (literals_at text at)) row is in
      let fit = placed_fit layout.columns order read.0 one (values_fit text columns (literals_at text at) read.0 read.1) in
      subst (λ (values : List Value). pointwise fits values layout.columns ≡ true) read.2 fit

-- so does one that is read in the order of literals in force at its place
pub row_in_force_fits : (text : List ℕ) (orders : List InsertOrder) (layout : Layout) (at : ℕ) (row : List Value) → row_in_force text orders layout at ≡ Some row → pointwise fits row layout.columns ≡ true
row_in_force_fits text orders layout at row is = by (order_at orders at) is where
  by : (o : Option InsertOrder) → option_and_then (λ x. row_of text at x.order layout) o ≡ Some row → pointwise fits row layout.columns ≡ true
  by None is = absurd cc
  by (Some x) is = row_fits text at x.order layout row is
