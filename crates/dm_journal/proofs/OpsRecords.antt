-- Operations that are shaped as is asked, and of which none is refused, are those of a record: each names columns of the schema,
-- none twice, and each value fits its column.
use Rattle.std.proofs.Common.{◌≡◌, Bool, true, false, cond, not, List, [], ◌∷◌, length, Option, Some, None, Result, Ok, Err, refl, sym, ap, ◌∙◌, arith}
use Rattle.std.specs.Prelude.{◌&&◌, ◌||◌, ◌==◌, option_and_then}
use Rattle.std.specs.Option.{option_map}
use Rattle.std.specs.List.{list_any, list_all, find, zip, cons_option}
use Rattle.std.proofs.lemmas.Bool.{false≢true, and_parts, and_from, or_parts, not-false, not_from_false, eqb-true}
use Rattle.dm_list.specs.Answer.{first_refusal}
use Rattle.dm_value.specs.declared.value.Value.{Value}
use Rattle.dm_schema.specs.declared.column.Column.{Column}
use Rattle.dm_schema.specs.Fits.{fits}
use Rattle.dm_schema.specs.Layout.{Layout}
use Rattle.dm_schema.specs.Names.{Text, same_name, has_column}
use Rattle.dm_schema.specs.Schemas.{all_columns, is_formed, names_repeat}
use Rattle.dm_join.proofs.Formed.{formed_parts}
use Rattle.dm_join.proofs.NameLemmas.{same_back, same_is_equal}
use Rattle.dm_table.specs.declared.op.RowOp.{RowOp}
use Rattle.dm_table.specs.declared.op.RowOp.TheVariants as op
use Rattle.dm_table.specs.declared.fault.TableFault.{TableFault}
use Rattle.dm_table.specs.declared.fault.TableFault.TheVariants as fault
use Rattle.dm_table.specs.Contents.{Row, RowMap}
use Rattle.dm_table.specs.Operations.{refusals, effect, applied, all_applied, asked_key, columns_of, values_of, given, key_value, is_unfit, is_unfit_value, lacks_value, left_row, named_value, names_in_order}
use Rattle.dm_table.specs.Shapes.{is_key_shaped, is_shaped, pairs_up}
use Rattle.dm_table.proofs.InTurn.{first_taken, first_refused}
use Rattle.dm_table.proofs.ListTests.{each, turned, found_is_told, found_passes, something_found, none_holds, list_all-in_order_of}
use Rattle.dm_table.proofs.Refusing.{refusals_in_parts}
use Rattle.dm_table.proofs.Taken.{not_refused, neither, all_fit}
use Rattle.dm_stmt.specs.Records.{are_ops, fit_columns, is_empty, is_key_row, is_op, names_row}
use Rattle.dm_stmt.specs.Texts.{columns_named}

-- Values under names.

-- a name that is none of the names has no value
nothing_named : (names : List Text) (row : Row) (n : Text) → list_any (same_name n) names ≡ false → named_value names row n ≡ None
nothing_named [] row n h = refl
nothing_named (m ∷ ms) [] n h = refl
nothing_named (m ∷ ms) (v ∷ vs) n h =
    let parts = or_parts (same_name n m) (list_any (same_name n) ms) h in
    by (same_name m n) (same_back m n ∙ parts.0) (nothing_named ms vs n parts.1) where
      by : (b : Bool) → b ≡ false → named_value ms vs n ≡ None → option_map (λ p. p.1) (cond b (Some (m, v)) (find (λ p. same_name p.0 n) (zip ms vs))) ≡ None
      by true e rest = absurd (false≢true (sym e))
      by false e rest = rest

-- the value that is named for a column fits it, if there is one
abbrev fits_named : List Text → Row → Column → Bool
fits_named names row c = not (is_unfit_value (named_value names row c.name) c)

module _ (n : Text) (v : Value) (ns : List Text) (vs : Row) (c : Column) where
  -- what is found for a column, by whether the first name is the column's
  abbrev fits_by_first : Bool → Bool
  fits_by_first b = not (is_unfit_value (option_map (λ p. p.1) (cond b (Some (n, v)) (find (λ p. same_name p.0 c.name) (zip ns vs)))) c)

  -- the first value fits the column of the first name
  first_fits : same_name c.name n ≡ true → fits_named (n ∷ ns) (v ∷ vs) c ≡ true → fits v c ≡ true
  first_fits same fit = by (same_name n c.name) (same_back n c.name ∙ same) fit where
    by : (b : Bool) → b ≡ true → fits_by_first b ≡ true → fits v c ≡ true
    by true e h = not-false (fits v c) (turned (not (fits v c)) h)
    by false e h = absurd (false≢true e)

  -- without the first name, which doesn't come again, what is named for a column still fits it
  rest_fits : list_any (same_name n) ns ≡ false → fits_named (n ∷ ns) (v ∷ vs) c ≡ true → fits_named ns vs c ≡ true
  rest_fits apart fit = by (same_name n c.name) refl fit where
    by : (b : Bool) → same_name n c.name ≡ b → fits_by_first b ≡ true → fits_named ns vs c ≡ true
    by true same h = ap (λ o. not (is_unfit_value o c)) (ap (named_value ns vs) (sym (same_is_equal n c.name same)) ∙ nothing_named ns vs n apart)
    by false other h = h

-- Values that fit wherever a column of their names is, one for each name, fit the columns of these names.
named_fit : (columns : List Column) (names : List Text) (row : Row) → names_repeat names ≡ false → length row ≡ length names → all_columns columns names ≡ true → list_all (fits_named names row) columns ≡ true
    → fit_columns (columns_named columns names) row ≡ true
named_fit columns [] [] apart long known fit = refl
named_fit columns [] (v ∷ vs) apart long known fit = absurd (omega arith)
named_fit columns (n ∷ ns) [] apart long known fit = absurd (omega arith)
named_fit columns (n ∷ ns) (v ∷ vs) apart long known fit =
    let names = or_parts (list_any (same_name n) ns) (names_repeat ns) apart in
    let stand = and_parts (has_column columns n) (all_columns columns ns) known in
    let found = something_found (λ c. same_name c.name n) columns stand.0 in
    ap (λ (o : Option Column). fit_columns (cons_option o (columns_named columns ns)) (v ∷ vs)) found.1
    ∙ and_from (fits v found.0) (fit_columns (columns_named columns ns) vs)
    (first_fits n v ns vs found.0 (found_is_told (λ c. same_name c.name n) columns found.0 found.1) (found_passes (λ c. same_name c.name n) (fits_named (n ∷ ns) (v ∷ vs)) columns found.0 found.1 fit))
    (named_fit columns ns vs names.1 (omega arith) stand.1 (each (fits_named (n ∷ ns) (v ∷ vs)) (fits_named ns vs) (λ c. rest_fits n v ns vs c names.0) columns fit))

-- One operation that isn't refused.

module _ (layout : Layout) (o : RowOp) (rows after : RowMap) (goes : applied layout o rows ≡ Ok after) where
  -- each name is a column's
  known : all_columns layout.columns (columns_of o) ≡ true
  known =
      let none = refusals_in_parts layout o rows (left_row layout o rows) refl ∙ (not_refused (first_refusal (refusals layout o rows)) (effect layout o rows) after goes).0 in
      sym (list_all-in_order_of (has_column layout.columns) (λ name. name) (columns_of o))
      ∙ each (λ name. not (not (has_column layout.columns name))) (has_column layout.columns) (λ name h. not-false (has_column layout.columns name) (turned (not (has_column layout.columns name)) h)) (names_in_order (columns_of o))
      (none_holds (λ name. not (has_column layout.columns name)) fault.UnknownColumn (names_in_order (columns_of o)) (neither _ _ none).0)

  -- of a column neither the value that is given nor that of the key is unfit
  both_fit : (c : Column) → not (is_unfit layout o c) ≡ true → (is_unfit_value (given o c) c ≡ false) × (is_unfit_value (key_value layout o c) c ≡ false)
  both_fit c h =
      let parts = or_parts (is_unfit_value (given o c) c || lacks_value o c) (is_unfit_value (key_value layout o c) c) (turned (is_unfit layout o c) h) in
      ((or_parts (is_unfit_value (given o c) c) (lacks_value o c) parts.0).0, parts.1)

  -- names and values that pair up are those of a row
  row_is_named : pairs_up (columns_of o) (values_of o) ≡ true → names_row layout (columns_of o) (values_of o) ≡ true
  row_is_named shaped =
      let long = and_parts (not (is_empty (columns_of o)) && not (names_repeat (columns_of o))) (length (values_of o) == length (columns_of o)) shaped in
      let some = and_parts (not (is_empty (columns_of o))) (not (names_repeat (columns_of o))) long.0 in
      and_from (not (is_empty (columns_of o)) && not (names_repeat (columns_of o)) && all_columns layout.columns (columns_of o)) (fit_columns (columns_named layout.columns (columns_of o)) (values_of o))
      (and_from (not (is_empty (columns_of o)) && not (names_repeat (columns_of o))) (all_columns layout.columns (columns_of o)) long.0 known)
      (named_fit layout.columns (columns_of o) (values_of o) (turned (names_repeat (columns_of o)) some.1) (eqb-true (length (values_of o)) (length (columns_of o)) long.1) known
      (each (λ c. not (is_unfit layout o c)) (fits_named (columns_of o) (values_of o)) (λ c h. not_from_false (is_unfit_value (given o c) c) (both_fit c h).0) layout.columns (all_fit layout o rows after goes)))

  -- a key with a value for each column of the primary key is one of the schema
  key_is_row : (key : Row) → is_formed layout ≡ true → asked_key o ≡ Some key → is_key_shaped layout key ≡ true → is_key_row layout key ≡ true
  key_is_row key formed asked shaped =
      let parts = formed_parts layout formed in
      named_fit layout.columns layout.primary key parts.primary_apart (eqb-true (length key) (length layout.primary) shaped) parts.primary_stands
      (each (λ c. not (is_unfit layout o c)) (fits_named layout.primary key)
      (λ c h. not_from_false (is_unfit_value (named_value layout.primary key c.name) c) (ap (λ (k : Option Row). is_unfit_value (option_and_then (λ key. named_value layout.primary key c.name) k) c) (sym asked) ∙ (both_fit c h).1))
      layout.columns (all_fit layout o rows after goes))

-- an operation of the shape that is asked, which isn't refused, is one of a record
op_is_written : (layout : Layout) (o : RowOp) (rows after : RowMap) → is_formed layout ≡ true → is_shaped layout o ≡ true → applied layout o rows ≡ Ok after → is_op layout o ≡ true
op_is_written layout (op.Insert names row) rows after formed shaped goes = row_is_named layout (op.Insert names row) rows after goes shaped
op_is_written layout (op.Replace names row) rows after formed shaped goes = row_is_named layout (op.Replace names row) rows after goes shaped
op_is_written layout (op.Update names key row) rows after formed shaped goes =
    let parts = and_parts (pairs_up names row) (is_key_shaped layout key) shaped in
    and_from (names_row layout names row) (is_key_row layout key) (row_is_named layout (op.Update names key row) rows after goes parts.0) (key_is_row layout (op.Update names key row) rows after goes key formed refl parts.1)
op_is_written layout (op.Delete key) rows after formed shaped goes = key_is_row layout (op.Delete key) rows after goes key formed refl shaped
op_is_written layout (op.Erase key) rows after formed shaped goes = key_is_row layout (op.Erase key) rows after goes key formed refl shaped

-- Operations in turn.

-- each operation of the shape that is asked is one of a record, if none is refused
each_is_written : (layout : Layout) (ops : List RowOp) (rows after : RowMap) → is_formed layout ≡ true → list_all (is_shaped layout) ops ≡ true → all_applied layout ops rows ≡ Ok after → list_all (is_op layout) ops ≡ true
each_is_written layout [] rows after formed shaped goes = refl
each_is_written layout (o ∷ os) rows after formed shaped goes = by (applied layout o rows) refl (λ now. each_is_written layout os now after formed) where
  parts : (is_shaped layout o ≡ true) × (list_all (is_shaped layout) os ≡ true)
  parts = and_parts (is_shaped layout o) (list_all (is_shaped layout) os) shaped

  by : (r : Result RowMap TableFault) → applied layout o rows ≡ r → ((now : RowMap) → list_all (is_shaped layout) os ≡ true → all_applied layout os now ≡ Ok after → list_all (is_op layout) os ≡ true)
      → (is_op layout o && list_all (is_op layout) os) ≡ true
  by (Ok now) taken rest =
      and_from (is_op layout o) (list_all (is_op layout) os) (op_is_written layout o rows now formed parts.0 taken) (rest now parts.1 (sym (first_taken layout o os rows now taken) ∙ goes))
  by (Err f) refused rest = let both : Err f ≡ Ok after = sym (first_refused layout o os rows f refused) ∙ goes in absurd (cc both)

-- Operations that have the shape that is asked, and of which none is refused, are those of a record.
pub ops_are_written : (layout : Layout) (ops : List RowOp) (rows after : RowMap) → is_formed layout ≡ true → list_all (is_shaped layout) ops ≡ true → all_applied layout ops rows ≡ Ok after → are_ops layout ops ≡ true
ops_are_written layout ops rows after formed shaped goes = and_from (is_formed layout) (list_all (is_op layout) ops) formed (each_is_written layout ops rows after formed shaped goes)
