-- Rows in order, and what is said of the table: the rows by primary key, and whether some clash.
use Rattle.std.proofs.Common.{◌≡◌, Bool, true, false, cond, not, ◌||◌, List, [], ◌∷◌, ◌++◌, length, map, Option, Some, None, is_none, Result, Ok, Err, is_some, refl, sym, ap, subst, ◌∙◌}
use Rattle.std.specs.List.{list_any}
use Rattle.std.specs.List.Sorted.{IsStrictlySortedBy}
use Rattle.std.specs.Option.{option_map}
use Rattle.std.proofs.lemmas.List.{map-append}
use Rattle.std.proofs.lemmas.List.Sorted.{IsPermutation-map}
use Rattle.dm_value.specs.Order.{row_cmp}
use Rattle.dm_schema.specs.declared.column.Column.{Column}
use Rattle.dm_schema.specs.declared.column.UniqueKey.{UniqueKey}
use Rattle.dm_schema.specs.Layout.{Layout}
use Rattle.dm_schema.specs.Names.{Text, repeats}
use Rattle.dm_schema.specs.Rows.{key_of, values_at}
use Rattle.dm_report.specs.declared.status.Status.{Status}
use Rattle.dm_report.specs.declared.status.Status.TheVariants as status
use Rattle.dm_report.specs.Texts.{table_text}
use Rattle.dm_top.specs.declared.places.Origin.{Origin}
use Rattle.dm_top.specs.Rows.{Row, Entry, Said, rows_in, widened, entry_of, all_entries}
use Rattle.dm_top.specs.Load.{same_row, keys_of, is_null, values_under, rows_by_key, clash, merged_text}
use Rattle.dm_top.specs.Merge.{wide_rows, all_rows, under_key, AreInOrder, by_primary_key, has_null, without_null}
use Rattle.dm_top.specs.Places.{value_from, values_from, key_origins, column_origins}
use Rattle.dm_top.proofs.OrderLemmas.{none_repeats, map_entries}
use Rattle.dm_top.proofs.PlaceLemmas.{key_values, wide_values}

-- The primary key.

keys_under : (joined : Layout) (rows : List Row) → keys_of (map (under_key joined) rows) ≡ map (key_of joined) rows
keys_under joined [] = refl
keys_under joined (row ∷ rows) = ap (λ (rest : List Row). key_of joined row ∷ rest) (keys_under joined rows)

rows_under : (joined : Layout) (rows : List Row) → map (λ (e : Entry). e.1) (map (under_key joined) rows) ≡ rows
rows_under joined [] = refl
rows_under joined (row ∷ rows) = ap (λ (rest : List Row). row ∷ rest) (rows_under joined rows)

primary_values : (joined : Layout) (rows : List Row) → map (values_from (key_origins joined.columns joined.primary)) rows ≡ map (key_of joined) rows
primary_values joined [] = refl
primary_values joined (row ∷ rows) =
    ap (λ (k : Row). k ∷ map (values_from (key_origins joined.columns joined.primary)) rows) (key_values joined.columns joined.primary row) ∙ ap (λ (rest : List Row). key_of joined row ∷ rest) (primary_values joined rows)

-- rows in the order of their values under the primary key
sorted_by_key : (joined : Layout) (rows : List Row) (sorted : Option (List Row)) → AreInOrder (key_origins joined.columns joined.primary) rows sorted → sorted ≡ by_primary_key joined rows
sorted_by_key joined rows None h = sym (ap (λ b. cond b None (Some (rows_by_key (map (under_key joined) rows)))) (ap (repeats same_row) (sym (primary_values joined rows)) ∙ h))
sorted_by_key joined rows (Some sorted) (p, s) =
    let up : IsStrictlySortedBy row_cmp (map (key_of joined) sorted) = rw (primary_values joined sorted) at s in
    let none : repeats same_row (map (key_of joined) rows) ≡ false = none_repeats (map (key_of joined) rows) (map (key_of joined) sorted) (IsPermutation-map (key_of joined) rows sorted p) up in
    let entries = map_entries (map (under_key joined) rows) (map (under_key joined) sorted) (ap (repeats same_row) (keys_under joined rows) ∙ none) (IsPermutation-map (under_key joined) rows sorted p)
    (rw (keys_under joined sorted) up) in
    let all : rows_by_key (map (under_key joined) rows) ≡ sorted = ap (map (λ (e : Entry). e.1)) entries ∙ rows_under joined sorted in
    sym (ap (λ b. cond b None (Some (rows_by_key (map (under_key joined) rows)))) none ∙ ap (λ (rs : List Row). let o : Option (List Row) = Some rs in o) all)

pub told_by_key : (joined : Layout) (rows lent : List Row) (origins : List Origin) (columns : List Column) (names : List Text) (sorted : Option (List Row))
    → origins ≡ key_origins columns names → columns ≡ joined.columns → names ≡ joined.primary → lent ≡ rows → AreInOrder origins lent sorted → sorted ≡ by_primary_key joined rows
told_by_key joined rows lent origins columns names sorted eo ec en el h =
    let own : origins ≡ key_origins joined.columns joined.primary = eo ∙ ap (λ cs. key_origins cs names) ec ∙ ap (key_origins joined.columns) en in
    sorted_by_key joined rows sorted (subst (λ rs. AreInOrder (key_origins joined.columns joined.primary) rs sorted) el (subst (λ os. AreInOrder os lent sorted) own h))

-- Unique keys.

null_there : (origins : List Origin) (row : Row) → has_null origins row ≡ list_any is_null (values_from origins row)
null_there [] row = refl
null_there (o ∷ origins) row = ap (λ b. is_null (value_from row o) || b) (null_there origins row)

left_by : (joined : Layout) (key : UniqueKey) (row : Row) (rows left : List Row) (own : Row) (b : Bool) → own ≡ values_at joined.columns row key.columns → list_any is_null own ≡ b
    → own ≡ values_from (key_origins joined.columns key.columns) row → map (values_from (key_origins joined.columns key.columns)) left ≡ values_under joined rows key
    → map (values_from (key_origins joined.columns key.columns)) (cond (not b) (row ∷ left) left) ≡ values_under joined (row ∷ rows) key
left_by joined key row rows left own true is e same rest = rw (ap (list_any is_null) (sym is) ∙ e) rest
left_by joined key row rows left own false is e same rest =
    rw (ap (list_any is_null) (sym is) ∙ e) (ap (λ (v : Row). v ∷ map (values_from (key_origins joined.columns key.columns)) left) (sym same ∙ is) ∙ ap (λ (vs : List Row). values_at joined.columns row key.columns ∷ vs) rest)

values_left : (joined : Layout) (key : UniqueKey) (rows : List Row) → map (values_from (key_origins joined.columns key.columns)) (without_null (key_origins joined.columns key.columns) rows) ≡ values_under joined rows key
values_left joined key [] = refl
values_left joined key (row ∷ rows) =
    left_by joined key row rows (without_null (key_origins joined.columns key.columns) rows) (values_from (key_origins joined.columns key.columns) row) (has_null (key_origins joined.columns key.columns) row) (key_values joined.columns key.columns row)
    (sym (null_there (key_origins joined.columns key.columns) row)) refl (values_left joined key rows)

shares : (joined : Layout) (key : UniqueKey) (rows : List Row) (sorted : Option (List Row))
    → AreInOrder (key_origins joined.columns key.columns) (without_null (key_origins joined.columns key.columns) rows) sorted → is_none sorted ≡ repeats same_row (values_under joined rows key)
shares joined key rows None h = sym h ∙ ap (repeats same_row) (values_left joined key rows)
shares joined key rows (Some sorted) (p, s) =
    sym (none_repeats _ (map (values_from (key_origins joined.columns key.columns)) sorted) (IsPermutation-map (values_from (key_origins joined.columns key.columns)) _ sorted p) s) ∙ ap (repeats same_row) (values_left joined key rows)

pub told_shares : (joined : Layout) (key : UniqueKey) (rows whole : List Row) (origins : List Origin) (columns : List Column) (names : List Text) (sorted : Option (List Row))
    → origins ≡ key_origins columns names → columns ≡ joined.columns → names ≡ key.columns → whole ≡ without_null origins rows → AreInOrder origins whole sorted → is_none sorted ≡ repeats same_row (values_under joined rows key)
told_shares joined key rows whole origins columns names sorted eo ec en el h =
    let own : origins ≡ key_origins joined.columns key.columns = eo ∙ ap (λ cs. key_origins cs names) ec ∙ ap (key_origins joined.columns) en in
    shares joined key rows sorted (subst (λ os. AreInOrder os (without_null os rows) sorted) own (subst (λ rs. AreInOrder origins rs sorted) el h))

pub none_there : {A B : Type 0} (f : A → B) (o : Option A) (b : Bool) → is_some o ≡ not b → b ≡ is_none (option_map f o)
none_there f None true e = refl
none_there f None false e = cc
none_there f (Some x) true e = cc
none_there f (Some x) false e = refl

-- The whole.

entries_are : (joined : Layout) (columns : List Column) (rows : List Row) → map (entry_of joined columns) rows ≡ map (under_key joined) (map (widened joined.columns columns) rows)
entries_are joined columns [] = refl
entries_are joined columns (row ∷ rows) = ap (λ (rest : List Entry). entry_of joined columns row ∷ rest) (entries_are joined columns rows)

all_are : (joined : Layout) (said : List Said) → all_entries joined said ≡ map (under_key joined) (all_rows joined said)
all_are joined [] = refl
all_are joined (s ∷ said) =
    ap (λ (es : List Entry). es ++ all_entries joined said) (entries_are joined s.dump.schema.columns (rows_in s)) ∙ ap (λ (es : List Entry). map (under_key joined) (wide_rows joined s) ++ es) (all_are joined said)
    ∙ sym (map-append (under_key joined) (wide_rows joined s) (all_rows joined said))

-- what the entries come to
abbrev by_clash : Layout → List Entry → Bool → Result Text Status
by_clash joined es b = cond b (Err status.Unlawful) (Ok (merged_text joined es))

abbrev shared : Layout → List Row → Bool
shared joined rows = list_any (λ key. repeats same_row (values_under joined rows key)) joined.uniques

keys_repeat : (joined : Layout) (rows : List Row) → None ≡ by_primary_key joined rows → repeats same_row (map (key_of joined) rows) ≡ true
keys_repeat joined rows e = by (repeats same_row (map (key_of joined) rows)) e where
  by : (b : Bool) → None ≡ cond b None (Some (rows_by_key (map (under_key joined) rows))) → b ≡ true
  by true e = refl
  by false e = cc

sorted_rows : (joined : Layout) (rows sorted : List Row) → Some sorted ≡ by_primary_key joined rows → (repeats same_row (map (key_of joined) rows) ≡ false) × (sorted ≡ rows_by_key (map (under_key joined) rows))
sorted_rows joined rows sorted e = by (repeats same_row (map (key_of joined) rows)) e where
  by : (b : Bool) → Some sorted ≡ cond b None (Some (rows_by_key (map (under_key joined) rows))) → (b ≡ false) × (sorted ≡ rows_by_key (map (under_key joined) rows))
  by true e = cc
  by false e = (refl, cc)

pub unlawful_by_key : (joined : Layout) (said : List Said) (rows : List Row) → rows ≡ all_rows joined said → None ≡ by_primary_key joined rows → Err status.Unlawful ≡ by_clash joined (all_entries joined said) (clash joined (all_entries joined said))
unlawful_by_key joined said rows are e =
    let es = all_entries joined said in
    let twice : repeats same_row (keys_of es) ≡ true = ap (λ (zs : List Entry). repeats same_row (keys_of zs)) (all_are joined said ∙ ap (map (under_key joined)) (sym are)) ∙ ap (repeats same_row) (keys_under joined rows) ∙ keys_repeat joined rows e in
    sym (ap (λ b. by_clash joined es (b || shared joined (rows_by_key es))) twice)

abbrev Known : Layout → List Said → List Row → Type 0
Known joined said sorted = (rows_by_key (all_entries joined said) ≡ sorted) × (clash joined (all_entries joined said) ≡ shared joined sorted)

known : (joined : Layout) (said : List Said) (rows sorted : List Row) → rows ≡ all_rows joined said → Some sorted ≡ by_primary_key joined rows → Known joined said sorted
known joined said rows sorted are e =
    let es = all_entries joined said in
    let is : es ≡ map (under_key joined) rows = all_are joined said ∙ ap (map (under_key joined)) (sym are) in
    let parts = sorted_rows joined rows sorted e in
    let by_key : rows_by_key es ≡ sorted = ap rows_by_key is ∙ sym parts.1 in
    let none : repeats same_row (keys_of es) ≡ false = ap (λ (zs : List Entry). repeats same_row (keys_of zs)) is ∙ ap (repeats same_row) (keys_under joined rows) ∙ parts.0 in (
      by_key,
      ap (λ b. b || shared joined (rows_by_key es)) none ∙ ap (shared joined) by_key,
    )

pub unlawful_by_unique : (joined : Layout) (said : List Said) (rows sorted : List Row) → rows ≡ all_rows joined said → Some sorted ≡ by_primary_key joined rows → shared joined sorted ≡ true
    → Err status.Unlawful ≡ by_clash joined (all_entries joined said) (clash joined (all_entries joined said))
unlawful_by_unique joined said rows sorted are e share = sym (ap (by_clash joined (all_entries joined said)) ((known joined said rows sorted are e).1 ∙ share))

pub lawful : (joined : Layout) (said : List Said) (rows sorted : List Row) (text : Text) → rows ≡ all_rows joined said → Some sorted ≡ by_primary_key joined rows → shared joined sorted ≡ false
    → text ≡ table_text joined.columns joined.primary joined.uniques sorted (length sorted) → Ok text ≡ by_clash joined (all_entries joined said) (clash joined (all_entries joined said))
lawful joined said rows sorted text are e apart t =
    let parts = known joined said rows sorted are e in
    ap (λ (z : Text). let answer : Result Text Status = Ok z in answer) (t ∙ ap (λ rs. table_text joined.columns joined.primary joined.uniques rs (length rs)) (sym parts.0))
    ∙ sym (ap (by_clash joined (all_entries joined said)) (parts.1 ∙ apart))

all_wide : (joined : Layout) (s : Said) → map (values_from (column_origins joined.columns s.dump.schema.columns)) (rows_in s) ≡ wide_rows joined s
all_wide joined s = by (rows_in s) where
  by : (rows : List Row) → map (values_from (column_origins joined.columns s.dump.schema.columns)) rows ≡ map (widened joined.columns s.dump.schema.columns) rows
  by [] = refl
  by (row ∷ rows) =
      ap (λ (r : Row). r ∷ map (values_from (column_origins joined.columns s.dump.schema.columns)) rows) (wide_values joined.columns s.dump.schema.columns row)
      ∙ ap (λ (rest : List Row). widened joined.columns s.dump.schema.columns row ∷ rest) (by rows)

-- a dump's rows were added, and none is left
pub all_added : (joined : Layout) (s : Said) (origins : List Origin) (wide columns : List Column) (rows old : List Row) → origins ≡ column_origins wide columns → wide ≡ joined.columns → columns ≡ s.dump.schema.columns
    → rows ≡ old ++ map (values_from origins) (rows_in s) → rows ≡ old ++ wide_rows joined s
all_added joined s origins wide columns rows old eo ew ec h =
    let own : origins ≡ column_origins joined.columns s.dump.schema.columns = eo ∙ ap (λ js. column_origins js columns) ew ∙ ap (column_origins joined.columns) ec in
    h ∙ ap (λ os. old ++ map (values_from os) (rows_in s)) own ∙ ap (λ (more : List Row). old ++ more) (all_wide joined s)
