-- Rows events, read back.
use Rattle.std.proofs.Common.{◌≡◌, ℕ, ◌+◌, ◌<◌, ◌^◌, Bool, true, false, ◌&&◌, List, [], ◌∷◌, ◌++◌, length, drop, map, get_or, Option, Ok, Some, None, refl, sym, ap, ◌∙◌, subst, arith, lit<, append_assoc, append-nil, length-append}
use Rattle.std.specs.Prelude.{IsTrue}
use Rattle.std.specs.List.{flat_map, list_all, zip}
use Rattle.std.specs.Cmp.Lexicographic.{pointwise, as_long}
use Rattle.std.proofs.lemmas.List.{drop_at, get_or_at, length-map, map-append}
use Rattle.std.proofs.lemmas.Bool.{eq-eqb}
use Rattle.std.proofs.lemmas.Slice.Zip.{length-zip}
use Rattle.dm_value.specs.declared.value.Value.{Value}
use Rattle.dm_value.specs.declared.value.Value.TheVariants as value
use Rattle.dm_schema.specs.declared.column.Column.{Column}
use Rattle.dm_schema.specs.declared.column.Kind.{Kind}
use Rattle.dm_schema.specs.declared.column.Kind.TheVariants as kind
use Rattle.dm_schema.specs.declared.row_change.RowChange.{RowChange}
use Rattle.dm_schema.specs.declared.row_change.RowChange.TheVariants as change
use Rattle.dm_schema.specs.Fits.{fits, fits_kind}
use Rattle.dm_schema.specs.Kinds.{is_column, is_folded, is_kind, is_null, is_rule}
use Rattle.dm_schema.specs.Layout.{Layout}
use Rattle.dm_binlog.specs.declared.bodies.RowsHead.{RowsHead}
use Rattle.dm_base.specs.Reading.{◌>>=◌, just, le, lenenc, piece}
use Rattle.dm_binlog.specs.Bodies.{all_set, bitmap_length, extra_data, is_set, place_now, rows_head, rows_head_of, second_bitmap, version_of}
use Rattle.dm_decode.specs.Values.{fitting_value}
use Rattle.dm_decode.specs.Rows.{differing, row_of, value_at, values_from}
use Rattle.dm_encode.specs.Numbers.{le_bytes, lenenc_bytes}
use Rattle.dm_encode.specs.Bitmaps.{bitmap}
use Rattle.dm_encode.specs.Kinds.{column_map, is_mapped}
use Rattle.dm_encode.specs.Values.{spelled_value}
use Rattle.dm_encode.specs.Rows.{row_image, spelled_values}
use Rattle.dm_encode.specs.Events.{event, flags, images, maps_of, present, rows_body, rows_event, rows_front, rows_kind, rows_of, second_present}
use Rattle.dm_encode.specs.ReadBack.{ReadsRows}
use Rattle.dm_encode.proofs.Taking.{Takes, Ends, between, ends_both, piece_at, takes_both, takes_just, takes_le, takes_piece}
use Rattle.dm_encode.proofs.Bits.{bit_is, length-bitmap, ones_set}
use Rattle.dm_encode.proofs.Bodies.{drop_header, length-event}
use Rattle.dm_encode.proofs.MapsBack.{takes_lenenc}
use Rattle.dm_encode.proofs.Rests.{both}
use Rattle.dm_encode.proofs.Spelling.{Spells, map_goes, spells}

-- The value of a column.

null_none : (k : Kind) → spelled_value k value.Null ≡ []
null_none kind.Date = refl
null_none k = refl

-- what a value of a column is read as
abbrev IsReadBack : Column → Value → Type 0
IsReadBack c v = (done rest : List ℕ) → value_at (c, column_map c.kind) (is_null v) (between done (spelled_value c.kind v ++ rest)) ≡ Ok (v, between (done ++ spelled_value c.kind v) rest)

null_back : (c : Column) → IsTrue (fits value.Null c) → IsReadBack c value.Null
null_back c fit done rest = rw (null_none c.kind, fit, append-nil) refl

fitting_back : (k : Kind) (v : Value) (s : Spells k v) → IsTrue (fits_kind k v) → fitting_value k s.content ≡ Ok v
fitting_back k v s fit = rw (s.reads, fit) refl

spelled_back : (c : Column) (v : Value) → Spells c.kind v → IsTrue (fits_kind c.kind v) → (done rest : List ℕ) → value_at (c, column_map c.kind) false (between done (spelled_value c.kind v ++ rest)) ≡ Ok (v, between (done ++ spelled_value c.kind v) rest)
spelled_back c v s fit done rest = rw (s.takes.reads done rest, fitting_back c.kind v s fit) refl

value_back : (c : Column) (v : Value) → IsTrue (is_kind c.kind) → IsTrue (is_mapped c.kind) → IsTrue (fits v c) → IsReadBack c v
value_back c value.Null ok mapped fit = null_back c fit
value_back c (value.Int n) ok mapped fit = spelled_back c (value.Int n) (spells c.kind (value.Int n) ok mapped fit) fit
value_back c (value.Bytes bytes) ok mapped fit = spelled_back c (value.Bytes bytes) (spells c.kind (value.Bytes bytes) ok mapped fit) fit
value_back c (value.Dec d) ok mapped fit = spelled_back c (value.Dec d) (spells c.kind (value.Dec d) ok mapped fit) fit
value_back c (value.Date d) ok mapped fit = spelled_back c (value.Date d) (spells c.kind (value.Date d) ok mapped fit) fit
value_back c (value.Moment m) ok mapped fit = spelled_back c (value.Moment m) (spells c.kind (value.Moment m) ok mapped fit) fit
value_back c (value.Stamp s) ok mapped fit = spelled_back c (value.Stamp s) (spells c.kind (value.Stamp s) ok mapped fit) fit

-- The bits of NULLs.

-- from a number on, the bits say which values are NULL
abbrev AreNulls : List ℕ → ℕ → List Value → Type 0
AreNulls nulls number [] = Unit {0}
AreNulls nulls number (v ∷ vs) = (is_set nulls number ≡ is_null v) × AreNulls nulls (number + 1) vs

nulls_are : (before row : List Value) → AreNulls (bitmap (map is_null (before ++ row))) (length before) row
nulls_are before [] = tt
nulls_are before (v ∷ vs) =
    let there : length before < length (map is_null (before ++ v ∷ vs)) = simp (length-map, length-append) (omega arith) in
    let here : get_or (map is_null (before ++ v ∷ vs)) (length before) false ≡ is_null v = rw map-append (get_or_at (map is_null before) (is_null v) (map is_null vs) false (length before) (length-map before is_null)) in
    let rest = nulls_are (before ++ v ∷ []) vs in
    let P : List Value → ℕ → Type 0 = λ all number. AreNulls (bitmap (map is_null all)) number vs in
    let same : before ++ v ∷ [] ++ vs ≡ before ++ v ∷ vs = append_assoc before (v ∷ []) vs in
    let long : length (before ++ v ∷ []) ≡ length before + 1 = simp length-append refl in
    (bit_is (map is_null (before ++ v ∷ vs)) (length before) there ∙ here, subst (λ number. P (before ++ v ∷ vs) number) long (subst (λ all. P all (length (before ++ v ∷ []))) same rest))

-- The values of a row.

values_back : (nulls : List ℕ) (number : ℕ) (columns : List Column) (row : List Value) (done rest : List ℕ) → AreNulls nulls number row → IsTrue (list_all (λ c. is_kind c.kind) columns) → IsTrue (list_all (λ c. is_mapped c.kind) columns) → IsTrue (pointwise fits row columns)
    → values_from nulls number (zip columns (maps_of columns)) (between done (spelled_values columns row ++ rest)) ≡ Ok (row, between (done ++ spelled_values columns row) rest)
values_back nulls number [] [] done rest bits ok mapped fit = rw append-nil refl
values_back nulls number [] (v ∷ vs) done rest bits ok mapped fit = absurd cc
values_back nulls number (c ∷ cs) [] done rest bits ok mapped fit = absurd cc
values_back nulls number (c ∷ cs) (v ∷ vs) done rest bits ok mapped fit =
    let kinds = both (is_kind c.kind) (list_all (λ c. is_kind c.kind) cs) ok in
    let maps = both (is_mapped c.kind) (list_all (λ c. is_mapped c.kind) cs) mapped in
    let fitting = both (fits v c) (pointwise fits vs cs) fit in
    let first = value_back c v kinds.0 maps.0 fitting.0 done (spelled_values cs vs ++ rest) in
    let others = values_back nulls (number + 1) cs vs (done ++ spelled_value c.kind v) rest bits.1 kinds.1 maps.1 fitting.1 in
    rw (bits.0, append_assoc (spelled_value c.kind v) (spelled_values cs vs) rest, first, others, append_assoc done (spelled_value c.kind v) (spelled_values cs vs)) refl

none_differs : (columns : List Column) → IsTrue (list_all (λ c. is_kind c.kind) columns) → differing (zip columns (maps_of columns)) ≡ None
none_differs [] ok = refl
none_differs (c ∷ cs) ok =
    let kinds = both (is_kind c.kind) (list_all (λ c. is_kind c.kind) cs) ok in
    rw (map_goes c.kind kinds.0) (none_differs cs kinds.1)

maps_long : (columns : List Column) → length (maps_of columns) ≡ length columns
maps_long columns = length-map columns (λ c. column_map c.kind)

zip_long : (columns : List Column) → length (zip columns (maps_of columns)) ≡ length columns
zip_long columns = omega (arith, length-zip columns (maps_of columns), maps_long columns)

image_long : (columns : List Column) (row : List Value) → IsTrue (pointwise fits row columns) → length (bitmap (map is_null row)) ≡ bitmap_length (length columns)
image_long columns row fit = length-bitmap (map is_null row) ∙ ap bitmap_length (length-map row is_null ∙ as_long fits row columns fit)

pub row_back : (layout : Layout) (row : List Value) (rest : List ℕ) → IsTrue (list_all (λ c. is_kind c.kind) layout.columns) → IsTrue (list_all (λ c. is_mapped c.kind) layout.columns) → IsTrue (pointwise fits row layout.columns)
    → row_of (maps_of layout.columns) layout (row_image layout.columns row ++ rest) ≡ Ok (row, length (row_image layout.columns row))
unfolding row_of
row_back layout row rest ok mapped fit =
    let columns : List Column = layout.columns in
    let count = eq-eqb (length (maps_of layout.columns)) (length layout.columns) (maps_long layout.columns) in
    let nulls = piece_at (bitmap_length (length layout.columns)) [] (bitmap (map is_null row)) (spelled_values layout.columns row ++ rest) (image_long layout.columns row fit) in
    let values = values_back (bitmap (map is_null row)) 0 layout.columns row (bitmap (map is_null row)) rest (nulls_are [] row) ok mapped fit in
    rw (count, none_differs layout.columns ok, zip_long layout.columns, append_assoc (bitmap (map is_null row)) (spelled_values layout.columns row) rest, nulls, values) refl

-- each column's kind is in range
pub kinds_are : (columns : List Column) → IsTrue (list_all is_column columns) → IsTrue (list_all (λ c. is_kind c.kind) columns)
kinds_are [] all = refl
kinds_are (c ∷ cs) all =
    let p = both (is_column c) (list_all is_column cs) all in
    let q = both (is_folded c.name && is_kind c.kind) (is_rule c.default_rule) p.0 in
    let r = both (is_folded c.name) (is_kind c.kind) q.0 in
    rw (r.1, kinds_are cs p.1) refl

pub rows_back : (layout : Layout) (rows : List (List Value)) → IsTrue (list_all (λ c. is_kind c.kind) layout.columns) → IsTrue (list_all (λ c. is_mapped c.kind) layout.columns) → IsTrue (list_all (λ row. pointwise fits row layout.columns) rows)
    → ReadsRows (maps_of layout.columns) layout (flat_map (row_image layout.columns) rows) rows
rows_back layout [] ok mapped fit = refl
rows_back layout (row ∷ rows) ok mapped fit =
    let p = both (pointwise fits row layout.columns) (list_all (λ row. pointwise fits row layout.columns) rows) fit in
    let own : List ℕ = row_image layout.columns row in
    let rest : List ℕ = flat_map (row_image layout.columns) rows in
    let P : List ℕ → Type 0 = λ bytes. ReadsRows (maps_of layout.columns) layout bytes rows in (
      length (row_image layout.columns row),
      row_back layout row (flat_map (row_image layout.columns) rows) ok mapped p.0,
      subst P (sym (drop_at (row_image layout.columns row) (flat_map (row_image layout.columns) rows) (length (row_image layout.columns row)) refl)) (rows_back layout rows ok mapped p.1),
    )

-- What stands before the images.

takes_extra : Takes extra_data (le_bytes 2 2) []
unfolding le_bytes
takes_extra = takes_both (le 2) (le_bytes 2 2) 2 _ [] [] (takes_le 2 2 (lit< tt)) (takes_piece 0 [] refl)

pub present_long : (columns : List Column) → length (present columns) ≡ bitmap_length (length columns)
present_long columns = length-bitmap (map (λ c. true) columns) ∙ ap bitmap_length (length-map columns (λ c. true))

takes_second : (change : RowChange) (columns : List Column) → Takes (second_bitmap (rows_kind change) (length columns) (present columns)) (second_present change columns) (present columns)
takes_second (change.Insert row) columns = takes_just (present columns)
takes_second (change.Update old new) columns = takes_piece (bitmap_length (length columns)) (present columns) (present_long columns)
takes_second (change.Delete row) columns = takes_just (present columns)

takes_version : (change : RowChange) → Takes (version_of (rows_kind change)) (le_bytes 2 2) []
takes_version (change.Insert row) = takes_extra
takes_version (change.Update old new) = takes_extra
takes_version (change.Delete row) = takes_extra

ends_place : {A : Type 0} (done left : List ℕ) (make : ℕ → A) → Ends done (place_now >>= λ rows. just (make rows)) left (make (length done))
ends_place {A} done left make = record { reads = refl }

-- the fields before the images, and whatever is behind them
abbrev apart : List ℕ → List ℕ → List ℕ → List ℕ → List ℕ → List ℕ → List ℕ → List ℕ
apart a b d e f g rest = a ++ (b ++ (d ++ (e ++ (f ++ (g ++ rest)))))

regroup : (a b d e f g rest : List ℕ) → apart a b d e f g [] ++ rest ≡ apart a b d e f g rest
regroup a b d e f g rest = simp append_assoc

front_long : (a b d e f g : List ℕ) → length (a ++ b ++ d ++ e ++ f ++ g) ≡ length (apart a b d e f g [])
front_long a b d e f g = simp length-append (omega arith)

front_ends : (id : ℕ) (columns : List Column) (change : RowChange) (rest : List ℕ) → id < 2 ^ 48 → length columns < 2 ^ 64
    → Ends [] (rows_head (rows_kind change)) (apart (le_bytes 6 id) flags (le_bytes 2 2) (lenenc_bytes (length columns)) (present columns) (second_present change columns) rest)
    (record { id = id; count = length columns; full = all_set (length columns) (present columns) && all_set (length columns) (present columns); rows = length (le_bytes 6 id ++ flags ++ le_bytes 2 2 ++ lenenc_bytes (length columns) ++ present columns ++ second_present change columns) })
front_ends id columns change rest id_small few =
    ends_both [] (le 6) (le_bytes 6 id) id _ _ _ (takes_le 6 id id_small)
    (ends_both _ (le 2) flags 1 _ _ _ (takes_le 2 1 (lit< tt))
    (ends_both _ (version_of (rows_kind change)) (le_bytes 2 2) [] _ _ _ (takes_version change)
    (ends_both _ lenenc (lenenc_bytes (length columns)) (length columns) _ _ _ (takes_lenenc (length columns) few)
    (ends_both _ (piece (bitmap_length (length columns))) (present columns) (present columns) _ _ _ (takes_piece (bitmap_length (length columns)) (present columns) (present_long columns))
    (ends_both _ (second_bitmap (rows_kind change) (length columns) (present columns)) (second_present change columns) (present columns) _ _ _ (takes_second change columns)
    (ends_place _ rest (λ rows. record { id = id; count = length columns; full = all_set (length columns) (present columns) && all_set (length columns) (present columns); rows = rows })))))))

head_is : (id count : ℕ) (full : Bool) (a b : ℕ) → full ≡ true → a ≡ b → ◌≡◌ {A = Option RowsHead} (Some (record { id = id; count = count; full = full && full; rows = a })) (Some (record { id = id; count = count; full = true; rows = b }))
head_is id count full a b full_is rows_are = rw (full_is, rows_are) refl

few_columns : (id : ℕ) (layout : Layout) (change : RowChange) → length (rows_event id layout change) < 2 ^ 32 → length layout.columns < 2 ^ 64
few_columns id layout change small =
    let long = length-event (rows_kind change) (rows_body id layout change) in
    let room : length (rows_body id layout change) < 2 ^ 32 = omega (arith, long) in
    let parts = simp length-append at room in
    let bits = present_long layout.columns in
    omega (arith, parts, bits)

head_reads : (id : ℕ) (columns : List Column) (change : RowChange) (rest : List ℕ) → id < 2 ^ 48 → length columns < 2 ^ 64
    → rows_head_of (rows_kind change) (rows_front id columns change ++ rest) ≡ Some (record { id = id; count = length columns; full = true; rows = length (rows_front id columns change) })
head_reads id columns change rest id_small few =
    let P : List ℕ → Type 0 = λ body. rows_head_of (rows_kind change) body ≡ Some (record { id = id; count = length columns; full = all_set (length columns) (present columns) && all_set (length columns) (present columns); rows = length (le_bytes 6 id ++ flags ++ le_bytes 2 2 ++ lenenc_bytes (length columns) ++ present columns ++ second_present change columns) }) in
    subst P (sym (regroup (le_bytes 6 id) flags (le_bytes 2 2) (lenenc_bytes (length columns)) (present columns) (second_present change columns) rest)) (front_ends id columns change rest id_small few).reads
    ∙ head_is id (length columns) (all_set (length columns) (present columns)) _ _ (ones_set columns) (front_long (le_bytes 6 id) flags (le_bytes 2 2) (lenenc_bytes (length columns)) (present columns) (second_present change columns))

pub head_back : (id : ℕ) (layout : Layout) (change : RowChange) (items body made : List ℕ) → id < 2 ^ 48 → length (rows_event id layout change) < 2 ^ 32 → body ≡ made → made ≡ rows_body id layout change → items ≡ event (rows_kind change) body
    → rows_head_of (rows_kind change) (drop 19 items) ≡ Some (record { id = id; count = length layout.columns; full = true; rows = length (rows_front id layout.columns change) })
head_back id layout change items body made id_small small same is event_is =
    rw (event_is, same, is, drop_header (rows_kind change) (rows_body id layout change)) (head_reads id layout.columns change (images layout.columns change) id_small (few_columns id layout change small))

pub images_back : (id : ℕ) (layout : Layout) (change : RowChange) (items body made : List ℕ) → IsTrue (list_all is_column layout.columns) → IsTrue (list_all (λ c. is_mapped c.kind) layout.columns) → IsTrue (list_all (λ row. pointwise fits row layout.columns) (rows_of change))
    → body ≡ made → made ≡ rows_body id layout change → items ≡ event (rows_kind change) body
    → ReadsRows (maps_of layout.columns) layout (drop (length (rows_front id layout.columns change)) (drop 19 items)) (rows_of change)
images_back id layout change items body made formed mapped fit same is event_is =
    let there : drop (length (rows_front id layout.columns change)) (drop 19 items) ≡ images layout.columns change =
    ap (λ bytes. drop (length (rows_front id layout.columns change)) (drop 19 bytes)) (event_is ∙ ap (event (rows_kind change)) (same ∙ is))
    ∙ ap (drop (length (rows_front id layout.columns change))) (drop_header (rows_kind change) (rows_body id layout change))
    ∙ drop_at (rows_front id layout.columns change) (images layout.columns change) (length (rows_front id layout.columns change)) refl in
    let P : List ℕ → Type 0 = λ bytes. ReadsRows (maps_of layout.columns) layout bytes (rows_of change) in
    subst P (sym there) (rows_back layout (rows_of change) (kinds_are layout.columns formed) mapped fit)

pub event_of : (kind told : ℕ) (body items : List ℕ) → kind ≡ told → items ≡ event kind body → items ≡ event told body
event_of kind told body items same is = is ∙ ap (λ k. event k body) same
