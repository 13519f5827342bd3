-- Table maps, read back.
use Rattle.std.proofs.Common.{◌≡◌, ℕ, ◌%◌, ◌<◌, ◌≤◌, ◌^◌, subst, Bool, true, false, cond, ltb, List, [], ◌∷◌, ◌++◌, length, drop, map, Option, Some, refl, ap, ◌∙◌, arith, lit<, length-append}
use Rattle.std.specs.List.{list_all}
use Rattle.std.specs.Prelude.{IsTrue}
use Rattle.std.proofs.Math.Nat.{one-le-pow}
use Rattle.std.proofs.lemmas.List.{drop_at, take_at, length-map}
use Rattle.std.proofs.lemmas.Bool.{ltb-true, leb-true}
use Rattle.std.proofs.lemmas.Bool.Decides.{nat_tests}
use Rattle.dm_schema.specs.declared.column.Column.{Column}
use Rattle.dm_schema.specs.declared.column.Kind.{Kind}
use Rattle.dm_schema.specs.declared.column.Kind.TheVariants as kind
use Rattle.dm_schema.specs.Kinds.{is_between, is_kind}
use Rattle.dm_schema.specs.Layout.{Layout}
use Rattle.dm_base.specs.Reading.{le, lenenc, piece}
use Rattle.dm_binlog.specs.Bodies.{bitmap_length, column_maps, counted_name, meta_width, some_of, table_map, table_map_of}
use Rattle.dm_encode.specs.Numbers.{le_bytes, lenenc_bytes}
use Rattle.dm_encode.specs.Bitmaps.{bitmap}
use Rattle.dm_encode.specs.Kinds.{column_map, is_mapped}
use Rattle.dm_encode.specs.Events.{codes_of, columns_body, counted, event, flags, map_body, map_event, maps_of, metadata_of}
use Rattle.dm_encode.proofs.Digits.{le_back, length-le}
use Rattle.dm_encode.proofs.Taking.{Takes, Ends, ends_both, ends_just, ends_nil, takes_both, takes_just, takes_le, takes_piece}
use Rattle.dm_encode.proofs.Bits.{length-bitmap}
use Rattle.dm_encode.proofs.Rests.{both}
use Rattle.dm_encode.proofs.Bodies.{drop_header, length-event, takes_closed}

between_is : (low high n : ℕ) → IsTrue (is_between low high n) → (low ≤ n) × (n ≤ high)
between_is low high n h = let p = both _ _ h in (leb-true _ _ p.0, leb-true _ _ p.1)

meta_fits : (k : Kind) → IsTrue (is_kind k) → (column_map k).meta < 65536 → (column_map k).meta < 256 ^ meta_width (column_map k).code
meta_fits (kind.Signed size) ok small = one-le-pow _ 256 (lit< tt)
meta_fits (kind.Unsigned size) ok small = one-le-pow _ 256 (lit< tt)
meta_fits (kind.Decimal precision scale) ok small = small
meta_fits (kind.Char most) ok small = small
meta_fits (kind.Varchar most) ok small = small
meta_fits (kind.Text prefix) ok small = let p = between_is 1 4 prefix ok in omega (arith, p.1)
meta_fits (kind.Binary size) ok small = small
meta_fits (kind.Varbinary most) ok small = small
meta_fits (kind.Blob prefix) ok small = let p = between_is 1 4 prefix ok in omega (arith, p.1)
meta_fits kind.Date ok small = lit< tt
meta_fits kind.Year ok small = lit< tt
meta_fits (kind.Datetime digits) ok small = let p = leb-true _ _ ok in omega (arith, p)
meta_fits (kind.Timestamp digits) ok small = let p = leb-true _ _ ok in omega (arith, p)

mapped_fits : (k : Kind) → IsTrue (is_mapped k) → (column_map k).meta < 256 ^ meta_width (column_map k).code
mapped_fits k h = let p = both _ _ h in meta_fits k p.0 (ltb-true _ _ p.1)

wide_enough : (own rest : List ℕ) (width : ℕ) → length own ≡ width → ltb (length (own ++ rest)) width ≡ false
wide_enough own rest width long = rw (length-append, long) (search (nat_tests, arith))

maps_back : (columns : List Column) → IsTrue (list_all (λ c. is_mapped c.kind) columns) → column_maps (codes_of columns) (metadata_of columns) ≡ Some (maps_of columns)
maps_back [] h = refl
maps_back (c ∷ cs) h =
    let p = both _ _ h in
    let own : List ℕ = le_bytes (meta_width (column_map c.kind).code) (column_map c.kind).meta in
    let long : length own ≡ meta_width (column_map c.kind).code = length-le _ _ in
    let there = wide_enough own (metadata_of cs) (meta_width (column_map c.kind).code) long in
    rw (there, take_at own (metadata_of cs) (meta_width (column_map c.kind).code) long, drop_at own (metadata_of cs) (meta_width (column_map c.kind).code) long, le_back _ _ (mapped_fits c.kind p.0), maps_back cs p.1) refl

takes_byte : (b : ℕ) → b % 256 ≡ b → b < 256 → Takes (le 1) (b ∷ []) b
unfolding le_bytes
takes_byte b same small = let P : List ℕ → Type 0 = λ own. Takes (le 1) own b in subst P (ap (λ n. n ∷ []) same) (takes_le 1 b small)

pub takes_lenenc : (n : ℕ) → n < 2 ^ 64 → Takes lenenc (lenenc_bytes n) n
takes_lenenc n small = by (ltb n 251) (ltb n 65536) (ltb n 16777216) refl refl refl where
  by : (one two three : Bool) → ltb n 251 ≡ one → ltb n 65536 ≡ two → ltb n 16777216 ≡ three
      → Takes lenenc (cond one (le_bytes 1 n) (cond two (252 ∷ le_bytes 2 n) (cond three (253 ∷ le_bytes 3 n) (254 ∷ le_bytes 8 n)))) n
  by true two three a b d =
      let below = ltb-true _ _ a in
      record { reads = λ done rest. rw ((takes_le 1 n (omega (arith, below))).reads done rest, a) refl }
  by false true three a b d = takes_both (le 1) (252 ∷ []) 252 _ (le_bytes 2 n) n (takes_byte 252 refl (lit< tt)) (takes_le 2 n (ltb-true _ _ b))
  by false false true a b d = takes_both (le 1) (253 ∷ []) 253 _ (le_bytes 3 n) n (takes_byte 253 refl (lit< tt)) (takes_le 3 n (ltb-true _ _ d))
  by false false false a b d = takes_both (le 1) (254 ∷ []) 254 _ (le_bytes 8 n) n (takes_byte 254 refl (lit< tt)) (takes_le 8 n small)

takes_counted : (name : List ℕ) → length name ≤ 255 → Takes counted_name (counted name) name
takes_counted name short =
    takes_both (le 1) (le_bytes 1 (length name)) (length name) _ _ name (takes_le 1 (length name) (omega arith))
    (takes_both (piece (length name)) name name _ _ name (takes_piece (length name) name refl)
    (takes_closed name))

takes_some : {A : Type 0} (o : Option A) (x : A) → o ≡ Some x → Takes (some_of o) [] x
takes_some {A} o x e = rw e (takes_just x)

nullable_long : (columns : List Column) → length (bitmap (map (λ c. c.nullable) columns)) ≡ bitmap_length (length columns)
nullable_long columns = length-bitmap (map (λ c. c.nullable) columns) ∙ ap bitmap_length (length-map columns (λ c. c.nullable))

map_ends : (id : ℕ) (db table : List ℕ) (layout : Layout) → id < 2 ^ 48 → length db ≤ 255 → length table ≤ 255 → length layout.columns < 2 ^ 64 → length (metadata_of layout.columns) < 2 ^ 64
    → IsTrue (list_all (λ c. is_mapped c.kind) layout.columns) → Ends [] table_map (map_body id db table layout) (record { id = id; db = db; table = table; columns = maps_of layout.columns })
map_ends id db table layout id_small db_short table_short few little mapped =
    ends_both [] (le 6) (le_bytes 6 id) id _ _ _ (takes_le 6 id id_small)
    (ends_both _ (le 2) flags 1 _ _ _ (takes_le 2 1 (lit< tt))
    (ends_both _ counted_name (counted db) db _ _ _ (takes_counted db db_short)
    (ends_both _ counted_name (counted table) table _ _ _ (takes_counted table table_short)
    (ends_nil _ _ (columns_body layout.columns) _
    (ends_both _ lenenc (lenenc_bytes (length layout.columns)) (length layout.columns) _ _ _ (takes_lenenc (length layout.columns) few)
    (ends_both _ (piece (length layout.columns)) (codes_of layout.columns) (codes_of layout.columns) _ _ _ (takes_piece _ (codes_of layout.columns) (length-map layout.columns _))
    (ends_both _ lenenc (lenenc_bytes (length (metadata_of layout.columns))) (length (metadata_of layout.columns)) _ _ _ (takes_lenenc (length (metadata_of layout.columns)) little)
    (ends_both _ (piece (length (metadata_of layout.columns))) (metadata_of layout.columns) (metadata_of layout.columns) _ _ _ (takes_piece _ (metadata_of layout.columns) refl)
    (ends_both _ (piece (bitmap_length (length layout.columns))) (bitmap (map (λ c. c.nullable) layout.columns)) _ _ _ _ (takes_piece _ (bitmap (map (λ c. c.nullable) layout.columns)) (nullable_long layout.columns))
    (ends_both _ (some_of (column_maps (codes_of layout.columns) (metadata_of layout.columns))) [] (maps_of layout.columns) _ [] _ (takes_some _ _ (maps_back layout.columns mapped))
    (ends_just _ [] _)))))))))))

map_reads : (id : ℕ) (db table : List ℕ) (layout : Layout) → id < 2 ^ 48 → length db ≤ 255 → length table ≤ 255 → length (map_event id db table layout) < 2 ^ 32
    → IsTrue (list_all (λ c. is_mapped c.kind) layout.columns) → table_map_of (map_body id db table layout) ≡ Some (record { id = id; db = db; table = table; columns = maps_of layout.columns })
map_reads id db table layout id_small db_short table_short small mapped =
    let long = length-event 19 (map_body id db table layout) in
    let room : length (map_body id db table layout) < 2 ^ 32 = omega (arith, long) in
    let parts = simp (length-append, length-map) at room in
    (map_ends id db table layout id_small db_short table_short (omega (arith, parts)) (omega (arith, parts)) mapped).reads

pub map_back : (id : ℕ) (db table items body made : List ℕ) (layout : Layout) → id < 2 ^ 48 → (length db ≤ 255) × (length table ≤ 255) → length (map_event id db table layout) < 2 ^ 32
    → IsTrue (list_all (λ c. is_mapped c.kind) layout.columns) → body ≡ made → made ≡ map_body id db table layout → items ≡ event 19 body
    → table_map_of (drop 19 items) ≡ Some (record { id = id; db = db; table = table; columns = maps_of layout.columns })
map_back id db table items body made layout id_small names small mapped same is event_is =
    rw (event_is, same, is, drop_header 19 (map_body id db table layout)) (map_reads id db table layout id_small names.0 names.1 small mapped)

pub made_is : (id : ℕ) (db table first second made : List ℕ) (layout : Layout) → first ≡ db → second ≡ table → made ≡ map_body id first second layout → made ≡ map_body id db table layout
made_is id db table first second made layout db_is table_is is = is ∙ rw (db_is, table_is) refl
