-- Each row of a history that was walked from a readable beginning can be read again.
use Rattle.std.proofs.Common.{◌≡◌, ℕ, zero, suc, ◌+◌, ◌<◌, ◌≤◌, Bool, true, false, nat_eq, List, [], ◌∷◌, map, take, filter, length, Option, Some, None, is_some, option_and_then, unwrap_or, Result, Ok, Err, refl, sym, ap, ◌∙◌, subst, arith}
use Rattle.std.specs.Prelude.{slice_get, slice_range}
use Rattle.std.specs.List.{list_all, range_with_len}
use Rattle.std.proofs.lemmas.Bool.{and_parts}
use Rattle.std.proofs.lemmas.Bool.Decides.{nat_tests}
use Rattle.dm_value.specs.declared.value.Value.{Value}
use Rattle.dm_schema.specs.Layout.{Layout}
use Rattle.dm_schema.specs.Names.{Text}
use Rattle.dm_schema.specs.declared.row_change.RowChange.{RowChange}
use Rattle.dm_binlog.specs.declared.bodies.TableMap.{TableMap}
use Rattle.dm_decode.specs.declared.fault.RowFault.{RowFault}
use Rattle.dm_decode.specs.Rows.{row_of}
use Rattle.dm_files.specs.declared.files.NamedFile.{NamedFile}
use Rattle.dm_files.specs.Files.{are_short, bytes_of}
use Rattle.dm_route.specs.declared.rules.Rules.{Rules}
use Rattle.dm_stream.specs.Logs.{log_of}
use Rattle.dm_stream.specs.Sayings.{Heads}
use Rattle.dm_walk.specs.declared.item.Place.{Place}
use Rattle.dm_walk.specs.declared.item.PlaceKind.{PlaceKind}
use Rattle.dm_walk.specs.declared.item.PlaceKind.TheVariants as place
use Rattle.dm_walk.specs.declared.item.Item.{Item}
use Rattle.dm_walk.specs.declared.item.Item.TheVariants as item
use Rattle.dm_walk.specs.Changes.{change_in, end_of, logged_change, map_at}
use Rattle.dm_walk.specs.Walks.{Statements}
use Rattle.dm_walk.proofs.Laws.{AreRead, AreRows, AreFiles, Agrees, log_sound, rows_are, rows_read}
use Rattle.dm_track.specs.declared.beginning.Beginning.{Beginning}
use Rattle.dm_track.specs.declared.history.FileOrders.{FileOrders}
use Rattle.dm_track.specs.Histories.{History, is_ddl, item_of, schema_at}
use Rattle.dm_track.specs.Changes.{all_read, are_kept, change_at, change_of, is_row, is_row_item, reads}
use Rattle.dm_track.specs.Builds.{log_file}
use Rattle.dm_track.specs.Steps.{are_none, history_of, is_readable, reads_by}

abbrev reads_at : List NamedFile → List FileOrders → Place → Layout → Bool
reads_at files orders p layout = is_some (change_at files orders p layout)

-- no row of a log is one of a dump
none_dumped : (file : List ℕ) (p : Place) (layout : Layout) → is_some (option_and_then (λ map. change_in place.Dumped map.columns layout (slice_range file p.at (end_of file p.event))) (map_at file p.map)) ≡ false
none_dumped file p layout = by (map_at file p.map) where
  row : (map : TableMap) (o : Result (List Value × ℕ) RowFault) → row_of map.columns layout (slice_range file p.at (end_of file p.event)) ≡ o → is_some (change_in place.Dumped map.columns layout (slice_range file p.at (end_of file p.event))) ≡ false
  row map (Ok read) is = rw is refl
  row map (Err f) is = rw is refl

  by : (o : Option TableMap) → is_some (option_and_then (λ map. change_in place.Dumped map.columns layout (slice_range file p.at (end_of file p.event))) o) ≡ false
  by None = refl
  by (Some map) = row map (row_of map.columns layout (slice_range file p.at (end_of file p.event))) refl

agrees : (files : List NamedFile) (orders : List FileOrders) → Agrees (reads_at files orders) (bytes_of files)
agrees files orders p layout h = by p.kind h where
  by : (kind : PlaceKind) → is_some (logged_change (bytes_of files p.file) (record { file = p.file; at = p.at; event = p.event; map = p.map; kind = kind }) layout) ≡ true
      → reads_at files orders (record { file = p.file; at = p.at; event = p.event; map = p.map; kind = kind }) layout ≡ true
  by place.Dumped h = let none = none_dumped (bytes_of files p.file) p layout in absurd (let both : false ≡ true = sym none ∙ h in cc)
  by place.Write h = h
  by place.Update h = h
  by place.Delete h = h
  by place.Statement h = h

-- What a history begins with.
begins_read : (files : List NamedFile) (orders : List FileOrders) (layout : Layout) (items : List Item) → list_all (reads_by files orders layout) items ≡ true → AreRows (reads_at files orders) layout items
begins_read files orders layout [] all = tt
begins_read files orders layout (item.Row p ∷ items) all =
    let parts = and_parts (reads_at files orders p layout) (list_all (reads_by files orders layout) items) all in
    (parts.0, begins_read files orders layout items parts.1)
begins_read files orders layout (item.Ddl p ∷ items) all = absurd (let none : false ≡ true = all in cc)

log_is : (files : List NamedFile) (first count : ℕ) → AreFiles (bytes_of files) (map (log_file files) (range_with_len first count))
log_is files first zero = tt
log_is files first (suc count) = (refl, log_is files (first + 1) count)

-- Each item by its number.
read_at : (test : Place → Layout → Bool) (items : List Item) (layout : Layout) (later : List Layout) (k : ℕ) (p : Place) (spare : Layout) → AreRead test items layout later → slice_get items k ≡ Some (item.Row p)
    → test p (unwrap_or (slice_get (layout ∷ later) (length (filter is_ddl (take k items)))) spare) ≡ true
read_at test [] layout later k p spare read is = absurd cc
read_at test (item.Row q ∷ items) layout later zero p spare read is =
    let same : q ≡ p = cc in subst (λ (x : Place). test x layout ≡ true) same read.0
read_at test (item.Row q ∷ items) layout later (suc k) p spare read is = read_at test items layout later k p spare read.1 is
read_at test (item.Ddl q ∷ items) layout later zero p spare read is = absurd cc
read_at test (item.Ddl q ∷ items) layout [] (suc k) p spare read is = absurd read
read_at test (item.Ddl q ∷ items) layout (next ∷ later) (suc k) p spare read is = read_at test items next later k p spare read is

change_is : (files : List NamedFile) (h : History) (position : ℕ) (p : Place) → slice_get h.items position ≡ Some (item.Row p) → change_of files h (suc position) ≡ change_at files h.orders p (schema_at h position)
change_is files h position p is = rw (is, change_of) refl

one_reads : (files : List NamedFile) (h : History) (position : ℕ) → AreRead (reads_at files h.orders) h.items h.first h.later → reads files h (suc position) ≡ true
one_reads files h position read = by (slice_get h.items position) refl where
  by : (o : Option Item) → slice_get h.items position ≡ o → reads files h (suc position) ≡ true
  by None is = rw is refl
  by (Some (item.Ddl p)) is = rw is refl
  by (Some (item.Row p)) is = rw is (rw (change_is files h position p is) (read_at (reads_at files h.orders) h.items h.first h.later position p h.first read is))

each_reads : (files : List NamedFile) (h : History) (number count : ℕ) → 1 ≤ number → AreRead (reads_at files h.orders) h.items h.first h.later → list_all (reads files h) (range_with_len number count) ≡ true
each_reads files h number zero from read = refl
each_reads files h zero (suc count) from read = absurd (omega arith)
each_reads files h (suc position) (suc count) from read =
    let first = one_reads files h position read in
    rw first (each_reads files h (suc position + 1) count (omega arith) read)

none_is : (later : List Layout) → are_none later ≡ true → later ≡ []
none_is [] h = refl
none_is (next ∷ later) h = absurd cc

pub history_reads : (files : List NamedFile) (names : List Text) (heads : Heads) (statements : Statements) (rules : Rules) (start first count : ℕ) (b : Beginning) → is_readable files b ≡ true
    → let h = history_of names statements rules (log_of heads start (map (log_file files) (range_with_len first count))) b in list_all (reads files h) (range_with_len 1 (length h.items)) ≡ true
history_reads files names heads statements rules start first count b read =
    let log = log_of heads start (map (log_file files) (range_with_len first count)) in
    let h = history_of names statements rules log b in
    let test = reads_at files b.head.orders in
    let parts = and_parts (are_none b.track.later) (list_all (reads_by files b.head.orders b.track.first) b.track.items) read in
    let begun : AreRead test b.track.items b.track.first b.track.later =
    subst (λ (later : List Layout). AreRead test b.track.items b.track.first later) (sym (none_is b.track.later parts.0)) (rows_are test b.track.first b.track.items (begins_read files b.head.orders b.track.first b.track.items parts.1)) in
    let sound = log_sound heads (bytes_of files) start (map (log_file files) (range_with_len first count)) (log_is files first count) in
    each_reads files h 1 (length h.items) (omega arith)
    (rows_read test (bytes_of files) (agrees files b.head.orders) statements rules log b.track sound begun)

pub all_histories_read : (files : List NamedFile) (names : List Text) (heads : Heads) (statements : Statements) (rules : Rules) (start first count : ℕ) (bs : List Beginning) (hs : List History)
    → hs ≡ map (history_of names statements rules (log_of heads start (map (log_file files) (range_with_len first count)))) bs → list_all (is_readable files) bs ≡ true → all_read files hs ≡ true
all_histories_read files names heads statements rules start first count bs hs is read =
    subst (λ (l : List History). all_read files l ≡ true) (sym is) (each bs read) where
      each : (bs : List Beginning) → list_all (is_readable files) bs ≡ true → all_read files (map (history_of names statements rules (log_of heads start (map (log_file files) (range_with_len first count)))) bs) ≡ true
      each [] all = refl
      each (b ∷ bs) all =
          let parts = and_parts (is_readable files b) (list_all (is_readable files) bs) all in
          let one = history_reads files names heads statements rules start first count b parts.0 in
          rw one (each bs parts.1)

-- A row item of a history has a change.

in_range : (test : ℕ → Bool) (first count k : ℕ) → list_all test (range_with_len first count) ≡ true → first ≤ k → k < first + count → test k ≡ true
in_range test first zero k all low high = absurd (omega arith)
in_range test first (suc count) k all low high = by (nat_eq first k) refl (λ rest from to. in_range test (first + 1) count k rest from to) where
  parts : (test first ≡ true) × (list_all test (range_with_len (first + 1) count) ≡ true)
  parts = and_parts (test first) (list_all test (range_with_len (first + 1) count)) all

  by : (b : Bool) → nat_eq first k ≡ b → (list_all test (range_with_len (first + 1) count) ≡ true → first + 1 ≤ k → k < first + 1 + count → test k ≡ true) → test k ≡ true
  by true is next = let same : first ≡ k = grind (arith, nat_tests) in subst (λ (n : ℕ). test n ≡ true) same parts.0
  by false is next = let other : first ≡ k → ⊥ = grind (arith, nat_tests) in next parts.1 (omega (arith, other)) (omega arith)

within_items : (items : List Item) (position : ℕ) (i : Item) → slice_get items position ≡ Some i → position < length items
within_items [] position i is = absurd cc
within_items (x ∷ xs) zero i is = omega arith
within_items (x ∷ xs) (suc position) i is = let rest = within_items xs position i is in omega arith

shard_read : (files : List NamedFile) (histories : List History) (shard : ℕ) (h : History) → all_read files histories ≡ true → slice_get histories shard ≡ Some h → list_all (reads files h) (range_with_len 1 (length h.items)) ≡ true
shard_read files [] shard h all is = absurd cc
shard_read files (x ∷ xs) zero h all is =
    let same : x ≡ h = cc in
    subst (λ (y : History). list_all (reads files y) (range_with_len 1 (length y.items)) ≡ true) same (and_parts (list_all (reads files x) (range_with_len 1 (length x.items))) (all_read files xs) all).0
shard_read files (x ∷ xs) (suc shard) h all is = shard_read files xs shard h (and_parts (list_all (reads files x) (range_with_len 1 (length x.items))) (all_read files xs) all).1 is

row_read : (files : List NamedFile) (h : History) (number : ℕ) → list_all (reads files h) (range_with_len 1 (length h.items)) ≡ true → is_row_item (item_of h number) ≡ true → is_some (change_of files h number) ≡ true
row_read files h zero all row = absurd (let none : false ≡ true = row in cc)
row_read files h (suc position) all row = by (slice_get h.items position) refl where
  by : (o : Option Item) → slice_get h.items position ≡ o → is_some (change_of files h (suc position)) ≡ true
  by None is = absurd (let none : false ≡ true = rw is at row in cc)
  by (Some (item.Ddl p)) is = absurd (let none : false ≡ true = rw is at row in cc)
  by (Some (item.Row p)) is =
      let low : position < length h.items = within_items h.items position (item.Row p) is in
      let reads_so : reads files h (suc position) ≡ true = in_range (reads files h) 1 (length h.items) (suc position) all (omega arith) (omega arith) in
      rw is at reads_so

pub row_has_change : (files : List NamedFile) (histories : List History) (shard number : ℕ) (h : History) → all_read files histories ≡ true → slice_get histories shard ≡ Some h → is_row histories shard number ≡ true → is_some (change_of files h number) ≡ true
row_has_change files histories shard number h all is row = row_read files h number (shard_read files histories shard h all is) (rw is at row)

-- what is read of a row item of kept inputs is never nothing
pub never_none : (files slice : List NamedFile) (histories own : List History) (shard place number : ℕ) (h : History) → slice ≡ files → own ≡ histories → place ≡ shard → are_kept files histories ≡ true
    → Some h ≡ slice_get own place → is_row histories shard number ≡ true → change_of slice h number ≡ None → ⊥
never_none files slice histories own shard place number h slice_is own_is place_is kept there row none =
    let found : slice_get histories shard ≡ Some h = sym (there ∙ ap (λ (l : List History). slice_get l place) own_is ∙ ap (slice_get histories) place_is) in
    let has : is_some (change_of files h number) ≡ true = row_has_change files histories shard number h (and_parts (are_short files) (all_read files histories) kept).1 found row in
    let lacks : is_some (change_of files h number) ≡ false = ap (λ (fs : List NamedFile). is_some (change_of fs h number)) (sym slice_is) ∙ ap (λ (o : Option RowChange). is_some o) none in
    let both : false ≡ true = sym lacks ∙ has in absurd cc
