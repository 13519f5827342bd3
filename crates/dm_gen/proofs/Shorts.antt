-- Each file has fewer than 2^32 bytes.
use Rattle.std.proofs.Common.{◌≡◌, ℕ, zero, suc, ◌+◌, ◌*◌, ◌<◌, ◌≤◌, ◌^◌, Bool, true, false, cond, eqb, List, [], ◌∷◌, length, map, refl, arith, length-append, lit<}
use Rattle.std.specs.Prelude.{◌&&◌, nat_lt}
use Rattle.std.specs.List.{flat_map, range_with_len}
use Rattle.std.specs.Fmt.{decimal}
use Rattle.std.proofs.lemmas.Bool.{lt-ltb}
use Rattle.std.proofs.lemmas.Fmt.{length-decimal-le}
use Rattle.dm_text.specs.Names.{behind_comma, doubled, with_commas}
use Rattle.dm_text.specs.Values.{tuple_text}
use Rattle.dm_encode.specs.Events.{format_body, map_event, rows_event}
use Rattle.dm_encode.proofs.Bodies.{length-event}
use Rattle.dm_encode.proofs.Digits.{length-le}
use Rattle.dm_write.specs.Dumps.{tuples_text}
use Rattle.dm_files.specs.Files.{are_short}
use Rattle.dm_gen.specs.Naming.{database, table_of}
use Rattle.dm_gen.specs.Schemas.{columns_after, schema_after}
use Rattle.dm_gen.specs.Steps.{Walk, done_before, dumped_row, dumped_rows, row_of, step, walk_at}
use Rattle.dm_gen.specs.Logs.{binlog, change_events, is_last, log_at, logged, statement_behind, statement_event}
use Rattle.dm_gen.specs.Dumps.{dumped, rows_file}
use Rattle.dm_gen.specs.Generated.{files}
use Rattle.dm_gen.proofs.Rooms.{map_room, statement_room, step_room}

-- Logs.

behind_room : (source j : ℕ) → length (statement_behind source j) ≤ 200
behind_room source j = let some = statement_room source (done_before j) in by (is_last j) some where
  by : (last : Bool) → length (statement_event source (done_before j)) ≤ 200 → length (cond last (statement_event source (done_before j)) []) ≤ 200
  by true some = some
  by false some = omega arith

step_length : (source j : ℕ) (w : Walk) → length (logged source j w) ≤ 700
unfolding logged
step_length source j w =
    let map = map_room source (done_before j) in
    let rows = step_room source j w in
    let behind = behind_room source j in
    let both = length-append (map_event (source + 1) database (table_of source) (schema_after (done_before j))) (rows_event (source + 1) (schema_after (done_before j)) (step j w).change) in
    let all = length-append (change_events source (done_before j) (step j w).change) (statement_behind source j) in
    omega (arith, map, rows, behind, both, all)

log_length : (number source j : ℕ) → length (log_at number source j) ≤ 200 + 700 * j
unfolding log_at
log_length number source zero = let long = length-event 15 format_body in let body : length format_body ≤ 100 = simp (length-append, length-le) (omega arith) in omega (arith, long, body)
log_length number source (suc j) =
    let before = log_length number source j in
    let own = step_length source j (walk_at number source j) in
    let all = length-append (log_at number source j) (logged source j (walk_at number source j)) in
    omega (arith, before, own, all)

binlog_short : (number source : ℕ) → length (binlog number source) < 2 ^ 32
binlog_short number source = let long = log_length number source 4000 in omega (arith, long)

-- Dumps.

doubled_few : (b : ℕ) → length (doubled b) ≤ 2
doubled_few b = by (eqb b 96) where
  by : (is : Bool) → length (cond is (96 ∷ 96 ∷ []) (b ∷ [])) ≤ 2
  by true = omega arith
  by false = omega arith

digits_few : (n : ℕ) → n < 10000000 → length (decimal n) ≤ 7
digits_few n small = length-decimal-le 7 n (lit< tt) small (omega (arith, small))

row_length : (source i : ℕ) → source < 4 → i < 1000 → length (tuple_text (columns_after 0) (row_of 0 (dumped_row source i))) ≤ 30
row_length source i known few =
    let id = digits_few (source * 1000000 + i) (omega (arith, known, few)) in
    let v = digits_few i (omega (arith, few)) in
    simp length-append (omega (arith, id, v))

rows_length : (source from n : ℕ) → source < 4 → from + n ≤ 1000 → length (flat_map behind_comma (map (tuple_text (columns_after 0)) (map (row_of 0) (map (dumped_row source) (range_with_len from n))))) ≤ 31 * n
rows_length source from zero known few = omega arith
rows_length source from (suc n) known few =
    let own = row_length source from known (omega (arith, few)) in
    let behind = rows_length source (from + 1) n known (omega (arith, few)) in
    let all = length-append (tuple_text (columns_after 0) (row_of 0 (dumped_row source from))) (flat_map behind_comma (map (tuple_text (columns_after 0)) (map (row_of 0) (map (dumped_row source) (range_with_len (from + 1) n))))) in
    omega (arith, own, behind, all)

-- the first piece has no comma before it
commas_fewer : (pieces : List (List ℕ)) → length (with_commas pieces) ≤ length (flat_map behind_comma pieces)
commas_fewer [] = omega arith
commas_fewer (piece ∷ pieces) =
    let one = length-append piece (flat_map behind_comma pieces) in
    omega (arith, one)

tuples_length : (source n : ℕ) → source < 4 → n ≤ 1000 → length (tuples_text (columns_after 0) (dumped source n)) ≤ 31 * n
unfolding dumped_rows
tuples_length source n known few =
    let fewer = commas_fewer (map (tuple_text (columns_after 0)) (dumped source n)) in
    let all = rows_length source 0 n known (omega (arith, few)) in
    omega (arith, fewer, all)

rows_short : (source : ℕ) → source < 4 → length (rows_file source) < 2 ^ 32
rows_short source known =
    let name = doubled_few (48 + source) in
    let tuples = tuples_length source 1000 known (omega arith) in
    simp length-append (omega (arith, name, tuples))

-- All files.

below : (text : List ℕ) → length text < 2 ^ 32 → nat_lt (length text) (2 ^ 32) ≡ true
below text short = lt-ltb (length text) (2 ^ 32) short

both : (first second : Bool) → first ≡ true → second ≡ true → (first && second) ≡ true
both true second is known = known
both false second is known = absurd cc

-- those of the CREATE TABLEs are computed
pub files_short : (number : ℕ) → are_short (files number) ≡ true
files_short number =
    both _ _ (below (binlog number 0) (binlog_short number 0)) (both _ _ (below (rows_file 0) (rows_short 0 (lit< tt)))
    (both _ _ (below (binlog number 1) (binlog_short number 1)) (both _ _ (below (rows_file 1) (rows_short 1 (lit< tt)))
    (both _ _ (below (binlog number 2) (binlog_short number 2)) (both _ _ (below (rows_file 2) (rows_short 2 (lit< tt)))
    (both _ _ (below (binlog number 3) (binlog_short number 3)) (both _ _ (below (rows_file 3) (rows_short 3 (lit< tt))) refl)))))))
