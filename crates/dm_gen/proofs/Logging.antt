-- What a step adds to a log.
use Rattle.std.proofs.Common.{◌≡◌, ℕ, ◌+◌, ◌<◌, ◌^◌, List, ◌++◌, length, map, get_or, ap, sym, subst, ◌∙◌, arith, add-one, zero-add, append_assoc}
use Rattle.std.specs.Prelude.{IsTrue}
use Rattle.std.specs.List.{list_all, range_with_len}
use Rattle.std.specs.Cmp.Lexicographic.{pointwise}
use Rattle.std.proofs.lemmas.List.FromFn.{get_or-map-range_with_len}
use Rattle.dm_schema.specs.declared.row_change.RowChange.{RowChange}
use Rattle.dm_schema.specs.declared.table_name.TableName.{TableName}
use Rattle.dm_schema.specs.Fits.{fits}
use Rattle.dm_schema.specs.Layout.{Layout}
use Rattle.dm_binlog.specs.Framing.{magic}
use Rattle.dm_encode.specs.Events.{format_event, map_event, rows_event, rows_of}
use Rattle.dm_gen.specs.Naming.{own_name}
use Rattle.dm_gen.specs.Schemas.{columns_after, schema_after}
use Rattle.dm_gen.specs.Steps.{Walk, done_before, first_walk, step, walk_at}
use Rattle.dm_gen.specs.Logs.{log_at, logged, statement_behind}
use Rattle.dm_gen.proofs.Rooms.{step_room}
use Rattle.dm_gen.proofs.Walks.{is_walk}

-- the schema of a step
pub schema_at : (number done : ℕ) (schemas : List Layout) (schema : Layout) → number < 4000 → schemas ≡ map schema_after (range_with_len 0 4) → done ≡ done_before number → schema ≡ get_or schemas done schema → schema ≡ schema_after (done_before number)
schema_at number done schemas schema few all is here =
    here ∙ (ap (λ xs. get_or xs done schema) all ∙ (get_or-map-range_with_len schema_after 0 4 done done schema (omega (arith, few, is)) (zero-add done) ∙ ap schema_after is))

pub step_fits : (number : ℕ) (schema : Layout) (change : RowChange) → schema ≡ schema_after (done_before number) → IsTrue (list_all (λ row. pointwise fits row (columns_after (done_before number))) (rows_of change)) → IsTrue (list_all (λ row. pointwise fits row schema.columns) (rows_of change))
step_fits number schema change is fit = subst (λ (s : Layout). IsTrue (list_all (λ row. pointwise fits row s.columns) (rows_of change))) (sym is) fit

pub step_small : (source number : ℕ) (schema : Layout) (w : Walk) (change : RowChange) → schema ≡ schema_after (done_before number) → change ≡ (step number w).change → length (rows_event (source + 1) schema change) < 2 ^ 32
step_small source number schema w change is stepped =
    let P : Layout → RowChange → Type 0 = λ s c. length (rows_event (source + 1) s c) < 2 ^ 32 in
    subst (λ s. P s change) (sym is) (subst (λ c. P (schema_after (done_before number)) c) (sym stepped) (let few = step_room source number w in omega (arith, few)))

-- a map, rows, and what comes behind them
pub step_logged : (source number : ℕ) (own : TableName) (schema : Layout) (w : Walk) (change : RowChange) (old first second third : List ℕ) → own ≡ own_name source → schema ≡ schema_after (done_before number) → change ≡ (step number w).change
    → first ≡ old ++ map_event (source + 1) own.db own.table schema → second ≡ first ++ rows_event (source + 1) schema change → third ≡ second ++ statement_behind source number
    → third ≡ old ++ logged source number w
unfolding logged
step_logged source number own schema w change old first second third named is stepped a b c =
    let done = done_before number in
    let map_is : map_event (source + 1) own.db own.table schema ≡ map_event (source + 1) (own_name source).db (own_name source).table (schema_after done) =
    ap (λ (n : TableName). map_event (source + 1) n.db n.table schema) named ∙ ap (λ s. map_event (source + 1) (own_name source).db (own_name source).table s) is in
    let rows_is : rows_event (source + 1) schema change ≡ rows_event (source + 1) (schema_after done) (step number w).change =
    ap (λ s. rows_event (source + 1) s change) is ∙ ap (λ r. rows_event (source + 1) (schema_after done) r) stepped in
    joined old first second third _ _ _ _ (statement_behind source number) a b c map_is rows_is
  where
    joined : (old first second third own_map own_rows its_map its_rows behind : List ℕ) → first ≡ old ++ own_map → second ≡ first ++ own_rows → third ≡ second ++ behind → own_map ≡ its_map → own_rows ≡ its_rows → third ≡ old ++ ((its_map ++ its_rows) ++ behind)
    joined old first second third own_map own_rows its_map its_rows behind a b c d e =
        c ∙ (ap (λ xs. xs ++ behind) (b ∙ (ap (λ xs. xs ++ own_rows) (a ∙ ap (λ xs. old ++ xs) d) ∙ ap (λ xs. (old ++ its_map) ++ xs) e))
        ∙ (ap (λ xs. xs ++ behind) (append_assoc old its_map its_rows) ∙ append_assoc old (its_map ++ its_rows) behind))

-- before the first step
pub log_begins : (number source : ℕ) (w : Walk) (bytes : List ℕ) → w ≡ first_walk number source → bytes ≡ magic ++ format_event → (w ≡ walk_at number source 0) × (bytes ≡ log_at number source 0)
unfolding walk_at log_at
log_begins number source w bytes walk log = (walk, log)

-- behind one more step
pub log_goes : (number source j : ℕ) (w after : Walk) (bytes more : List ℕ) → (w ≡ walk_at number source j) × (bytes ≡ log_at number source j) → after ≡ (step j w).walk → more ≡ bytes ++ logged source j w → (after ≡ walk_at number source (j + 1)) × (more ≡ log_at number source (j + 1))
unfolding walk_at log_at
log_goes number source j w after bytes more is stepped pushed =
    subst (λ n. (after ≡ walk_at number source n) × (more ≡ log_at number source n)) (sym (add-one j))
    (stepped ∙ ap (λ v. (step j v).walk) is.0, pushed ∙ (ap (λ v. bytes ++ logged source j v) is.0 ∙ ap (λ xs. xs ++ logged source j (walk_at number source j)) is.1))

-- what the next step asks for
pub next_small : (number source j : ℕ) (w : Walk) → source < 4 → j < 4000 → w ≡ walk_at number source j → w.next < 2 ^ 31
next_small number source j w known few is = let at = is_walk number source j known in subst (λ (v : Walk). v.next < 2 ^ 31) (sym is) (omega (arith, at.next, few))

pub live_some : (number source j : ℕ) (w : Walk) → source < 4 → w ≡ walk_at number source j → 0 < length w.live
live_some number source j w known is = let at = is_walk number source j known in subst (λ (v : Walk). 0 < length v.live) (sym is) (omega (arith, at.long))
