-- The rows of a dump stand behind its CREATE TABLE.
use Rattle.std.proofs.Common.{◌≡◌, ℕ, suc, List, [], ◌++◌, length, drop, refl, ap, ◌∙◌}
use Rattle.std.proofs.Math.Seq.{drop-append_seam}
use Rattle.std.proofs.lemmas.List.{append-nil}
use Rattle.dm_value.specs.declared.value.Value.{Value}
use Rattle.dm_schema.specs.Layout.{Layout}
use Rattle.dm_text.specs.Names.{quoted}
use Rattle.dm_text.specs.Columns.{create_text}
use Rattle.dm_write.specs.Dumps.{dump_text, insert_text, rows_text}
use Rattle.dm_gen.specs.Naming.{table_of}
use Rattle.dm_gen.specs.Schemas.{columns_after, schema_after}
use Rattle.dm_gen.specs.Steps.{dumped_rows}
use Rattle.dm_gen.specs.Dumps.{create_file, dumped, rows_file}

-- there are rows
rows_are : (source n : ℕ) → rows_text (quoted (table_of source)) (columns_after 0) (dumped source (suc n)) ≡ insert_text (quoted (table_of source)) (columns_after 0) (dumped source (suc n))
unfolding dumped_rows
rows_are source n = refl

seam : (front rest : List ℕ) → drop (length (front ++ [])) (front ++ rest) ≡ rest
seam front rest = ap (λ xs. drop (length xs) (front ++ rest)) (append-nil front) ∙ drop-append_seam front rest

dump_behind : (source : ℕ) → drop (length (create_file source)) (dump_text (table_of source) (schema_after 0) (dumped source 1000)) ≡ rows_file source
dump_behind source =
    seam (create_text (quoted (table_of source)) (schema_after 0)) (rows_text (quoted (table_of source)) (columns_after 0) (dumped source 1000)) ∙ rows_are source 999

-- the code's texts, of which it has the dump and the CREATE TABLE as slices
pub rows_behind : (source : ℕ) (table : List ℕ) (schema : Layout) (rows : List (List Value)) (dump lent create front text : List ℕ)
    → table ≡ table_of source → schema ≡ schema_after 0 → rows ≡ dumped source 1000 → dump ≡ dump_text table schema rows → lent ≡ dump → create ≡ create_file source → front ≡ create → text ≡ drop (length front) lent → text ≡ rows_file source
rows_behind source table schema rows dump lent create front text named is all written same made first behind =
    let texts : dump_text table schema rows ≡ dump_text (table_of source) (schema_after 0) (dumped source 1000) =
    ap (λ t. dump_text t schema rows) named ∙ (ap (λ s. dump_text (table_of source) s rows) is ∙ ap (λ r. dump_text (table_of source) (schema_after 0) r) all) in
    behind ∙ (ap (λ xs. drop (length xs) lent) (first ∙ made) ∙ (ap (drop (length (create_file source))) (same ∙ (written ∙ texts)) ∙ dump_behind source))
