-- A dump is written by its parts.
use Rattle.std.proofs.Common.{◌≡◌, ℕ, List, [], ◌++◌, ap, ◌∙◌}
use Rattle.dm_value.specs.declared.value.Value.{Value}
use Rattle.dm_schema.specs.declared.column.Column.{Column}
use Rattle.dm_schema.specs.Layout.{Layout}
use Rattle.dm_text.specs.Names.{quoted}
use Rattle.dm_text.specs.Columns.{create_text}
use Rattle.dm_write.specs.Dumps.{rows_text, dump_text}

pub dump_joined : (table name again : List ℕ) (layout : Layout) (columns : List Column) (rows slice : List (List Value)) (start first last : List ℕ) → name ≡ quoted table → again ≡ quoted table → columns ≡ layout.columns → slice ≡ rows → start ≡ []
    → first ≡ start ++ create_text name layout → last ≡ first ++ rows_text again columns slice → last ≡ dump_text table layout rows
dump_joined table name again layout columns rows slice start first last n m c r none e1 e2 =
    e2 ∙ ap (λ xs. xs ++ rows_text again columns slice) (e1 ∙ ap (λ xs. xs ++ create_text name layout) none)
    ∙ (λ i. create_text (n i) layout ++ rows_text (m i) (c i) (r i))
