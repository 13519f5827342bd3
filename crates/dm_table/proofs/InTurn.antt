-- Operations in turn: those that are taken, and the one that is refused.
use Rattle.std.proofs.Common.{◌≡◌, ℕ, ◌+◌, ◌<◌, length, get_or, drop, Bool, true, false, List, [], ◌∷◌, ◌++◌, Result, Ok, Err, refl, sym, ap, ◌∙◌}
use Rattle.std.specs.Prelude.{⊤, MatchBool}
use Rattle.std.specs.FinMap as fin
use Rattle.std.proofs.lemmas.List.{at_drop_more}
use Rattle.dm_schema.specs.Layout.{Layout}
use Rattle.dm_table.specs.declared.op.RowOp.{RowOp}
use Rattle.dm_table.specs.declared.fault.TableFault.{TableFault}
use Rattle.dm_table.specs.Contents.{Row, RowMap, TableContent}
use Rattle.dm_table.specs.Operations.{applied, all_applied, with_rows, table_applied}
use Rattle.dm_table.specs.Meeting.{meets}
use Rattle.dm_table.proofs.Untouched.{untouched}
use Rattle.dm_table.specs.Judging.{is_memory}

pub first_taken : (layout : Layout) (o : RowOp) (os : List RowOp) (m n : RowMap) → applied layout o m ≡ Ok n → all_applied layout (o ∷ os) m ≡ all_applied layout os n
first_taken layout o os m n taken = rw taken refl

pub first_refused : (layout : Layout) (o : RowOp) (os : List RowOp) (m : RowMap) (f : TableFault) → applied layout o m ≡ Err f → all_applied layout (o ∷ os) m ≡ Err f
first_refused layout o os m f refused = rw refused refl

split : (layout : Layout) (ops : List RowOp) (i : ℕ) (o : RowOp) (m : RowMap) → i < length ops → o ≡ get_or ops i o → all_applied layout (drop i ops) m ≡ all_applied layout (o ∷ drop (i + 1) ops) m
split layout ops i o m within here = at_drop_more (λ os. all_applied layout os m) ops i o within ∙ ap (λ (p : RowOp). all_applied layout (p ∷ drop (i + 1) ops) m) (sym here)

pub one_taken : (layout : Layout) (ops : List RowOp) (i : ℕ) (o : RowOp) (m n : RowMap) (total : Result RowMap TableFault) → i < length ops → o ≡ get_or ops i o → applied layout o m ≡ Ok n
    → all_applied layout (drop i ops) m ≡ total → all_applied layout (drop (i + 1) ops) n ≡ total
one_taken layout ops i o m n total within here taken h = sym (first_taken layout o (drop (i + 1) ops) m n taken) ∙ sym (split layout ops i o m within here) ∙ h

pub one_refused : (layout : Layout) (ops : List RowOp) (i : ℕ) (o : RowOp) (m : RowMap) (f : TableFault) (total : Result RowMap TableFault) → i < length ops → o ≡ get_or ops i o
    → MatchBool (is_memory f) ⊤ (applied layout o m ≡ Err f) → all_applied layout (drop i ops) m ≡ total → MatchBool (is_memory f) ⊤ (total ≡ Err f)
one_refused layout ops i o m f total within here refused h = by (is_memory f) refused where
  by : (b : Bool) → MatchBool b ⊤ (applied layout o m ≡ Err f) → MatchBool b ⊤ (total ≡ Err f)
  by true r = tt
  by false r = sym h ∙ split layout ops i o m within here ∙ first_refused layout o (drop (i + 1) ops) m f r

-- Operations, and more behind them.

pub more_behind : (layout : Layout) (os more : List RowOp) (m n : RowMap) → all_applied layout os m ≡ Ok n → all_applied layout (os ++ more) m ≡ all_applied layout more n
more_behind layout [] more m n is = let same : m ≡ n = cc is in ap (all_applied layout more) same
more_behind layout (o ∷ os) more m n is = by (applied layout o m) refl (more_behind layout os more) where
  by : (r : Result RowMap TableFault) → applied layout o m ≡ r → ((m n : RowMap) → all_applied layout os m ≡ Ok n → all_applied layout (os ++ more) m ≡ all_applied layout more n)
      → all_applied layout ((o ∷ os) ++ more) m ≡ all_applied layout more n
  by (Ok x) taken rest = first_taken layout o (os ++ more) m x taken ∙ rest x n (sym (first_taken layout o os m x taken) ∙ is)
  by (Err f) refused rest = let both : Err f ≡ Ok n = sym (first_refused layout o os m f refused) ∙ is in absurd (cc both)

-- one operation alone
pub only_one : (layout : Layout) (o : RowOp) (m n : RowMap) → all_applied layout (o ∷ []) m ≡ Ok n → applied layout o m ≡ Ok n
only_one layout o m n is = by (applied layout o m) refl where
  by : (r : Result RowMap TableFault) → applied layout o m ≡ r → r ≡ Ok n
  by (Ok x) taken = sym (first_taken layout o [] m x taken) ∙ is
  by (Err f) refused = let both : Err f ≡ Ok n = sym (first_refused layout o [] m f refused) ∙ is in absurd (cc both)

-- the same of a table
rows_of : (layout : Layout) (r : Result RowMap TableFault) (t : TableContent) → with_rows layout r ≡ Ok t → (r ≡ Ok t.rows) × (layout ≡ t.layout)
rows_of layout (Ok rows) t is =
    let same : record { layout = layout; rows = rows } ≡ t = cc is in
    (ap (λ (t : TableContent). let r : Result RowMap TableFault = Ok t.rows in r) same, ap (λ (t : TableContent). t.layout) same)
rows_of layout (Err f) t is = absurd (cc is)

pub table_in_turn : (old now : TableContent) (ops more : List RowOp) → table_applied old ops ≡ Ok now → table_applied old (ops ++ more) ≡ table_applied now more
table_in_turn old now ops more is =
    let parts = rows_of old.layout (all_applied old.layout ops old.rows) now is in
    ap (with_rows old.layout) (more_behind old.layout ops more old.rows now.rows parts.0) ∙ ap (λ (l : Layout). with_rows l (all_applied l more now.rows)) parts.1

pub table_elsewhere : (old now : TableContent) (ops : List RowOp) → table_applied old ops ≡ Ok now → (o : RowOp) (key : Row) → ops ≡ o ∷ [] → meets old.layout o old.rows key ≡ false → fin.get now.rows key ≡ fin.get old.rows key
table_elsewhere old now ops is o key one apart =
    untouched old.layout o old.rows now.rows
    (only_one old.layout o old.rows now.rows (ap (λ (os : List RowOp). all_applied old.layout os old.rows) (sym one) ∙ (rows_of old.layout (all_applied old.layout ops old.rows) now is).0)) key apart

pub applied_by_rows : (layout : Layout) (rows now made : RowMap) (ops : List RowOp) (table : TableContent) → all_applied layout ops rows ≡ Ok made → now ≡ made → record { layout = layout; rows = rows } ≡ table
    → table_applied table ops ≡ Ok (record { layout = layout; rows = now })
applied_by_rows layout rows now made ops table is same seen = ap (λ (t : TableContent). table_applied t ops) (sym seen) ∙ ap (with_rows layout) is ∙ ap (λ (m : RowMap). let r : Result TableContent TableFault = Ok (record { layout = layout; rows = m }) in r) (sym same)
