-- The schemas that are known behind a record are those of the content that it leaves.
use Rattle.std.proofs.Common.{◌≡◌, Bool, true, false, cond, List, [], ◌∷◌, Option, Some, None, Result, Ok, Err, refl, sym, ap, ◌∙◌}
use Rattle.std.specs.Prelude.{map, option_and_then}
use Rattle.std.specs.Option.{option_map}
use Rattle.std.specs.Cmp.{IsTotalOrder}
use Rattle.std.specs.Ordering.{eq_by_cmp, is_eq}
use Rattle.std.specs.declared.cmp.Ordering.{Ordering}
use Rattle.std.specs.declared.cmp.Ordering.TheVariants.{Less, Equal, Greater}
use Rattle.std.proofs.lemmas.Cmp.{eq_by_cmp_equiv}
use Rattle.std.specs.FinMap as fin
use Rattle.std.specs.FinMap.{IsAntisymmetric, find, get-empty, get-entries, get-from_entries, get-insert, get_tied, same_map}
use Rattle.std.proofs.lemmas.Map.Lookups.{exact_bytes, exact_pairs}
use Rattle.dm_schema.specs.contracts.table_name.TableNameOrd.TheImpl.Laws.{total-law}
use Rattle.dm_schema.specs.declared.table_name.TableName.{TableName}
use Rattle.dm_schema.specs.Layout.{Layout}
use Rattle.dm_schema.specs.Names.{Text}
use Rattle.dm_schema.specs.Schemas.{in_order}
use Rattle.dm_table.specs.declared.fault.TableFault.{TableFault}
use Rattle.dm_table.specs.declared.op.RowOp.{RowOp}
use Rattle.dm_table.specs.Alterations.{altered}
use Rattle.dm_table.specs.Contents.{RowMap, TableContent}
use Rattle.dm_table.specs.Operations.{all_applied, table_applied, with_rows}
use Rattle.dm_target.specs.Contents.{Content, created, effect, if_there, no_content, table_name_cmp, table_of, with_metas, with_table}
use Rattle.dm_target.specs.declared.call.Call.{Call}
use Rattle.dm_target.specs.declared.call.Call.TheVariants as call
use Rattle.dm_stmt.specs.Known.{KnownMap}
use Rattle.dm_stmt.specs.declared.record.Record.{Record}
use Rattle.dm_stmt.specs.declared.record.Record.TheVariants as record_of
use Rattle.dm_journal.specs.Contents.{call_of, changed_by, known_of}
use Rattle.dm_journal.specs.Carrying.{known_behind, renewed, schema_of, with_schema}

total : IsTotalOrder table_name_cmp
total = total-law

-- only equal names tie
exact : IsAntisymmetric table_name_cmp
exact a b h = ap (λ (p : Text × Text). record { db = p.0; table = p.1 }) (exact_pairs _ _ exact_bytes exact_bytes (a.db, a.table) (b.db, b.table) h)

abbrev pub layout_of : TableContent → Layout
layout_of there = there.layout

option_map-cond : (b : Bool) (table : TableContent) (o : Option TableContent) → option_map layout_of (cond b (Some table) o) ≡ cond b (Some table.layout) (option_map layout_of o)
option_map-cond true table o = refl
option_map-cond false table o = refl

find-layouts : (q : TableName) (es : List (TableName × TableContent)) → find table_name_cmp q (map (λ e. (e.0, e.1.layout)) es) ≡ option_map layout_of (find table_name_cmp q es)
find-layouts q [] = refl
find-layouts q (e ∷ es) =
    ap (cond (eq_by_cmp table_name_cmp q e.0) (Some e.1.layout)) (find-layouts q es) ∙ sym (option_map-cond (eq_by_cmp table_name_cmp q e.0) e.1 (find table_name_cmp q es))

-- a table's schema is known as it is
pub get-known_of : (content : Content) (q : TableName) → fin.get (known_of content) q ≡ schema_of content q
get-known_of content q = get-from_entries total (map (λ e. (e.0, e.1.layout)) (fin.entries content.tables)) q ∙ find-layouts q (fin.entries content.tables) ∙ ap (option_map layout_of) (sym (get-entries content.tables q))

pub nothing_known : known_of no_content ≡ fin.empty
nothing_known = same_map total exact _ _ (λ q. get-known_of no_content q ∙ ap (option_map layout_of) (get-empty table_name_cmp q) ∙ sym (get-empty table_name_cmp q))

abbrev put_in : Content → TableName → TableContent → Content
put_in content name table = record { tables = fin.insert content.tables name table; metas = content.metas }

known_of-put : (content : Content) (name : TableName) (table : TableContent) → known_of (put_in content name table) ≡ fin.insert (known_of content) name table.layout
known_of-put content name table =
    same_map total exact _ _ (λ q.
    get-known_of (put_in content name table) q
    ∙ ap (option_map layout_of) (get-insert total content.tables name table q)
    ∙ option_map-cond (eq_by_cmp table_name_cmp q name) table (table_of content q)
    ∙ ap (cond (eq_by_cmp table_name_cmp q name) (Some table.layout)) (sym (get-known_of content q))
    ∙ sym (get-insert total (known_of content) name table.layout q))

there_now : (content : Content) (name : TableName) (table : TableContent) → table_of (put_in content name table) name ≡ Some table
there_now content name table = get-insert total content.tables name table name ∙ ap (λ b. cond b (Some table) (table_of content name)) ((eq_by_cmp_equiv total).refl name)

-- what a change of one table leaves
left_by : (content after : Content) (name : TableName) (changed : Result TableContent TableFault) → with_table content name changed ≡ Ok after → (table : TableContent) × (changed ≡ Ok table) × (put_in content name table ≡ after)
left_by content after name (Err f) h = absurd cc
left_by content after name (Ok table) h = (table, refl, cc)

known_of-changed : (content after : Content) (name : TableName) (changed : Result TableContent TableFault) → with_table content name changed ≡ Ok after → with_schema (known_of content) name (schema_of after name) ≡ known_of after
known_of-changed content after name changed h =
    let left = left_by content after name changed h in
    let there : table_of after name ≡ Some left.0 = ap (λ (c : Content). table_of c name) (sym left.2) ∙ there_now content name left.0 in
    ap (λ o. with_schema (known_of content) name (option_map layout_of o)) there ∙ sym (known_of-put content name left.0) ∙ ap known_of left.2

tied : (o : Ordering) → is_eq o ≡ true → o ≡ Equal
tied Less h = absurd cc
tied Equal h = refl
tied Greater h = absurd cc

-- what is known already
insert_same : (known : KnownMap) (name : TableName) (layout : Layout) → fin.get known name ≡ Some layout → fin.insert known name layout ≡ known
insert_same known name layout is = same_map total exact _ _ (λ q. get-insert total known name layout q ∙ by q (eq_by_cmp table_name_cmp q name) refl) where
  by : (q : TableName) (b : Bool) → eq_by_cmp table_name_cmp q name ≡ b → cond b (Some layout) (fin.get known q) ≡ fin.get known q
  by q true same = sym is ∙ get_tied total known q name (tied (table_name_cmp q name) same)
  by q false other = refl

-- operations leave a table its schema
same_layout : (table after : TableContent) (ops : List RowOp) → table_applied table ops ≡ Ok after → table.layout ≡ after.layout
same_layout table after ops h = by (all_applied table.layout ops table.rows) h where
  by : (r : Result RowMap TableFault) → with_rows table.layout r ≡ Ok after → table.layout ≡ after.layout
  by (Err f) e = absurd cc
  by (Ok rows) e = ap (λ (t : TableContent). t.layout) (let same : record { layout = table.layout; rows = rows } ≡ after = cc in same)

known_of-applied : (content after : Content) (name : TableName) (ops : List RowOp) → with_table content name (if_there (table_of content name) (λ table. table_applied table ops)) ≡ Ok after → known_of content ≡ known_of after
known_of-applied content after name ops h = by (table_of content name) refl h where
  by : (o : Option TableContent) → table_of content name ≡ o → with_table content name (if_there o (λ table. table_applied table ops)) ≡ Ok after → known_of content ≡ known_of after
  by None at e = absurd cc
  by (Some there) at e =
      let left = left_by content after name (table_applied there ops) e in
      let known : fin.get (known_of content) name ≡ Some left.0.layout = get-known_of content name ∙ ap (option_map layout_of) at ∙ ap Some (same_layout there left.0 ops left.1) in
      sym (insert_same (known_of content) name left.0.layout known) ∙ sym (known_of-put content name left.0) ∙ ap known_of left.2

ok_same : {a b : Content} → ◌≡◌ {A = Result Content TableFault} (Ok a) (Ok b) → a ≡ b
ok_same e = cc

pub known_behind_record : (said : Record) (before after : Content) (done : Call) → call_of before said ≡ Some done → effect done before ≡ Ok after → known_behind (renewed said) after (known_of before) ≡ known_of after
known_behind_record (record_of.Create table layout) before after done stands leaves =
    let is : call.Create table (in_order layout) ≡ done = cc in
    known_of-changed before after table (created (table_of before table) (in_order layout)) (ap (λ (c : Call). effect c before) is ∙ leaves)
known_behind_record (record_of.Alter table changes) before after done stands leaves = by (option_and_then (λ there. changed_by changes there.layout) (table_of before table)) stands where
  by : (o : Option Layout) → option_and_then (λ layout. Some (call.Alter table (in_order layout))) o ≡ Some done → with_schema (known_of before) table (schema_of after table) ≡ known_of after
  by None e = absurd cc
  by (Some layout) e =
      let is : call.Alter table (in_order layout) ≡ done = cc in
      known_of-changed before after table (if_there (table_of before table) (λ there. altered there (in_order layout))) (ap (λ (c : Call). effect c before) is ∙ leaves)
known_behind_record (record_of.Apply table ops) before after done stands leaves =
    let is : call.Apply table ops ≡ done = cc in
    known_of-applied before after table ops (ap (λ (c : Call). effect c before) is ∙ leaves)
known_behind_record (record_of.Metas pairs) before after done stands leaves =
    let is : call.Metas pairs ≡ done = cc in
    let left : record { tables = before.tables; metas = with_metas pairs before.metas } ≡ after = ok_same (ap (λ (c : Call). effect c before) is ∙ leaves) in
    ap known_of left
