-- The text of a call's record does what the call does.
use Rattle.std.proofs.Common.{◌≡◌, ℕ, true, false, List, [], Option, Some, None, Result, Ok, Err, refl, sym, ap, ◌∙◌}
use Rattle.std.proofs.lemmas.Option.{same_Some}
use Rattle.std.specs.Prelude.{◌&&◌, ◌==◌, not, length, option_and_then}
use Rattle.std.specs.Cmp.Lexicographic.{pointwise}
use Rattle.std.specs.List.{flat_map, list_all}
use Rattle.std.specs.Option.{option_map, option_map_or}
use Rattle.std.proofs.lemmas.Bool.{and_from, and_parts, not-true, not_from_false}
use Rattle.dm_schema.specs.declared.change.Change.{Change}
use Rattle.dm_schema.specs.declared.table_name.TableName.{TableName}
use Rattle.dm_schema.specs.Layout.{Layout}
use Rattle.dm_schema.specs.Names.{same_name}
use Rattle.dm_schema.specs.Schemas.{in_order, is_formed, same_layout, schema_equal}
use Rattle.dm_join.specs.Alteration.{alteration}
use Rattle.dm_table.specs.declared.fault.TableFault.{TableFault}
use Rattle.dm_table.specs.declared.fault.TableFault.TheVariants as fault
use Rattle.dm_table.specs.declared.op.RowOp.{RowOp}
use Rattle.dm_table.specs.Alterations.{altered}
use Rattle.dm_table.specs.Contents.{RowMap, TableContent}
use Rattle.dm_table.specs.Operations.{all_applied, table_applied, with_rows}
use Rattle.dm_table.specs.Shapes.{is_shaped}
use Rattle.dm_target.specs.declared.call.Call.{Call}
use Rattle.dm_target.specs.declared.call.Call.TheVariants as call
use Rattle.dm_target.specs.declared.call.Meta.{Meta}
use Rattle.dm_target.specs.Asking.{is_meta_table, is_proper}
use Rattle.dm_target.specs.Contents.{Content, effect, if_there, table_of, with_table}
use Rattle.dm_target.proofs.OrderedTwice.{in_order_twice}
use Rattle.dm_stmt.specs.Known.{schema_in}
use Rattle.dm_stmt.specs.Records.{are_ops, is_empty, is_record, is_written_change}
use Rattle.dm_stmt.specs.Texts.{alter_text, op_text, transaction}
use Rattle.dm_stmt.specs.declared.record.Record.TheVariants as record_of
use Rattle.dm_stmt_read.specs.Reading.{is_typed, is_typed_change, is_typed_column, is_typed_op}
use Rattle.dm_journal.specs.Contents.{call_of, changed_by, known_of}
use Rattle.dm_journal.specs.Journaled.{IsTextFor, call_text, record_for}
use Rattle.dm_journal.proofs.AlterRecords.{alteration_leads, altered_primary, changes_are_written, some_change}
use Rattle.dm_journal.proofs.KnownSchemas.{get-known_of, layout_of}
use Rattle.dm_journal.proofs.OpsRecords.{ops_are_written}

-- a record that is written, and stands for the call wherever that has an effect, has a text for it
written : (content : Content) (done : Call) (text : List ℕ) → call_text content done ≡ text
    → ((after : Content) → effect done content ≡ Ok after → (is_record (known_of content) (record_for content done) ≡ true) × (call_of content (record_for content done) ≡ Some done))
    → is_typed (record_for content done) ≡ true → IsTextFor content done text
written content done text is stands typed after leaves = record {
  said = record_for content done;
  reads = ((stands after leaves).0, typed, is);
  calls = (stands after leaves).1;
  leaves = leaves;
}

-- a schema in order stays so
stays : (asked layout : Layout) → is_formed asked ≡ true → layout ≡ in_order asked → in_order layout ≡ layout
stays asked layout formed is = ap in_order is ∙ in_order_twice asked formed ∙ sym is

pub create_does : (content : Content) (table : TableName) (asked layout : Layout) (text : List ℕ) → is_formed asked ≡ true → is_formed layout ≡ true → layout ≡ in_order asked → is_proper (call.Create table asked) content ≡ true
    → list_all is_typed_column layout.columns ≡ true → call_text content (call.Create table layout) ≡ text → IsTextFor content (call.Create table layout) text
create_does content table asked layout text asked_formed formed ordered proper typed is =
    written content (call.Create table layout) text is
    (λ after leaves. (and_from (not (is_meta_table table)) (is_formed layout) proper formed, ap (λ l. Some (call.Create table l)) (stays asked layout asked_formed ordered)))
    typed

pub metas_does : (content : Content) (pairs : List Meta) (text : List ℕ) → is_proper (call.Metas pairs) content ≡ true → call_text content (call.Metas pairs) ≡ text → IsTextFor content (call.Metas pairs) text
metas_does content pairs text proper is = written content (call.Metas pairs) text is (λ after leaves. (proper, refl)) refl

-- Calls of a table that is there.

-- if the table is there, its schema is one
abbrev pub IsFormedThere : Content → TableName → Type 0
IsFormedThere content table = (t : TableContent) → table_of content table ≡ Some t → is_formed t.layout ≡ true

-- the table has the schema that was found
there_is : (o : Option TableContent) (there : Layout) → Some there ≡ option_map layout_of o → (t : TableContent) → o ≡ Some t → there ≡ t.layout
there_is o there found t is = same_Some _ _ (found ∙ ap (option_map layout_of) is)

pub formed_there : (content : Content) (table : TableName) (there : Layout) → Some there ≡ option_map layout_of (table_of content table) → is_formed there ≡ true → IsFormedThere content table
formed_there content table there found formed t is = ap is_formed (sym (there_is (table_of content table) there found t is)) ∙ formed

pub formed_nowhere : (content : Content) (table : TableName) → None ≡ option_map layout_of (table_of content table) → IsFormedThere content table
formed_nowhere content table nowhere t is = let both : None ≡ Some t.layout = nowhere ∙ ap (option_map layout_of) is in absurd (cc both)

-- the text of operations of a table that is there, and of one that isn't
pub ops_text_there : (content : Content) (table : TableName) (ops : List RowOp) (there : Layout) → Some there ≡ option_map layout_of (table_of content table) → transaction (flat_map (op_text table there) ops) ≡ call_text content (call.Apply table ops)
ops_text_there content table ops there found =
    ap (λ (o : Option Layout). option_map_or (λ layout. transaction (flat_map (op_text table layout) ops)) o []) (found ∙ sym (get-known_of content table))

pub ops_text_nowhere : (content : Content) (table : TableName) (ops : List RowOp) → None ≡ option_map layout_of (table_of content table) → [] ≡ call_text content (call.Apply table ops)
ops_text_nowhere content table ops nowhere = ap (λ (o : Option Layout). option_map_or (λ layout. transaction (flat_map (op_text table layout) ops)) o []) (nowhere ∙ sym (get-known_of content table))

-- of a call that has an effect the table is there, and what the call makes of it isn't refused
made_of : (content after : Content) (table : TableName) (change : TableContent → Result TableContent TableFault) → with_table content table (if_there (table_of content table) change) ≡ Ok after
    → (t : TableContent) × (table_of content table ≡ Some t) × ((now : TableContent) × (change t ≡ Ok now))
made_of content after table change leaves = by (table_of content table) refl leaves where
  now_of : (r : Result TableContent TableFault) → with_table content table r ≡ Ok after → (now : TableContent) × (r ≡ Ok now)
  now_of (Ok now) e = (now, refl)
  now_of (Err f) e = absurd cc

  by : (o : Option TableContent) → table_of content table ≡ o → with_table content table (if_there o change) ≡ Ok after → (t : TableContent) × (table_of content table ≡ Some t) × ((now : TableContent) × (change t ≡ Ok now))
  by None is e = absurd cc
  by (Some t) is e = (t, is, now_of (change t) e)

-- Operations.

rows_of_applied : (table now : TableContent) (ops : List RowOp) → table_applied table ops ≡ Ok now → (rows : RowMap) × (all_applied table.layout ops table.rows ≡ Ok rows)
rows_of_applied table now ops h = by (all_applied table.layout ops table.rows) h where
  by : (r : Result RowMap TableFault) → with_rows table.layout r ≡ Ok now → (rows : RowMap) × (r ≡ Ok rows)
  by (Ok rows) e = (rows, refl)
  by (Err f) e = absurd cc

pub apply_does : (content : Content) (table : TableName) (ops : List RowOp) (text : List ℕ) → IsFormedThere content table → is_proper (call.Apply table ops) content ≡ true → list_all is_typed_op ops ≡ true
    → call_text content (call.Apply table ops) ≡ text → IsTextFor content (call.Apply table ops) text
apply_does content table ops text formed proper typed is = written content (call.Apply table ops) text is (λ after leaves. (stands after leaves, refl)) typed where
  parts : (not (is_meta_table table) && not (length ops == 0) ≡ true) × (option_map_or (λ there. list_all (is_shaped there.layout) ops) (table_of content table) true ≡ true)
  parts = and_parts (not (is_meta_table table) && not (length ops == 0)) (option_map_or (λ there. list_all (is_shaped there.layout) ops) (table_of content table) true) proper

  stands : (after : Content) → effect (call.Apply table ops) content ≡ Ok after → is_record (known_of content) (record_of.Apply table ops) ≡ true
  stands after leaves =
      let made = made_of content after table (λ t. table_applied t ops) leaves in
      let rows = rows_of_applied made.0 made.2.0 ops made.2.1 in
      let shaped : list_all (is_shaped made.0.layout) ops ≡ true = ap (λ (o : Option TableContent). option_map_or (λ there. list_all (is_shaped there.layout) ops) o true) (sym made.1) ∙ parts.1 in
      let ops_written = ops_are_written made.0.layout ops made.0.rows rows.0 (formed made.0 made.1) shaped rows.1 in
      let known : schema_in (known_of content) table ≡ Some made.0.layout = get-known_of content table ∙ ap (option_map layout_of) made.1 in
      and_from (not (is_meta_table table) && not (is_empty ops)) (option_map_or (λ layout. are_ops layout ops) (schema_in (known_of content) table) false) parts.0
      (ap (λ (o : Option Layout). option_map_or (λ layout. are_ops layout ops) o false) known ∙ ops_written)

-- Alterations.

-- the changes from the schema of the table that is there
abbrev changes_from : Layout → Option TableContent → List Change
changes_from layout o = option_map_or (λ there. alteration there.layout layout) o []

pub alter_does : (content : Content) (table : TableName) (asked layout : Layout) (text : List ℕ) → IsFormedThere content table → is_formed asked ≡ true → is_formed layout ≡ true → layout ≡ in_order asked
    → is_proper (call.Alter table asked) content ≡ true → list_all is_typed_change (changes_from layout (table_of content table)) ≡ true → call_text content (call.Alter table layout) ≡ text
    → IsTextFor content (call.Alter table layout) text
alter_does content table asked layout text formed_at asked_formed formed ordered proper typed is = written content (call.Alter table layout) text is stands typed where
  parts : (not (is_meta_table table) ≡ true) × (option_map_or (λ there. not (schema_equal there.layout asked)) (table_of content table) true ≡ true)
  parts = and_parts (not (is_meta_table table)) (option_map_or (λ there. not (schema_equal there.layout asked)) (table_of content table) true) proper

  stays_so : in_order layout ≡ layout
  stays_so = stays asked layout asked_formed ordered

  differs : (t : TableContent) → table_of content table ≡ Some t → schema_equal t.layout layout ≡ false
  differs t there =
      ap (same_layout (in_order t.layout)) (stays_so ∙ ordered)
      ∙ not-true (schema_equal t.layout asked) (ap (λ (o : Option TableContent). option_map_or (λ there. not (schema_equal there.layout asked)) o true) (sym there) ∙ parts.1)

  stands : (after : Content) → effect (call.Alter table layout) content ≡ Ok after
      → (is_record (known_of content) (record_for content (call.Alter table layout)) ≡ true) × (call_of content (record_for content (call.Alter table layout)) ≡ Some (call.Alter table layout))
  stands after leaves =
      let made = made_of content after table (λ t. altered t layout) leaves in
      let there : changes_from layout (table_of content table) ≡ alteration made.0.layout layout = ap (changes_from layout) made.1 in
      let formed_there = formed_at made.0 made.1 in
      let goes : altered made.0 (in_order layout) ≡ Ok made.2.0 = ap (altered made.0) stays_so ∙ made.2.1 in
      let led = alteration_leads made.0 made.2.0 layout formed_there formed goes in
      let known : schema_in (known_of content) table ≡ Some made.0.layout = get-known_of content table ∙ ap (option_map layout_of) made.1 in
      let some : not (is_empty (changes_from layout (table_of content table))) ≡ true =
      not_from_false (is_empty (changes_from layout (table_of content table))) (ap is_empty there ∙ some_change made.0.layout layout formed_there formed (altered_primary made.0 made.2.0 layout goes) (differs made.0 made.1)) in
      let all : list_all is_written_change (changes_from layout (table_of content table)) ≡ true = ap (list_all is_written_change) there ∙ changes_are_written made.0.layout layout formed_there formed in
      let front : (not (is_meta_table table) && option_map_or (λ layout. true) (schema_in (known_of content) table) false) ≡ true =
      and_from (not (is_meta_table table)) (option_map_or (λ layout. true) (schema_in (known_of content) table) false) parts.0 (ap (λ (o : Option Layout). option_map_or (λ layout. true) o false) known) in (
        and_from (not (is_meta_table table) && option_map_or (λ layout. true) (schema_in (known_of content) table) false && not (is_empty (changes_from layout (table_of content table)))) (list_all is_written_change (changes_from layout (table_of content table)))
            (and_from (not (is_meta_table table) && option_map_or (λ layout. true) (schema_in (known_of content) table) false) (not (is_empty (changes_from layout (table_of content table)))) front some) all,
        ap (option_and_then (λ l. Some (call.Alter table (in_order l))))
            (ap (λ (cs : List Change). option_and_then (λ t. changed_by cs t.layout) (table_of content table)) there ∙ ap (option_and_then (λ t. changed_by (alteration made.0.layout layout) t.layout)) made.1 ∙ led.1)
            ∙ ap (λ l. Some (call.Alter table l)) (led.2 ∙ stays_so),
      )

-- the text of an alteration of a table that is there, and of one that isn't
pub alter_text_there : (content : Content) (table : TableName) (layout there : Layout) → Some there ≡ option_map layout_of (table_of content table) → alter_text table (alteration there layout) ≡ call_text content (call.Alter table layout)
alter_text_there content table layout there found = by (table_of content table) found where
  by : (o : Option TableContent) → Some there ≡ option_map layout_of o → alter_text table (alteration there layout) ≡ alter_text table (changes_from layout o)
  by None e = absurd cc
  by (Some t) e = ap (λ l. alter_text table (alteration l layout)) (same_Some _ _ e)

pub alter_text_nowhere : (content : Content) (table : TableName) (layout : Layout) → None ≡ option_map layout_of (table_of content table) → alter_text table [] ≡ call_text content (call.Alter table layout)
alter_text_nowhere content table layout nowhere = by (table_of content table) nowhere where
  by : (o : Option TableContent) → None ≡ option_map layout_of o → alter_text table [] ≡ alter_text table (changes_from layout o)
  by None e = refl
  by (Some t) e = absurd cc

pub typed_there : (content : Content) (table : TableName) (layout there : Layout) → Some there ≡ option_map layout_of (table_of content table) → list_all is_typed_change (alteration there layout) ≡ true
    → list_all is_typed_change (changes_from layout (table_of content table)) ≡ true
typed_there content table layout there found typed = by (table_of content table) found where
  by : (o : Option TableContent) → Some there ≡ option_map layout_of o → list_all is_typed_change (changes_from layout o) ≡ true
  by None e = absurd cc
  by (Some t) e = ap (λ l. list_all is_typed_change (alteration l layout)) (sym (same_Some _ _ e)) ∙ typed

pub typed_nowhere : (content : Content) (table : TableName) (layout : Layout) → None ≡ option_map layout_of (table_of content table) → list_all is_typed_change (changes_from layout (table_of content table)) ≡ true
typed_nowhere content table layout nowhere = by (table_of content table) nowhere where
  by : (o : Option TableContent) → None ≡ option_map layout_of o → list_all is_typed_change (changes_from layout o) ≡ true
  by None e = refl
  by (Some t) e = absurd cc

-- an alteration to another primary key is refused
pub other_primary : (content : Content) (table : TableName) (layout there : Layout) → Some there ≡ option_map layout_of (table_of content table) → pointwise same_name there.primary layout.primary ≡ false
    → effect (call.Alter table layout) content ≡ Err fault.PrimaryDiffers
other_primary content table layout there found differs = by (table_of content table) found where
  refused : (t : TableContent) → there ≡ t.layout → altered t layout ≡ Err fault.PrimaryDiffers
  refused t is = rw (ap (λ (l : Layout). pointwise same_name l.primary layout.primary) (sym is) ∙ differs) refl

  by : (o : Option TableContent) → Some there ≡ option_map layout_of o → with_table content table (if_there o (λ t. altered t layout)) ≡ Err fault.PrimaryDiffers
  by None e = absurd cc
  by (Some t) e = ap (with_table content table) (refused t (same_Some _ _ e))
