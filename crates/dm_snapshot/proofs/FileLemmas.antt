-- What is read of a file is what its readings say.
use Rattle.std.proofs.Common.{◌≡◌, ℕ, List, Option, Result, Ok, Err, refl, sym, ap, ◌∙◌, subst}
use Rattle.dm_syntax.specs.declared.parsing.Extent.TheVariants as extent
use Rattle.dm_syntax.proofs.Uniqueness.{says_one}
use Rattle.dm_schema.specs.Layout.{Layout}
use Rattle.dm_schema.specs.Names.{Text}
use Rattle.dm_ddl.specs.Statements.{statement_unless}
use Rattle.dm_dump.specs.declared.dump.Created.{Created}
use Rattle.dm_dump.specs.declared.fault.DumpFault.{DumpFault}
use Rattle.dm_dump.specs.declared.fault.DumpFault.TheVariants as dump
use Rattle.dm_dump.specs.declared.inserts.Inserts.{Inserts}
use Rattle.dm_dump.specs.declared.outline.Outline.{Outline}
use Rattle.dm_dump.specs.declared.outline.Span.{Span}
use Rattle.dm_dump.specs.Outlines.{HasOutline}
use Rattle.dm_dump.specs.Rows.{HasRows}
use Rattle.dm_dump.specs.Dumps.{OrMemory, bytes_in, created_by, SaysCreate}
use Rattle.dm_dump.proofs.Uniqueness.{has_one_outline, has_one_rows}
use Rattle.dm_snapshot.specs.Snapshots.{DumpReadings, AreDumpReadings, schema_by, schema_with, schema_in, create_place, rows_unless, inserts_in, AnswersFile}

-- The file of the CREATE TABLE.

pub schema_said : (r : DumpReadings) → AreDumpReadings r → (text : List ℕ) (outline : Outline) (span : Span) (created : Option Created) (answer : Result Layout DumpFault) → SaysCreate (bytes_in text span) created → AnswersFile answer (schema_by outline span created)
    → AnswersFile answer (schema_by outline span (created_by (r.statement (bytes_in text span))))
schema_said r are text outline span created answer (said, says, e) h =
    let bytes = bytes_in text span in
    let same : created ≡ created_by (r.statement bytes) = e ∙ ap created_by (says_one extent.Whole (statement_unless bytes) bytes said (r.statement bytes) says (are.statements bytes)) in
    let P : Option Created → Type 0 = λ c. AnswersFile answer (schema_by outline span c) in
    subst P same h

pub schema_outlined : (r : DumpReadings) → AreDumpReadings r → (text : List ℕ) (outline : Outline) (answer : Result Layout DumpFault) → HasOutline text outline → AnswersFile answer (schema_with r text outline) → AnswersFile answer (schema_in r text)
schema_outlined r are text outline answer has h =
    let P : Outline → Type 0 = λ o. AnswersFile answer (schema_with r text o) in subst P (has_one_outline text outline (r.outline text) has (are.outlines text)) h

-- A file of rows.

pub rows_said : (r : DumpReadings) → AreDumpReadings r → (text table : List ℕ) (layout : Layout) (outline : Outline) (rows answer : Result Inserts DumpFault) → HasOutline text outline → OrMemory (HasRows text table layout) rows
    → AnswersFile answer (rows_unless (create_place outline) rows) → (rows ≡ Err dump.Memory → answer ≡ Err dump.Memory) → AnswersFile answer (inserts_in r text table layout)
rows_said r are text table layout outline rows answer has read h memory = by rows read h memory where
  found : (x : Result Inserts DumpFault) → HasRows text table layout x → AnswersFile answer (rows_unless (create_place outline) x) → AnswersFile answer (inserts_in r text table layout)
  found x one here =
      let P : Outline → Type 0 = λ o. AnswersFile answer (rows_unless (create_place o) x) in
      let Q : Result Inserts DumpFault → Type 0 = λ y. AnswersFile answer (rows_unless (create_place (r.outline text)) y) in
      subst Q (has_one_rows text table layout x (r.inserts text table layout) one (are.rows text table layout)) (subst P (has_one_outline text outline (r.outline text) has (are.outlines text)) here)

  by : (x : Result Inserts DumpFault) → OrMemory (HasRows text table layout) x → AnswersFile answer (rows_unless (create_place outline) x) → (x ≡ Err dump.Memory → answer ≡ Err dump.Memory) → AnswersFile answer (inserts_in r text table layout)
  by (Ok inserts) one here lacks = found (Ok inserts) one here
  by (Err (dump.At at cause)) one here lacks = found (Err (dump.At at cause)) one here
  by (Err dump.Memory) one here lacks = let P : Result Inserts DumpFault → Type 0 = λ a. AnswersFile a (inserts_in r text table layout) in subst P (sym (lacks refl)) tt
