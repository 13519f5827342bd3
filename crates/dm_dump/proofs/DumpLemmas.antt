-- What is answered is what the text says, or there was no memory.
use Rattle.std.proofs.Common.{◌≡◌, ℕ, List, [], fold, Option, Some, Result, Ok, Err, IfOk, refl, sym, ap, ◌∙◌, subst}
use Rattle.std.specs.Prelude.{IfErr}
use Rattle.dm_schema.specs.declared.column.Column.{Column}
use Rattle.dm_schema.specs.Layout.{Layout}
use Rattle.dm_syntax.specs.declared.fault.DdlFault.{DdlFault}
use Rattle.dm_syntax.specs.declared.fault.DdlFault.TheVariants as ddl
use Rattle.dm_syntax.specs.declared.parsing.Extent.TheVariants as extent
use Rattle.dm_syntax.specs.declared.piece.Piece.{Piece}
use Rattle.dm_syntax.specs.Parsing.{Says}
use Rattle.dm_syntax.specs.Parsing as parsing
use Rattle.dm_ddl.specs.declared.statements.Statement.{Statement}
use Rattle.dm_ddl.specs.Statements.{statement_unless}
use Rattle.dm_dump.specs.declared.fault.Fault.{Fault}
use Rattle.dm_dump.specs.declared.fault.DumpFault.{DumpFault}
use Rattle.dm_dump.specs.declared.fault.DumpFault.TheVariants as fault
use Rattle.dm_dump.specs.declared.outline.Span.{Span}
use Rattle.dm_dump.specs.declared.outline.Outline.{Outline}
use Rattle.dm_dump.specs.declared.inserts.Inserts.{Inserts}
use Rattle.dm_dump.specs.declared.dump.Dump.{Dump}
use Rattle.dm_dump.specs.declared.dump.Created.{Created}
use Rattle.dm_dump.specs.Reading.{Contents}
use Rattle.dm_dump.specs.Streams.{all_contents}
use Rattle.dm_dump.specs.Units.{units}
use Rattle.dm_dump.specs.Outlines.{least, second_place, second_create, HasOutline}
use Rattle.dm_dump.specs.Rows.{Gathered, with_unit, gathered, unless_inserts, rows_of, HasRows}
use Rattle.dm_dump.specs.Dumps.{OrMemory, bytes_in, created_or_memory, SaysCreate, dump_of, HasTable, DumpBy, DumpWith, IsDump}
use Rattle.dm_dump.proofs.Stream.{has_all_contents}

pub at_memory : {A : Type 0} (Holds : Result A DumpFault → Type 0) (e : DumpFault) → e ≡ fault.Memory → OrMemory Holds (Err e)
at_memory {A} Holds e same = let P : DumpFault → Type 0 = λ f. OrMemory {A = A} Holds (Err f) in subst P (sym same) tt

-- Rows.

pub rows_end : (text table : List ℕ) (columns : List Column) (g : Gathered) (left : Contents) (total : Gathered) → left.pieces ≡ [] → fold (with_unit text table columns) g (units left.pieces) ≡ total → g ≡ total
rows_end text table columns g left total none so_far = ap (λ (ps : List Piece). fold (with_unit text table columns) g (units ps)) (sym none) ∙ so_far

has_rows : (text table : List ℕ) (layout : Layout) (r : Result Inserts DumpFault) → r ≡ rows_of text table layout (all_contents text) → OrMemory (HasRows text table layout) r
has_rows text table layout (Ok v) e = (all_contents text, has_all_contents text, e)
has_rows text table layout (Err fault.Memory) e = tt
has_rows text table layout (Err (fault.At at cause)) e = (all_contents text, has_all_contents text, e)

pub rows_read : (text table : List ℕ) (layout : Layout) (columns : List Column) (g : Gathered) (ending : Option Fault) (r : Result Inserts DumpFault) → columns ≡ layout.columns
    → g ≡ gathered text table columns (units (all_contents text).pieces)
    → ending ≡ least (second_create (second_place (units (all_contents text).pieces))) (all_contents text).ending → r ≡ unless_inserts g ending → OrMemory (HasRows text table layout) r
rows_read text table layout columns g ending r same rows last e =
    has_rows text table layout r
    (e ∙ ap (λ (x : Gathered). unless_inserts x ending) (rows ∙ ap (λ (cs : List Column). gathered text table cs (units (all_contents text).pieces)) same)
    ∙ ap (unless_inserts (gathered text table layout.columns (units (all_contents text).pieces))) last)

-- The CREATE TABLE.

pub create_said : (text : List ℕ) (said : Result Statement DdlFault) (r : Result (Option Created) DumpFault) → parsing.OrMemory (Says extent.Whole (statement_unless text) text) said → r ≡ created_or_memory said
    → IfOk r (λ created. SaysCreate text created)
create_said text (Ok s) r says e = let P : Result (Option Created) DumpFault → Type 0 = λ x. IfOk x (λ created. SaysCreate text created) in subst P (sym e) (Ok s, says, refl)
create_said text (Err ddl.Memory) r says e = let P : Result (Option Created) DumpFault → Type 0 = λ x. IfOk x (λ created. SaysCreate text created) in subst P (sym e) tt
create_said text (Err (ddl.Lex at)) r says e = let P : Result (Option Created) DumpFault → Type 0 = λ x. IfOk x (λ created. SaysCreate text created) in subst P (sym e) (Err (ddl.Lex at), says, refl)
create_said text (Err (ddl.Syntax at)) r says e = let P : Result (Option Created) DumpFault → Type 0 = λ x. IfOk x (λ created. SaysCreate text created) in subst P (sym e) (Err (ddl.Syntax at), says, refl)
create_said text (Err (ddl.Unsupported at)) r says e = let P : Result (Option Created) DumpFault → Type 0 = λ x. IfOk x (λ created. SaysCreate text created) in subst P (sym e) (Err (ddl.Unsupported at), says, refl)
create_said text (Err (ddl.Made f)) r says e = let P : Result (Option Created) DumpFault → Type 0 = λ x. IfOk x (λ created. SaysCreate text created) in subst P (sym e) (Err (ddl.Made f), says, refl)

pub create_lacks : (said : Result Statement DdlFault) (r : Result (Option Created) DumpFault) → r ≡ created_or_memory said → IfErr r (λ f. f ≡ fault.Memory)
create_lacks said (Ok c) e = tt
create_lacks (Ok s) (Err f) e = absurd cc
create_lacks (Err ddl.Memory) (Err f) e = cc
create_lacks (Err (ddl.Lex at)) (Err f) e = absurd cc
create_lacks (Err (ddl.Syntax at)) (Err f) e = absurd cc
create_lacks (Err (ddl.Unsupported at)) (Err f) e = absurd cc
create_lacks (Err (ddl.Made x)) (Err f) e = absurd cc

-- The dump.

pub table_read : (text : List ℕ) (early : Option Fault) (created : Created) (rows : Result Inserts DumpFault) (r : Result Dump DumpFault) → OrMemory (HasRows text created.table created.schema) rows → r ≡ dump_of early created rows
    → OrMemory (HasTable text early created) r
table_read text early created rows (Err fault.Memory) h e = tt
table_read text early created (Ok inserts) (Ok d) h e = (Ok inserts, h, e)
table_read text early created (Ok inserts) (Err (fault.At at cause)) h e = (Ok inserts, h, e)
table_read text early created (Err fault.Memory) (Ok d) h e = absurd cc
table_read text early created (Err fault.Memory) (Err (fault.At at cause)) h e = absurd cc
table_read text early created (Err (fault.At place why)) (Ok d) h e = (Err (fault.At place why), h, e)
table_read text early created (Err (fault.At place why)) (Err (fault.At at cause)) h e = (Err (fault.At place why), h, e)

pub dump_read : (text : List ℕ) (outline : Outline) (span : Span) (created : Option Created) (r : Result Dump DumpFault) → SaysCreate (bytes_in text span) created → OrMemory (DumpBy text outline span created) r
    → OrMemory (DumpWith text outline (Some span)) r
dump_read text outline span created (Ok d) says h = (created, says, h)
dump_read text outline span created (Err fault.Memory) says h = tt
dump_read text outline span created (Err (fault.At at cause)) says h = (created, says, h)

pub is_dump : (text : List ℕ) (outline : Outline) (r : Result Dump DumpFault) → HasOutline text outline → OrMemory (DumpWith text outline outline.create) r → OrMemory (IsDump text) r
is_dump text outline (Ok d) has h = (outline, has, h)
is_dump text outline (Err fault.Memory) has h = tt
is_dump text outline (Err (fault.At at cause)) has h = (outline, has, h)
