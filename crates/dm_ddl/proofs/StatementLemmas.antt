-- What a statement's pieces say up to a fault.
use Rattle.std.proofs.Common.{◌≡◌, Bool, true, false, cond, List, [], Option, Some, None, Result, Ok, Err, IfOk, refl, ℕ, IsTrue}
use Rattle.std.specs.Prelude.{⊤, MatchBool}
use Rattle.std.specs.List.{list_any}
use Rattle.dm_list.specs.Answer.{Answers}
use Rattle.dm_schema.specs.Layout.{Layout}
use Rattle.dm_schema.specs.declared.fault.SchemaFault.{SchemaFault}
use Rattle.dm_schema.specs.declared.fault.SchemaFault.TheVariants as schema_fault
use Rattle.dm_syntax.specs.declared.fault.DdlFault.{DdlFault}
use Rattle.dm_syntax.specs.declared.fault.DdlFault.TheVariants as fault
use Rattle.dm_syntax.specs.declared.piece.Piece.{Piece}
use Rattle.dm_syntax.specs.declared.role.TheConstants as role
use Rattle.dm_ddl.specs.declared.statements.Statement.{Statement}
use Rattle.dm_ddl.specs.declared.statements.Statement.TheVariants as statement
use Rattle.dm_syntax.specs.Pieces.{has_role}
use Rattle.dm_ddl.specs.Names.{first_table}
use Rattle.dm_ddl.specs.Bounds.{items_of, first_excess}
use Rattle.dm_ddl.specs.Columns.{is_unfit}
use Rattle.dm_ddl.specs.Creating.{schema_in}
use Rattle.dm_ddl.specs.Altering.{changes_in}
use Rattle.dm_syntax.specs.Parsing.{is_memory, made}
use Rattle.dm_ddl.specs.Statements.{alters, create_of, alter_of, statement_of, unless_excess, unless_fault, statement_unless, are_changes}
use Rattle.dm_syntax.proofs.Answering.{IsStrict}
use Rattle.dm_ddl.proofs.Definitions.{changes_formed}

pub statement_strict : (text : List ℕ) → IsStrict (statement_unless text)
statement_strict text pieces f value e = by (first_excess text (items_of pieces)) e where
  by : (o : Option Piece) → Ok value ≡ unless_excess o (unless_fault (Some f) (statement_of text pieces)) → ⊥
  by (Some p) e = absurd cc
  by None e = absurd cc

-- a schema that can't be made is the statement's fault
pub create_fails : (text : List ℕ) (pieces : List Piece) (e : DdlFault) (s : Result Layout SchemaFault) → Answers {T = Layout} is_memory (Err e) (made s) → MatchBool (is_memory e) ⊤ (Err e ≡ create_of text pieces s)
create_fails text pieces e s h = by (is_memory e) s h where
  by : (m : Bool) (s : Result Layout SchemaFault) → MatchBool m ⊤ (◌≡◌ {A = Result Layout DdlFault} (Err e) (made s)) → MatchBool m ⊤ (◌≡◌ {A = Result Statement DdlFault} (Err e) (create_of text pieces s))
  by true s h = tt
  by false (Ok schema) h = absurd cc
  by false (Err f) h = cc

-- the changes of a statement are such of which schemas can be made
formed_of : (text : List ℕ) (pieces : List Piece) (v : Statement) → first_excess text (items_of pieces) ≡ None → Ok v ≡ statement_of text pieces → are_changes v ≡ true
formed_of text pieces v none e = which (has_role role.CREATE_TABLE pieces) (alters pieces) e where
  created : (r : Result Layout SchemaFault) → Ok v ≡ create_of text pieces r → are_changes v ≡ true
  created (Ok schema) e = let same : v ≡ statement.Create (first_table text pieces) schema (has_role role.EXISTS pieces) = cc in rw same refl
  created (Err f) e = absurd cc

  altered : (t : Bool) → Ok v ≡ cond t (Err (fault.Made schema_fault.DefaultUnfit)) (Ok (statement.Alter (first_table text pieces) (changes_in text (items_of pieces)))) → are_changes v ≡ true
  altered true e = absurd cc
  altered false e =
      let same : v ≡ statement.Alter (first_table text pieces) (changes_in text (items_of pieces)) = cc in
      rw same (changes_formed text (items_of pieces) none)

  which : (t u : Bool) → Ok v ≡ cond t (create_of text pieces (schema_in text (items_of pieces))) (cond u (alter_of text pieces) (Ok statement.Other)) → are_changes v ≡ true
  which true u e = created (schema_in text (items_of pieces)) e
  which false true e = altered (list_any (is_unfit text []) (items_of pieces)) e
  which false false e = let same : v ≡ statement.Other = cc in rw same refl

formed_unless : (text : List ℕ) (pieces : List Piece) (fault : Option DdlFault) (v : Statement) → Ok v ≡ statement_unless text pieces fault → are_changes v ≡ true
formed_unless text pieces fault v e = by (first_excess text (items_of pieces)) refl fault e where
  by : (o : Option Piece) → first_excess text (items_of pieces) ≡ o → (f : Option DdlFault) → Ok v ≡ unless_excess o (unless_fault f (statement_of text pieces)) → are_changes v ≡ true
  by (Some p) none f e = absurd cc
  by None none (Some f) e = absurd cc
  by None none None e = formed_of text pieces v none e

pub statement_formed : (text : List ℕ) (pieces : List Piece) (fault : Option DdlFault) (r : Result Statement DdlFault) → Answers is_memory r (statement_unless text pieces fault)
    → IfOk r (λ v. IsTrue (are_changes v))
statement_formed text pieces fault (Ok v) h = formed_unless text pieces fault v h
statement_formed text pieces fault (Err e) h = tt
