-- What statements say is one thing for each text.
use Rattle.std.proofs.Common.{◌≡◌, ℕ, false, List, Result, Err, ap, ◌∙◌}
use Rattle.dm_syntax.specs.declared.fault.DdlFault.{DdlFault}
use Rattle.dm_syntax.specs.declared.parsing.Extent.TheVariants as extent
use Rattle.dm_syntax.specs.Parsing.{OrMemory, Says, is_memory}
use Rattle.dm_syntax.proofs.Uniqueness.{said, says_said, says_one}
use Rattle.dm_ddl.specs.declared.statements.Statement.{Statement}
use Rattle.dm_ddl.specs.Statements.{statement_unless}
use Rattle.dm_stream.specs.declared.cause.BadCause.{BadCause}
use Rattle.dm_stream.specs.Causes.{ddl_cause}
use Rattle.dm_stream.specs.Logs.{Logged}
use Rattle.dm_walk.specs.declared.track.Track.{Track}
use Rattle.dm_walk.specs.Walks.{AreStatements, Statements, altered, ended}

-- There are statements: each text says something.
pub the_statements : Statements
the_statements text = said extent.Whole (statement_unless text) text

pub statements_are : AreStatements the_statements
unfolding the_statements
statements_are text = says_said extent.Whole (statement_unless text) text

pub statement_says : (statements : Statements) (text : List ℕ) (answer : Result Statement DdlFault) → AreStatements statements → Says extent.Whole (statement_unless text) text answer → answer ≡ statements text
statement_says statements text answer are says = says_one extent.Whole (statement_unless text) text answer (statements text) says (are text)

-- a statement that can't be read ends a history
pub alter_fails : (statements : Statements) (e : Logged) (text : List ℕ) (fault : DdlFault) (bad : BadCause) (t new : Track) → AreStatements statements → is_memory fault ≡ false
    → OrMemory (Says extent.Whole (statement_unless text) text) (Err fault) → bad ≡ ddl_cause fault → new ≡ ended bad e t → new ≡ altered e (statements text) t
alter_fails statements e text fault bad t new are known answers bad_is new_is =
    let says : Says extent.Whole (statement_unless text) text (Err fault) = rw known at answers in
    let is : Err fault ≡ statements text = statement_says statements text (Err fault) are says in
    rw (← is) (new_is ∙ ap (λ (cause : BadCause). ended cause e t) bad_is)
