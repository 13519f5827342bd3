use Rattle.std.proofs.Common.{◌≡◌, ◌∙◌, sym, ap, subst, List, Result, Ok}
use Rattle.dm_list.specs.Answer.{Answers}
use Rattle.dm_syntax.specs.declared.fault.DdlFault.{DdlFault}
use Rattle.dm_syntax.specs.declared.parsing.Extent.TheVariants as extent
use Rattle.dm_syntax.specs.declared.piece.Piece.{Piece}
use Rattle.dm_ddl.specs.declared.statements.Statement.{Statement}
use Rattle.dm_syntax.specs.Parsing.{is_memory}
use Rattle.dm_ddl.specs.Statements.{statement_unless}
use Rattle.dm_syntax.proofs.Answering.{only_answer, says_as}
use Rattle.dm_ddl.proofs.StatementLemmas.{statement_strict, statement_formed}
use Rattle.dm_ddl.proofs.statements.read_statement.Goals as goal

pub returns-clause-exact : goal.returns-clause-exact
returns-clause-exact c =
    let text = c.args.text.now in
    let parsed = c.in_ok-parsed.parsed in
    says_as extent.Whole text (statement_unless text) parsed.pieces.items parsed.fault c.statement_unless.result c.in_ok-parsed.ensures.exact
    (subst (λ (ps : List Piece). Answers is_memory c.statement_unless.result (statement_unless text ps parsed.fault)) c.deref.ensures.value c.statement_unless.ensures)

pub returns-clause-each : goal.returns-clause-each
returns-clause-each c = λ statement says.
    let text = c.args.text.now in
    let parsed = c.in_ok-parsed.parsed in
    let one = only_answer extent.Whole text (statement_unless text) parsed.pieces.items parsed.fault (statement_strict text) c.in_ok-parsed.ensures.each statement says in
    let same : ◌≡◌ {A = Result Statement DdlFault} (statement_unless text c.deref.result.now parsed.fault) (Ok statement) =
    ap (λ (ps : List Piece). statement_unless text ps parsed.fault) c.deref.ensures.value ∙ ap (statement_unless text parsed.pieces.items) one.0 ∙ sym one.1 in
    subst (λ (x : Result Statement DdlFault). Answers is_memory c.statement_unless.result x) same c.statement_unless.ensures

pub returns-clause-formed : goal.returns-clause-formed
returns-clause-formed c = statement_formed c.args.text.now c.deref.result.now c.in_ok-parsed.parsed.fault c.statement_unless.result c.statement_unless.ensures
