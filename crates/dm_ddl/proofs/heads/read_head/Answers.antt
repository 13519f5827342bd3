use Rattle.std.proofs.Common.{◌∙◌, ◌≡◌, Result, Ok, sym, ap}
use Rattle.dm_syntax.specs.declared.fault.DdlFault.{DdlFault}
use Rattle.dm_ddl.specs.declared.heads.Head.{Head}
use Rattle.dm_syntax.specs.declared.parsing.Extent.TheVariants as extent
use Rattle.dm_ddl.specs.Heads.{head_of, head_unless}
use Rattle.dm_syntax.proofs.Answering.{only_answer}
use Rattle.dm_ddl.proofs.heads.read_head.Goals as goal

pub returns-clause-each : goal.returns-clause-each
returns-clause-each c = λ head says.
    let text = c.args.text.now in
    let one = only_answer extent.Head text (head_unless text) c.in_ok-parsed.parsed.pieces.items c.in_ok-parsed.parsed.fault (λ pieces fault value e. absurd cc) c.in_ok-parsed.ensures.each head says in
    let found : ◌≡◌ {A = Result Head DdlFault} (Ok c.in_ok-head_of-in-None.field-0) (Ok (head_of text c.in_ok-parsed.parsed.pieces.items)) =
    ap (λ (h : Head). Ok h) (c.in_ok-head_of-in-None.ensures ∙ ap (head_of text) c.deref.ensures.value) in
    found ∙ sym one.1
