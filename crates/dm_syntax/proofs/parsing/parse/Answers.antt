use Rattle.std.proofs.Common.{◌∙◌, ◌≡◌, List, Result, Ok, sym, ap}
use Rattle.dm_lex.specs.declared.token.Token.{Token}
use Rattle.dm_lex.specs.declared.token.LexFault.{LexFault}
use Rattle.dm_lex.specs.Tokens.{tokens_of}
use Rattle.dm_syntax.proofs.Terminals.{kinds_small}
use Rattle.dm_syntax.proofs.Answering.{each_is_parsed, same_pieces}
use Rattle.dm_syntax.proofs.parsing.parse.Goals as goal

pub read-requires : goal.read-requires
read-requires c = rw (c.deref.ensures.value, c.in_ok-kinds.ensures) (kinds_small c.args.text.now c.as_slice-tokens.result.now)

pub returns-clause-each : goal.returns-clause-each
returns-clause-each c =
    let tokens = c.as_slice-tokens.result.now in
    let lexed : ◌≡◌ {A = Result (List Token) LexFault} (Ok tokens) (tokens_of c.args.text.now) = ap (λ (ts : List Token). Ok ts) c.as_slice-tokens.ensures ∙ c.in_ok-lexed.ensures in
    each_is_parsed c.args.extent c.args.text.now tokens c.deref.result.now c.in_ok-reading.reading.roles.items c.in_ok-reading.reading.fault c.in_ok-pieces.pieces.items c.placed_if-fault.result
    lexed (c.deref.ensures.value ∙ c.in_ok-kinds.ensures) c.in_ok-reading.ensures.each
    (c.in_ok-pieces.ensures ∙ same_pieces tokens c.deref.result.now c.deref-2.result.now _ c.deref-3.result.now (c.deref-2.ensures.value ∙ sym c.deref.ensures.value) c.deref-3.ensures.value)
    c.placed_if-fault.ensures
