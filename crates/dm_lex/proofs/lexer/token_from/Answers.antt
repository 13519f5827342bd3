use Rattle.std.proofs.Common.{◌∙◌, sym, arith}
use Rattle.dm_lex.specs.declared.lexeme.Lexeme.TheVariants.{Gap, Piece, Open, NotHex}
use Rattle.dm_lex.proofs.TokenLemmas.{next_lexeme, at_end}
use Rattle.dm_lex.proofs.lexer.token_from.Goals as goal

pub loop-from-preserved : goal.loop-from-preserved
loop-from-preserved c =
    let read = next_lexeme (Gap c.in-Gap.length) c.args.text.now c.loop-from.from c.loop-from-test.true c.in-Gap.ensures.value in
    (sym read ∙ c.loop-from.invariant.0, omega (arith, c.loop-from.invariant.1), omega (arith, c.in-Gap.ensures.within.1))

pub returns-in-Piece : goal.returns-in-Piece
returns-in-Piece c =
    let read = next_lexeme (Piece c.in-Piece.kind c.in-Piece.length) c.args.text.now c.loop-from.from c.loop-from-test.true c.in-Piece.ensures.value in
    (sym c.loop-from.invariant.0 ∙ read, c.loop-from.invariant.1, omega (arith, c.in-Piece.ensures.within.0), c.in-Piece.ensures.within.1)

pub returns-in-Open : goal.returns-in-Open
returns-in-Open c = sym c.loop-from.invariant.0 ∙ next_lexeme Open c.args.text.now c.loop-from.from c.loop-from-test.true c.in-Open.ensures.value

pub returns-in-NotHex : goal.returns-in-NotHex
returns-in-NotHex c = sym c.loop-from.invariant.0 ∙ next_lexeme NotHex c.args.text.now c.loop-from.from c.loop-from-test.true c.in-NotHex.ensures.value

pub returns : goal.returns
returns c = sym c.loop-from.invariant.0 ∙ at_end c.args.text.now c.loop-from.from c.loop-from-test.false
