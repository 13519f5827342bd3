use Rattle.std.proofs.Common.{refl}
use Rattle.std.proofs.lemmas.Bool.{eq-eqb, ne_eqb}
use Rattle.dm_grammar.specs.Rests.{left}
use Rattle.dm_lex.specs.Tokens.{lexed}
use Rattle.dm_dump.proofs.Stream.{piece_taken, token_refused, token_unsupported}
use Rattle.dm_dump.proofs.source.Source.take.Goals as goal

pub returns-in-None-clause-reads : goal.returns-in-None-clause-reads
returns-in-None-clause-reads c =
    let s = c.args.self.now in
    token_refused s.text.now s.begun c.args.token (lexed s.lexer) (left s.reader) (left c.take.new.self) c.in_ok-take.field-0 c.terminal_of-kind.result _ c.terminal_of-kind.ensures c.in_ok-take.ensures c.in-None.is c.stopped.ensures.value

pub returns-in-Some-eq0-clause-reads : goal.returns-in-Some-eq0-clause-reads
returns-in-Some-eq0-clause-reads c =
    let s = c.args.self.now in
    token_unsupported s.text.now s.begun c.args.token (lexed s.lexer) (left s.reader) (left c.take.new.self) c.in_ok-take.field-0 c.terminal_of-kind.result c.in-Some-eq0.field-0 _ c.terminal_of-kind.ensures c.in_ok-take.ensures c.in-Some-eq0.is
    (eq-eqb c.in-Some-eq0.field-0 0 c.in-Some-eq0.field-0-test) c.stopped-in-Some-eq0.ensures.value

pub returns-in-Some-clause-reads : goal.returns-in-Some-clause-reads
returns-in-Some-clause-reads c =
    let s = c.args.self.now in (
      piece_taken s.text.now s.begun c.begun_behind-self.result c.args.token (lexed s.lexer) (left s.reader) (left c.take.new.self) c.in_ok-take.field-0 c.terminal_of-kind.result c.in-Some.role c.terminal_of-kind.ensures c.in_ok-take.ensures c.in-Some.is
          (ne_eqb c.in-Some.role 0 c.in-Some.role-test.1) c.begun_behind-self.ensures,
      refl,
    )
