use Rattle.std.proofs.Common.{◌∙◌, ap, sym, Option, None}
use Rattle.dm_grammar.specs.Rests.{left}
use Rattle.dm_lex.specs.Tokens.{lexed}
use Rattle.dm_dump.specs.declared.fault.Fault.{Fault}
use Rattle.dm_dump.specs.Streams.{ended}
use Rattle.dm_dump.proofs.Stream.{tokens_ended}
use Rattle.dm_dump.proofs.source.Source.read_token.Goals as goal

pub returns-in-Ok-None-clause-reads : goal.returns-in-Ok-None-clause-reads
returns-in-Ok-None-clause-reads c =
    let s = c.args.self.now in
    let gives = rw c.in-Ok-None.field-0-is at c.in-Ok-None.ensures.gives in
    tokens_ended s.text.now s.begun (lexed s.lexer) (left s.reader) None gives.0 ∙ ap (λ (f : Option Fault). ended f) (sym c.ended.ensures)
