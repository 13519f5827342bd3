use Rattle.std.proofs.Common.{◌∙◌, ap, None}
use Rattle.dm_grammar.specs.Rests.{left}
use Rattle.dm_lex.specs.Tokens.{LexerState, lexed}
use Rattle.dm_dump.specs.Streams.{contents_from}
use Rattle.dm_dump.proofs.Stream.{begins_as}
use Rattle.dm_dump.proofs.source.Source.new.Goals as goal

pub returns-clause-contents : goal.returns-clause-contents
returns-clause-contents c =
    let text = c.args.text.now in
    let reader = left c.in_ok-new.field-0 in
    ap (λ (s : LexerState). contents_from text None (lexed s) reader) c.new.ensures ∙ begins_as text (lexed (record { text = text; at = 0 })) reader c.in_ok-new.ensures
