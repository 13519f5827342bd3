use Rattle.std.proofs.Common.{◌∙◌, sym, true, false}
use Rattle.dm_lex.proofs.ClosingLemmas.{quoted_hex_closed}
use Rattle.dm_lex.proofs.lexeme.quoted_hex.Goals as goal

pub returns-then-is_hex : goal.returns-then-is_hex
returns-then-is_hex c = quoted_hex_closed c.args.behind.now c.in-Some.end true (sym c.in-Some.is ∙ c.place_of_quote.ensures) c.if-is_hex.ensures

pub returns-else-is_hex : goal.returns-else-is_hex
returns-else-is_hex c = quoted_hex_closed c.args.behind.now c.in-Some.end false (sym c.in-Some.is ∙ c.place_of_quote.ensures) c.if-is_hex.ensures
