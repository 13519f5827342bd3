use Rattle.std.proofs.Common.{◌∙◌, ap}
use Rattle.dm_syntax.specs.Words.{key_words, terminal_among}
use Rattle.dm_syntax.proofs.words.terminal_of_word.Goals as goal

pub returns : goal.returns
returns c = c.terminal_among.ensures ∙ ap (terminal_among key_words) (c.deref.ensures.value ∙ c.in_ok-word.ensures)
