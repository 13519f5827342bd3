use Rattle.std.proofs.Common.{rules}
use Rattle.dm_schema.proofs.Texts.{characters_are_counted}
use Rattle.dm_schema.proofs.fitting.fits_text.Goals as goal

pub returns-then-is_text : goal.returns-then-is_text
returns-then-is_text c =
    rw (characters_are_counted c.args.bytes.now, ← c.is_text.ensures, c.if-is_text.true, c.characters.ensures, c.from.ensures) (search rules)
