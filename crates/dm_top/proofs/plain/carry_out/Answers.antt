use Rattle.std.proofs.Common.{List, All, sym, subst}
use Rattle.std.specs.Str.{IsUtf8}
use Rattle.dm_schema.specs.Names.{Text}
use Rattle.dm_words.specs.declared.order.Order.{Order}
use Rattle.dm_words.specs.Words.{files_of}
use Rattle.dm_top.proofs.plain.carry_out.Goals as goal

pub load-requires : goal.load-requires
load-requires g c =
    subst (λ (names : List Text). All IsUtf8 names) (sym c.as_slice.ensures) (subst (λ (order : Order). All IsUtf8 (files_of order)) c.in-Load.is c.requires)
