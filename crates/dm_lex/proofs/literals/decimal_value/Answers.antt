use Rattle.std.proofs.Common.{◌∙◌}
use Rattle.dm_lex.specs.Literals.{decimal_of}
use Rattle.dm_lex.proofs.FamilyLemmas.{none_fits}
use Rattle.dm_lex.proofs.literals.decimal_value.Goals as goal

pub returns-in_err-decimal_of : goal.returns-in_err-decimal_of
returns-in_err-decimal_of c =
    c.from_residual.ensures ∙ none_fits c.args.kind (decimal_of c.args.scale c.args.minus c.args.bytes.now) c.requires c.in_err-decimal_of.ensures
