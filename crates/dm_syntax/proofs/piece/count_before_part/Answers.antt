use Rattle.std.proofs.Common.{◌∙◌, ap, length, unwrap_or}
use Rattle.dm_syntax.proofs.PartsLemmas.{first_or_all}
use Rattle.dm_syntax.proofs.piece.count_before_part.Goals as goal

pub returns-clause-count : goal.returns-clause-count
returns-clause-count c =
    c.unwrap_or.ensures ∙ ap (λ o. unwrap_or o (length c.args.pieces.now)) c.place_of_part.ensures ∙ first_or_all _ c.args.pieces.now
