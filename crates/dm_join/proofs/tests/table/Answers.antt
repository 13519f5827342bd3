use Rattle.std.proofs.Common.{ap, ◌∙◌, [], ◌∷◌}
use Rattle.dm_join.proofs.JoinAnswers.{made_primary}
use Rattle.dm_join.proofs.tests.table.Goals as goal

pub returns : goal.returns
returns c =
    made_primary c.in_ok-columns.columns.items c.new-primary.result c.new.result.items c.in-Ok.table c.in-Ok.ensures ∙ c.new-primary.ensures ∙ c.in_ok-vec.ensures.items ∙ ap (λ n. n ∷ []) c.in_ok-name.ensures
