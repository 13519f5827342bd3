use Rattle.std.proofs.Common.{List, ◌++◌, ◌∷◌, [], ◌∙◌, ap}
use Rattle.dm_grammar.specs.Determinism.{sequence}
use Rattle.dm_grammar.specs.Meaning.{meaning, rests_of}
use Rattle.dm_grammar.specs.Reading.{read_from}
use Rattle.dm_grammar.specs.declared.stack.Pending.{Pending}
use Rattle.dm_grammar.specs.declared.stack.Pending.TheVariants.{Rule}
use Rattle.dm_grammar.proofs.Prepend.{read_from-empty_first}
use Rattle.dm_grammar.proofs.reader.Reader.new.Goals as goal

pub returns : goal.returns
returns c = λ has kinds.
    ap (λ (z : List Pending). read_from has kinds (sequence (rests_of z))) c.in_ok-push.ensures.items
    ∙ ap (λ (z : List Pending). read_from has kinds (sequence (rests_of (z ++ Rule c.args.grammar ∷ [])))) c.new-stack.ensures.items
    ∙ read_from-empty_first has kinds (meaning c.args.grammar.now)
