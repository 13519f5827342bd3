use Rattle.std.proofs.lemmas.Result.{IfOk-weaker}
use Rattle.dm_grammar.specs.Determinism.{sequence}
use Rattle.dm_grammar.specs.Meaning.{rests_of}
use Rattle.dm_grammar.proofs.Prepend.{Steps-takes}
use Rattle.dm_grammar.proofs.reader.Reader.take.Goals as goal

pub returns : goal.returns
returns g c =
    IfOk-weaker c.step.result _ _
    (λ taken h. Steps-takes g.C.Classes.has c.args.kind (sequence (rests_of c.args.self.now.stack.items)) taken (rests_of c.step.new.stack.items) h)
    c.step.ensures
