use Rattle.std.proofs.Common.{sym, ◌∙◌, ap, subst}
use Rattle.std.proofs.lemmas.Result.{IfOk-weaker}
use Rattle.dm_grammar.specs.Meaning.{meaning}
use Rattle.dm_grammar.specs.Reading.{Outcome}
use Rattle.dm_grammar.proofs.Exact.{Reads, ready_reads, ready_sentence}
use Rattle.dm_grammar.proofs.reader.read.Goals as goal

pub returns-clause-exact : goal.returns-clause-exact
returns-clause-exact g c =
    let grammar = meaning c.args.grammar.now in
    IfOk-weaker c.run.result _ _
    (λ reading h. subst (λ (z : Outcome). Reads g.C.Classes.has grammar c.args.kinds.now z) (sym h) (ready_reads g.C.Classes.has grammar c.args.kinds.now c.requires.kinds c.requires.ready))
    c.run.ensures

pub returns-clause-each_sentence : goal.returns-clause-each_sentence
returns-clause-each_sentence g c = λ roles sentence.
    let read = ready_sentence g.C.Classes.has (meaning c.args.grammar.now) c.args.kinds.now roles c.requires.kinds c.requires.ready sentence in
    IfOk-weaker c.run.result _ _ (λ reading h. (ap (λ (z : Outcome). z.0) (h ∙ read), ap (λ (z : Outcome). z.1) (h ∙ read))) c.run.ensures
