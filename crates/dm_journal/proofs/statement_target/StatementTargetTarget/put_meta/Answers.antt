use Rattle.std.proofs.Common.{List, Some, ap, subst, ◌∙◌}
use Rattle.dm_target.specs.declared.call.Meta.{Meta}
use Rattle.dm_target.specs.declared.call.Call.TheVariants as call
use Rattle.dm_target.specs.Memory.{content_of}
use Rattle.dm_target.specs.Writing.{Writes}
use Rattle.dm_journal.specs.declared.parts.Parts.{Parts}
use Rattle.dm_journal.specs.Journaled.{call_text, held, is_full}
use Rattle.dm_journal.proofs.Appending.{wrote_for}
use Rattle.dm_journal.proofs.statement_target.StatementTargetTarget.put_meta.Goals as goal

pub returns-clause-written : goal.returns-clause-written
returns-clause-written g c =
    let wrote =
    wrote_for (λ done. is_full c.self.inside.parts.size (call_text (content_of c.self.inside.parts.kept) done)) (call.Metas c.in_ok-copy_metas.field-0) (call.Metas c.args.pairs.now) c.deref.result.now (call_text (content_of c.self.inside.parts.kept) (call.Metas c.args.pairs.now))
    (g.J.Journal.bytes c.self.inside.parts.journal) (held (g.J.Journal.bytes c.self.inside.parts.journal) c.self.inside.parts.kept c.self.inside.parts.doubt) (g.J.Journal.bytes c.write.new.self.journal) c.write.new.self.kept c.write.new.self.doubt c.write.result
    (ap (λ (pairs : List Meta). call.Metas pairs) c.in_ok-copy_metas.ensures)
    (c.deref.ensures.value ∙ c.in_ok-text.ensures.text)
    c.write.ensures.wrote in
    subst (λ (p : Parts _). Writes (call.Metas c.args.pairs.now) (λ done. is_full p.size (call_text (content_of p.kept) done)) (Some (content_of (held (g.J.Journal.bytes p.journal) p.kept p.doubt))) (Some (content_of (held (g.J.Journal.bytes c.write.new.self.journal) c.write.new.self.kept c.write.new.self.doubt))) c.write.result) c.self.view_is
    wrote.written

pub returns-clause-whole : goal.returns-clause-whole
returns-clause-whole g c =
    let wrote =
    wrote_for (λ done. is_full c.self.inside.parts.size (call_text (content_of c.self.inside.parts.kept) done)) (call.Metas c.in_ok-copy_metas.field-0) (call.Metas c.args.pairs.now) c.deref.result.now (call_text (content_of c.self.inside.parts.kept) (call.Metas c.args.pairs.now))
    (g.J.Journal.bytes c.self.inside.parts.journal) (held (g.J.Journal.bytes c.self.inside.parts.journal) c.self.inside.parts.kept c.self.inside.parts.doubt) (g.J.Journal.bytes c.write.new.self.journal) c.write.new.self.kept c.write.new.self.doubt c.write.result
    (ap (λ (pairs : List Meta). call.Metas pairs) c.in_ok-copy_metas.ensures)
    (c.deref.ensures.value ∙ c.in_ok-text.ensures.text)
    c.write.ensures.wrote in
    rw (← c.self.view_is) wrote.whole

pub returns-clause-appends : goal.returns-clause-appends
returns-clause-appends g c =
    let wrote =
    wrote_for (λ done. is_full c.self.inside.parts.size (call_text (content_of c.self.inside.parts.kept) done)) (call.Metas c.in_ok-copy_metas.field-0) (call.Metas c.args.pairs.now) c.deref.result.now (call_text (content_of c.self.inside.parts.kept) (call.Metas c.args.pairs.now))
    (g.J.Journal.bytes c.self.inside.parts.journal) (held (g.J.Journal.bytes c.self.inside.parts.journal) c.self.inside.parts.kept c.self.inside.parts.doubt) (g.J.Journal.bytes c.write.new.self.journal) c.write.new.self.kept c.write.new.self.doubt c.write.result
    (ap (λ (pairs : List Meta). call.Metas pairs) c.in_ok-copy_metas.ensures)
    (c.deref.ensures.value ∙ c.in_ok-text.ensures.text)
    c.write.ensures.wrote in
    rw (← c.self.view_is) wrote.appends
