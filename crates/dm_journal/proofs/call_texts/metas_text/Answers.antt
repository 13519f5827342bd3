use Rattle.std.proofs.Common.{◌≡◌, rules}
use Rattle.dm_target.specs.Memory.{content_of}
use Rattle.dm_target.specs.declared.call.Call.TheVariants as call
use Rattle.dm_journal.specs.Journaled.{call_text}
use Rattle.dm_journal.proofs.CallTexts.{metas_does}
use Rattle.dm_journal.proofs.call_texts.metas_text.Goals as goal

pub returns-clause-does : goal.returns-clause-does
returns-clause-does c =
    let is : call_text (content_of c.args.kept.now) (call.Metas c.args.pairs.now) ≡ c.push_metas.new.out.items = search rules in
    metas_does (content_of c.args.kept.now) c.args.pairs.now c.push_metas.new.out.items c.requires.proper is
