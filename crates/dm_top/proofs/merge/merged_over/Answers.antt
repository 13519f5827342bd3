use Rattle.std.proofs.Common.{sym, ◌∙◌}
use Rattle.dm_top.specs.Sources.{said_of}
use Rattle.dm_top.proofs.KeyLemmas.{unlawful_by_key, unlawful_by_unique, lawful}
use Rattle.dm_top.proofs.merge.merged_over.Goals as goal

pub returns-in_default-clause-merged : goal.returns-in_default-clause-merged
returns-in_default-clause-merged c =
    let sorted = rw (c.in_default.is, c.deref.ensures.value) at c.in_ok-sorted.ensures in
    unlawful_by_key c.args.joined.now (said_of c.args.sources.now) c.in_ok-rows.rows.items c.in_ok-rows.ensures sorted

pub returns-then-branch-clause-merged : goal.returns-then-branch-clause-merged
returns-then-branch-clause-merged c =
    let sorted = rw (c.in-Some.is, c.deref.ensures.value) at c.in_ok-sorted.ensures in
    let shared = rw c.deref-2.ensures.value at c.in_ok-share_unique.ensures in
    unlawful_by_unique c.args.joined.now (said_of c.args.sources.now) c.in_ok-rows.rows.items _ c.in_ok-rows.ensures sorted (sym shared ∙ c.if-branch.true)

pub returns-clause-merged : goal.returns-clause-merged
returns-clause-merged c =
    let sorted = rw (c.in-Some.is, c.deref.ensures.value) at c.in_ok-sorted.ensures in
    let shared = rw c.deref-2.ensures.value at c.in_ok-share_unique.ensures in
    let said = rw c.deref-3.ensures.value at c.in_ok-text_of.ensures in
    lawful c.args.joined.now (said_of c.args.sources.now) c.in_ok-rows.rows.items _ c.in_ok-text_of.field-0 c.in_ok-rows.ensures sorted (sym shared ∙ c.if-branch.false) said
