use Rattle.std.proofs.Common.{◌∙◌, ap, is_lt}
use Rattle.std.proofs.lemmas.List.{take_rest}
use Rattle.dm_schema.specs.Names.{name_cmp}
use Rattle.dm_schema.proofs.NameOrderLemmas.{put_by-before, put_by-behind}
use Rattle.dm_schema.proofs.named.+place_by_name.Goals as goal

pub returns-then-is_before-clause-place : goal.returns-then-is_before-clause-place
returns-then-is_before-clause-place g t c =
    let name = g.T.Named.name in
    let before = c.if-is_before.ensures ∙ ap (λ n. is_lt (name_cmp n c.name-in-len1-up.result.now)) c.name.ensures ∙ ap (λ n. is_lt (name_cmp (name c.args.item.now) n)) c.name-in-len1-up.ensures in
    put_by-before name c.args.item.now c.first-item.result c.args.list.now c.in-len1-up.len_at_least c.first-item.is before

pub returns-else-is_before-clause-place : goal.returns-else-is_before-clause-place
returns-else-is_before-clause-place g t c =
    let name = g.T.Named.name in
    let behind = c.if-is_before.ensures ∙ ap (λ n. is_lt (name_cmp n c.name-in-len1-up.result.now)) c.name.ensures ∙ ap (λ n. is_lt (name_cmp (name c.args.item.now) n)) c.name-in-len1-up.ensures in
    put_by-behind name c.args.item.now c.first-item.result c.args.list.now _ c.place_by_name.result c.in-len1-up.len_at_least c.first-item.is (take_rest c.args.list.now 1) behind c.place_by_name.ensures.place
