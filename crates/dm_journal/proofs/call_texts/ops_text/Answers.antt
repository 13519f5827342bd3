use Rattle.std.proofs.Common.{◌≡◌, rules, sym, ◌∙◌}
use Rattle.std.specs.List.{flat_map}
use Rattle.dm_target.specs.Memory.{content_of}
use Rattle.dm_stmt.specs.Texts.{op_text, transaction}
use Rattle.dm_journal.proofs.CallTexts.{apply_does, formed_nowhere, formed_there, ops_text_nowhere, ops_text_there}
use Rattle.dm_journal.proofs.call_texts.ops_text.Goals as goal

pub returns-in_default-clause-text : goal.returns-in_default-clause-text
returns-in_default-clause-text c = c.new-text.ensures.items ∙ ops_text_nowhere (content_of c.args.kept.now) c.args.table.now c.args.ops.now c.in_default.ensures

pub returns-clause-text : goal.returns-clause-text
returns-clause-text c =
    let is : c.push_ops.new.out.items ≡ transaction (flat_map (op_text c.args.table.now c.in-Some.there.now) c.args.ops.now) = search rules in
    is ∙ ops_text_there (content_of c.args.kept.now) c.args.table.now c.args.ops.now c.in-Some.there.now c.in-Some.ensures

pub returns-in_default-clause-does : goal.returns-in_default-clause-does
returns-in_default-clause-does c =
    apply_does (content_of c.args.kept.now) c.args.table.now c.args.ops.now c.new-text.result.items (formed_nowhere (content_of c.args.kept.now) c.args.table.now c.in_default.ensures) c.requires.proper c.ops_types.ensures
    (sym (c.new-text.ensures.items ∙ ops_text_nowhere (content_of c.args.kept.now) c.args.table.now c.args.ops.now c.in_default.ensures))

pub returns-clause-does : goal.returns-clause-does
returns-clause-does c =
    let is : c.push_ops.new.out.items ≡ transaction (flat_map (op_text c.args.table.now c.in-Some.there.now) c.args.ops.now) = search rules in
    apply_does (content_of c.args.kept.now) c.args.table.now c.args.ops.now c.push_ops.new.out.items (formed_there (content_of c.args.kept.now) c.args.table.now c.in-Some.there.now c.in-Some.ensures c.columns.ensures.formed) c.requires.proper
    c.ops_types.ensures (sym (is ∙ ops_text_there (content_of c.args.kept.now) c.args.table.now c.args.ops.now c.in-Some.there.now c.in-Some.ensures))
