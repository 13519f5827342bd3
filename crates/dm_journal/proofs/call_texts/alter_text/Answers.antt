use Rattle.std.proofs.Common.{◌≡◌, ℕ, true, false, List, ◌++◌, rules, sym, ap, ◌∙◌}
use Rattle.std.specs.Cmp.Lexicographic.{pointwise}
use Rattle.std.specs.List.{list_all}
use Rattle.dm_schema.specs.Names.{same_name}
use Rattle.dm_schema.specs.declared.change.Change.{Change}
use Rattle.dm_join.proofs.Exact.{names_exact}
use Rattle.dm_join.specs.Alteration.{alteration}
use Rattle.dm_stmt.specs.Texts.{alter_text}
use Rattle.dm_stmt_read.specs.Reading.{is_typed_change}
use Rattle.dm_target.specs.Memory.{content_of}
use Rattle.dm_journal.proofs.CallTexts.{alter_does, alter_text_there, formed_there, other_primary, typed_there}
use Rattle.dm_journal.proofs.call_texts.alter_text.Goals as goal

pub returns-then-ne-clause-refused : goal.returns-then-ne-clause-refused
returns-then-ne-clause-refused c =
    let differs : pointwise same_name c.in-Some.there.now.primary c.args.schema.now.primary ≡ false = search rules in
    λ none. other_primary (content_of c.args.kept.now) c.args.table.now c.args.schema.now c.in-Some.there.now c.in-Some.ensures differs

pub alteration-requires : goal.alteration-requires
alteration-requires c =
    let same : pointwise same_name c.in-Some.there.now.primary c.args.schema.now.primary ≡ true = search rules in
    names_exact c.in-Some.there.now.primary c.args.schema.now.primary same

pub returns-clause-does : goal.returns-clause-does
returns-clause-does c =
    let typed : list_all is_typed_change (alteration c.in-Some.there.now c.args.schema.now) ≡ true =
    ap (λ (changes : List Change). list_all is_typed_change changes) (sym (c.as_slice.ensures ∙ c.in_ok-changes.ensures)) ∙ c.changes_types.ensures in
    let is : alter_text c.args.table.now (alteration c.in-Some.there.now c.args.schema.now) ≡ c.push_alter-2.new.out.items =
    sym
    (c.in_ok-push_alter-2.ensures ∙ ap (λ (b : List ℕ). b ++ alter_text c.args.table.now c.as_slice-2.result.now) c.new-text.ensures.items ∙ ap (λ (changes : List Change). alter_text c.args.table.now changes) (c.as_slice-2.ensures ∙ c.in_ok-changes.ensures)) in
    alter_does (content_of c.args.kept.now) c.args.table.now c.args.asked.now c.args.schema.now c.push_alter-2.new.out.items
    (formed_there (content_of c.args.kept.now) c.args.table.now c.in-Some.there.now c.in-Some.ensures c.columns-2.ensures.formed) c.columns.ensures.formed c.columns-3.ensures.formed c.requires.ordered c.requires.proper
    (typed_there (content_of c.args.kept.now) c.args.table.now c.args.schema.now c.in-Some.there.now c.in-Some.ensures typed)
    (sym (alter_text_there (content_of c.args.kept.now) c.args.table.now c.args.schema.now c.in-Some.there.now c.in-Some.ensures) ∙ is)
