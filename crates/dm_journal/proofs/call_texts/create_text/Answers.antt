use Rattle.std.proofs.Common.{◌≡◌, List, rules, sym, ap, ◌∙◌}
use Rattle.std.specs.List.{list_all}
use Rattle.dm_schema.specs.declared.column.Column.{Column}
use Rattle.dm_stmt_read.specs.Reading.{is_typed_column}
use Rattle.dm_target.specs.Memory.{content_of}
use Rattle.dm_target.specs.declared.call.Call.TheVariants as call
use Rattle.dm_journal.specs.Journaled.{call_text}
use Rattle.dm_journal.proofs.CallTexts.{create_does}
use Rattle.dm_journal.proofs.call_texts.create_text.Goals as goal

pub returns-clause-does : goal.returns-clause-does
returns-clause-does c =
    let is : call_text (content_of c.args.kept.now) (call.Create c.args.table.now c.args.schema.now) ≡ c.push_create.new.out.items = search rules in
    create_does (content_of c.args.kept.now) c.args.table.now c.args.asked.now c.args.schema.now c.push_create.new.out.items c.columns.ensures.formed c.columns-2.ensures.formed c.requires.ordered c.requires.proper (ap (λ (columns : List Column). list_all is_typed_column columns) (sym c.columns-2.ensures.columns) ∙ c.columns_types.ensures) is
