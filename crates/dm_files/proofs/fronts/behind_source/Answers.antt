use Rattle.std.proofs.Common.{◌∙◌, ap, None, Some, List}
use Rattle.std.specs.Option.{option_copied}
use Rattle.std.specs.List.{flat_map}
use Rattle.dm_schema.specs.Names.{Text}
use Rattle.dm_task.specs.declared.task.SourceTable.{SourceTable}
use Rattle.dm_files.specs.Files.{table_files}
use Rattle.dm_files.specs.Fronts.{files_behind}
use Rattle.dm_files.proofs.FrontLemmas.{both_fronts}
use Rattle.dm_files.proofs.fronts.behind_source.Goals as goal

pub returns-in_err-left : goal.returns-in_err-left
returns-in_err-left c =
    let source = c.args.source.now in
    both_fronts source.binlogs (flat_map table_files source.tables) c.args.files.now None (option_copied c.from_residual.result)
    (c.in_err-left.ensures ∙ ap (λ (names : List Text). files_behind names c.args.files.now) c.as_slice.ensures) (ap option_copied c.from_residual.ensures)

pub returns : goal.returns
returns c =
    let source = c.args.source.now in
    both_fronts source.binlogs (flat_map table_files source.tables) c.args.files.now (Some c.in_ok-left.left.now) (option_copied c.behind_tables.result)
    (c.in_ok-left.ensures ∙ ap (λ (names : List Text). files_behind names c.args.files.now) c.as_slice.ensures)
    (c.behind_tables.ensures ∙ ap (λ (tables : List SourceTable). files_behind (flat_map table_files tables) c.in_ok-left.left.now) c.as_slice-2.ensures)
