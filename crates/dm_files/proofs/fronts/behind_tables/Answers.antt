use Rattle.std.proofs.Common.{◌<◌, ◌∙◌, ap, length, None, Some, arith}
use Rattle.std.specs.Option.{option_copied}
use Rattle.std.specs.List.{flat_map}
use Rattle.dm_files.specs.Files.{table_files}
use Rattle.dm_files.specs.Fronts.{files_behind}
use Rattle.dm_files.proofs.FrontLemmas.{next_front}
use Rattle.dm_files.proofs.fronts.behind_tables.Goals as goal

pub returns-in_err-left : goal.returns-in_err-left
returns-in_err-left c =
    let tables = c.args.tables.now in
    let within : c.loop-table.table-index < length tables = omega arith in
    ap option_copied c.from_residual.ensures
    ∙ next_front table_files tables c.loop-table.table-index c.table-item.result c.loop-table.left.now (files_behind (flat_map table_files tables) c.args.files.now) None within c.table-item.is c.in_err-left.ensures c.loop-table.invariant

pub loop-table-preserved : goal.loop-table-preserved
loop-table-preserved c =
    let tables = c.args.tables.now in
    let within : c.loop-table.table-index < length tables = omega arith in
    next_front table_files tables c.loop-table.table-index c.table-item.result c.loop-table.left.now (files_behind (flat_map table_files tables) c.args.files.now) (Some c.in_ok-left.left.now) within c.table-item.is c.in_ok-left.ensures c.loop-table.invariant
