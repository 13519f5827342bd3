use Rattle.std.proofs.Common.{◌<◌, ◌∙◌, ap, length, None, Some, arith}
use Rattle.std.specs.Option.{option_copied}
use Rattle.std.specs.List.{flat_map}
use Rattle.dm_files.specs.Files.{source_files}
use Rattle.dm_files.specs.Fronts.{files_behind}
use Rattle.dm_files.proofs.FrontLemmas.{next_front}
use Rattle.dm_files.proofs.fronts.behind_sources.Goals as goal

pub returns-in_err-left : goal.returns-in_err-left
returns-in_err-left c =
    let sources = c.args.sources.now in
    let within : c.loop-source.source-index < length sources = omega arith in
    ap option_copied c.from_residual.ensures
    ∙ next_front source_files sources c.loop-source.source-index c.source-item.result c.loop-source.left.now (files_behind (flat_map source_files sources) c.args.files.now) None within c.source-item.is c.in_err-left.ensures c.loop-source.invariant

pub loop-source-preserved : goal.loop-source-preserved
loop-source-preserved c =
    let sources = c.args.sources.now in
    let within : c.loop-source.source-index < length sources = omega arith in
    next_front source_files sources c.loop-source.source-index c.source-item.result c.loop-source.left.now (files_behind (flat_map source_files sources) c.args.files.now) (Some c.in_ok-left.left.now) within c.source-item.is c.in_ok-left.ensures c.loop-source.invariant
