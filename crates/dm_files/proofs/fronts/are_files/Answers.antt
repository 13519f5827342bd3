use Rattle.std.proofs.Common.{◌∙◌, ap, List}
use Rattle.std.specs.List.{flat_map}
use Rattle.dm_task.specs.declared.task.Source.{Source}
use Rattle.dm_files.specs.Files.{source_files, files_of}
use Rattle.dm_files.specs.Fronts.{files_behind}
use Rattle.dm_files.proofs.FrontLemmas.{answered, refuted}
use Rattle.dm_files.proofs.fronts.are_files.Goals as goal

pub returns-in-Some : goal.returns-in-Some
returns-in-Some c =
    answered (files_of c.args.task.now) c.args.files.now c.in-Some.left.now c.is_empty.result
    (c.in-Some.ensures ∙ ap (λ (sources : List Source). files_behind (flat_map source_files sources) c.args.files.now) c.as_slice.ensures) c.is_empty.ensures

pub returns-in-None : goal.returns-in-None
returns-in-None c =
    refuted (files_of c.args.task.now) c.args.files.now
    (c.in-None.ensures ∙ ap (λ (sources : List Source). files_behind (flat_map source_files sources) c.args.files.now) c.as_slice.ensures)
