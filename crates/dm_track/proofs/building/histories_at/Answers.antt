use Rattle.std.proofs.Common.{◌∙◌, arith}
use Rattle.dm_track.proofs.Parts.{none_there, number_is, number_within, one_there}
use Rattle.dm_track.proofs.building.histories_at.Goals as goal

pub overflow_cast-number : goal.overflow_cast-number
overflow_cast-number c =
    let within = number_within c.args.task.now.sources c.as_slice-sources.result.now c.args.index c.files_before-number.result c.in-Some.source.now c.as_slice-sources.ensures c.in-Some.ensures.value c.requires.numbers c.files_before-number.ensures in
    omega (arith, within)

pub source_histories-requires-clause-numbers : goal.source_histories-requires-clause-numbers
source_histories-requires-clause-numbers c =
    number_within c.args.task.now.sources c.as_slice-sources.result.now c.args.index c.files_before-number.result c.in-Some.source.now c.as_slice-sources.ensures c.in-Some.ensures.value c.requires.numbers c.files_before-number.ensures

pub returns-in-None-clause-histories : goal.returns-in-None-clause-histories
returns-in-None-clause-histories c = λ r are. none_there r c.args.files.now c.args.task.now c.args.index c.new-in-None.result (c.new-in-None.ensures ∙ c.new.ensures.items) c.in-None.ensures.value

pub returns-in-Some-clause-histories : goal.returns-in-Some-clause-histories
returns-in-Some-clause-histories c = λ r are.
    one_there r c.args.files.now c.args.task.now c.args.index c.files_before-number.result c.in-Some.source.now c.source_histories.result c.in-Some.ensures.value
    (number_is c.args.task.now.sources c.as_slice-sources.result.now c.args.index c.files_before-number.result c.in-Some.source.now c.as_slice-sources.ensures c.in-Some.ensures.value c.requires.numbers c.files_before-number.ensures)
    (c.source_histories.ensures.histories r are)
