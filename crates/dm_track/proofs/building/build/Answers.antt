use Rattle.std.proofs.Common.{arith, ap, sym, subst, ◌∙◌, List, Ok, Result, length}
use Rattle.dm_track.specs.declared.fault.BuildFault.{BuildFault}
use Rattle.dm_task.specs.Shards.{shards_of}
use Rattle.dm_track.specs.Builds.{Inputs, histories_of, limited}
use Rattle.dm_track.specs.Steps.{all_parts}
use Rattle.dm_track.specs.Histories.{History}
use Rattle.dm_track.specs.Laws.{AreFew, AreOf}
use Rattle.dm_track.proofs.Counts.{targets_few}
use Rattle.dm_track.proofs.BuildLaws.{histories_are}
use Rattle.dm_track.proofs.Parts.{answers_in_turn, files_count, inputs_answer, inputs_refused, limits_kept, task_answers}
use Rattle.dm_track.proofs.Readings.{the_readings, they_are}
use Rattle.dm_track.proofs.building.build.Goals as goal

pub returns-in_err-parts-clause-exist : goal.returns-in_err-parts-clause-exist
returns-in_err-parts-clause-exist g c = (the_readings, they_are)

pub returns-in_err-tables-in-Ok-clause-exist : goal.returns-in_err-tables-in-Ok-clause-exist
returns-in_err-tables-in-Ok-clause-exist g c = (the_readings, they_are)

pub returns-in_ok-tables-in-Ok-clause-exist : goal.returns-in_ok-tables-in-Ok-clause-exist
returns-in_ok-tables-in-Ok-clause-exist g c = (the_readings, they_are)

pub returns-in-Err-clause-exist : goal.returns-in-Err-clause-exist
returns-in-Err-clause-exist g c = (the_readings, they_are)

pub returns-in_ok-tables-in-Ok-clause-inputs : goal.returns-in_ok-tables-in-Ok-clause-inputs
returns-in_ok-tables-in-Ok-clause-inputs g c = λ r are.
    let done : Inputs → Result Inputs BuildFault = λ i. Ok i in
    ap done c.inputs_of.ensures
    ∙ inputs_answer r c.args.task c.args.files c.in_ok-parts.parts.items c.in-Ok.histories c.new.result
    (task_answers r c.args.task c.args.files c.as_slice.result.now c.in_ok-parts.parts.items c.as_slice.ensures c.requires.names c.in_ok-parts.ensures.count (λ i d below. c.in_ok-parts.ensures.histories i d below r are))
    c.in-Ok.ensures (c.new.ensures ∙ c.in_ok-tables-in-Ok.ensures)

pub returns-in-Err-clause-inputs : goal.returns-in-Err-clause-inputs
returns-in-Err-clause-inputs g c = λ r are.
    inputs_refused r c.args.task c.args.files c.in_ok-parts.parts.items c.in-Err.fault
    (task_answers r c.args.task c.args.files c.as_slice.result.now c.in_ok-parts.parts.items c.as_slice.ensures c.requires.names c.in_ok-parts.ensures.count (λ i d below. c.in_ok-parts.ensures.histories i d below r are))
    c.in-Err.ensures

pub inputs_of-requires-clause-kept : goal.inputs_of-requires-clause-kept
inputs_of-requires-clause-kept g c =
    limits_kept c.args.files c.as_slice.result.now (length c.args.task.sources) c.in_ok-parts.parts.items c.in-Ok.histories c.as_slice.ensures c.in_ok-parts.ensures.count c.in_ok-parts.ensures.readable c.in-Ok.ensures c.requires.short

pub returns-in_ok-tables-in-Ok-clause-shards : goal.returns-in_ok-tables-in-Ok-clause-shards
returns-in_ok-tables-in-Ok-clause-shards g c =
    let all = task_answers the_readings c.args.task c.args.files c.as_slice.result.now c.in_ok-parts.parts.items c.as_slice.ensures c.requires.names c.in_ok-parts.ensures.count (λ i d below. c.in_ok-parts.ensures.histories i d below the_readings they_are) in
    let is = answers_in_turn (Ok c.in-Ok.histories) (limited (all_parts c.in_ok-parts.parts.items)) (histories_of the_readings c.args.task c.args.files) c.in-Ok.ensures all in
    subst (λ (l : List History). AreOf (shards_of c.args.task) l) (sym (ap (λ (i : Inputs). i.histories) c.inputs_of.ensures)) (histories_are the_readings c.args.task c.args.files c.in-Ok.histories is).0

pub returns-in_ok-tables-in-Ok-clause-few : goal.returns-in_ok-tables-in-Ok-clause-few
returns-in_ok-tables-in-Ok-clause-few g c =
    let all = task_answers the_readings c.args.task c.args.files c.as_slice.result.now c.in_ok-parts.parts.items c.as_slice.ensures c.requires.names c.in_ok-parts.ensures.count (λ i d below. c.in_ok-parts.ensures.histories i d below the_readings they_are) in
    let is = answers_in_turn (Ok c.in-Ok.histories) (limited (all_parts c.in_ok-parts.parts.items)) (histories_of the_readings c.args.task c.args.files) c.in-Ok.ensures all in
    subst (λ (l : List History). AreFew l) (sym (ap (λ (i : Inputs). i.histories) c.inputs_of.ensures)) (histories_are the_readings c.args.task c.args.files c.in-Ok.histories is).1

pub inputs_of-requires-clause-tables : goal.inputs_of-requires-clause-tables
inputs_of-requires-clause-tables g c =
    let is = c.new.ensures ∙ c.in_ok-tables-in-Ok.ensures in
    omega (arith, ap length is, targets_few c.args.task, files_count c.args.task c.args.files c.requires.names c.requires.numbers)
