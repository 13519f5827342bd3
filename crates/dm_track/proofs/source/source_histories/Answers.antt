use Rattle.std.proofs.Common.{ℕ, ◌+◌, List, Err, length, map, ap, ◌∙◌, subst}
use Rattle.dm_list.specs.Answer.{Answers}
use Rattle.dm_task.specs.declared.task.SourceTable.{SourceTable}
use Rattle.dm_track.specs.Builds.{is_memory}
use Rattle.dm_track.specs.Steps.{beginnings}
use Rattle.dm_track.proofs.Finishing.{source_finished, source_refused}
use Rattle.dm_track.proofs.ReadLaws.{all_histories_read}
use Rattle.dm_track.proofs.Readings.{the_readings, they_are}
use Rattle.dm_track.proofs.source.source_histories.Goals as goal

pub returns-in_ok-walk_on-in-Ok-clause-histories : goal.returns-in_ok-walk_on-in-Ok-clause-histories
returns-in_ok-walk_on-in-Ok-clause-histories c = λ r are.
    let files = c.args.files.now in
    let source = c.args.source.now in
    source_finished r files (map (λ f. f.name) files) c.args.rules.now c.args.number source c.in-Ok.beginnings c.in_ok-walk_on-in-Ok.field-0
    (c.in-Ok.ensures.beginnings r.dumps are.1
    ∙ ap (λ (n : ℕ). beginnings r.dumps files c.args.rules.now source.name (c.args.number + n) c.as_slice.result.now) c.len.ensures
    ∙ ap (λ (ts : List SourceTable). beginnings r.dumps files c.args.rules.now source.name (c.args.number + length source.binlogs) ts) c.as_slice.ensures)
    (c.in_ok-walk_on-in-Ok.ensures.histories r are)

pub returns-in_ok-walk_on-in-Ok-clause-readable : goal.returns-in_ok-walk_on-in-Ok-clause-readable
returns-in_ok-walk_on-in-Ok-clause-readable c =
    all_histories_read c.args.files.now (map (λ f. f.name) c.args.files.now) the_readings.heads the_readings.dumps.statement c.args.rules.now c.args.source.now.start c.args.number (length c.args.source.now.binlogs) c.in-Ok.beginnings c.in_ok-walk_on-in-Ok.field-0
    (c.in_ok-walk_on-in-Ok.ensures.histories the_readings they_are) c.in-Ok.ensures.readable

pub returns-in-Err-clause-histories : goal.returns-in-Err-clause-histories
returns-in-Err-clause-histories c = λ r are.
    let files = c.args.files.now in
    let source = c.args.source.now in
    source_refused r files (map (λ f. f.name) files) c.args.rules.now c.args.number source c.in-Err.fault
    (subst (λ (ts : List SourceTable). Answers is_memory (Err c.in-Err.fault) (beginnings r.dumps files c.args.rules.now source.name (c.args.number + length source.binlogs) ts)) c.as_slice.ensures
    (subst (λ (n : ℕ). Answers is_memory (Err c.in-Err.fault) (beginnings r.dumps files c.args.rules.now source.name (c.args.number + n) c.as_slice.result.now)) c.len.ensures
    (c.in-Err.ensures.beginnings r.dumps are.1)))
