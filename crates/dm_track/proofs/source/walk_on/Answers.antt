use Rattle.std.proofs.Common.{ℕ, ap, ◌∙◌, map}
use Rattle.std.specs.List.{range_with_len}
use Rattle.dm_stream.specs.Views.{seen_file}
use Rattle.dm_track.specs.declared.beginning.Beginning.{Beginning}
use Rattle.dm_track.specs.Builds.{log_file}
use Rattle.dm_track.proofs.Finishing.{all_walked}
use Rattle.dm_track.proofs.source.walk_on.Goals as goal

pub returns : goal.returns
returns c = record {
  histories = λ r are.
      let files = c.args.files.now in
      let names = map (λ f. f.name) files in
      all_walked r files names c.args.rules.now c.args.number c.args.source.now c.args.beginnings c.in_ok-parts.parts.heads.items c.in_ok-parts.parts.tracks.items c.in_ok-walked.walked.items (map seen_file c.deref.result.now) c.new.result
      (c.in_ok-parts.ensures.heads ∙ ap (map (λ (b : Beginning). b.head)) c.into_vec.ensures)
      (c.in_ok-parts.ensures.tracks ∙ ap (map (λ (b : Beginning). b.track)) c.into_vec.ensures)
      (ap (map seen_file) c.deref.ensures.value ∙ c.in_ok-logs.ensures.files ∙ ap (λ (n : ℕ). map (log_file files) (range_with_len c.args.number n)) c.len.ensures)
      (c.in_ok-walked.ensures.walked r.heads r.dumps.statement are.0 are.1.statements)
      (c.new.ensures ∙ c.in_ok-all_finished.ensures);
}
