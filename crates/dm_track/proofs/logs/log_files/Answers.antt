use Rattle.std.proofs.Common.{ℕ, ◌+◌, ◌^◌, ◌<◌, List, length, ap, sym, subst}
use Rattle.std.proofs.lemmas.List.Elements.{All-push}
use Rattle.std.specs.List.{All}
use Rattle.dm_files.proofs.Lengths.{short_bytes}
use Rattle.dm_stream.specs.declared.event.LogFile as program_file
use Rattle.dm_stream.specs.Logs.{LogFile}
use Rattle.dm_stream.specs.Views.{IsShort}
use Rattle.dm_track.proofs.LogLemmas.{next_file}
use Rattle.dm_track.proofs.logs.log_files.Goals as goal

pub loop-number-preserved : goal.loop-number-preserved
loop-number-preserved c =
    let x : program_file.LogFile = record { number = c.loop-number.number; bytes = c.bytes_of.result } in
    let as_file : List ℕ → LogFile = λ bytes. record { number = c.loop-number.number; bytes = bytes } in
    let P : List ℕ → Type 0 = λ bytes. length bytes < 2 ^ 32 in
    let short = subst P (sym c.bytes_of.ensures) (short_bytes c.args.files.now c.loop-number.number c.requires.short) in
    record {
      files = next_file c.args.files.now c.loop-number.logs.items c.push.new.self.items x c.loop-number.number (c.args.first + c.args.count) _ c.loop-number-test.true c.in_ok-push.ensures.items (ap as_file c.bytes_of.ensures) c.loop-number.invariant.files;
      short = let Q : List program_file.LogFile → Type 0 = λ logs. All IsShort logs in
          subst Q (sym c.in_ok-push.ensures.items) (All-push IsShort c.loop-number.logs.items x c.loop-number.invariant.short short);
    }
