use Rattle.std.proofs.Common.{◌≡◌, false, arith}
use Rattle.std.specs.Option.{is_some}
use Rattle.dm_stream.specs.Views.{seen_file}
use Rattle.dm_stream.proofs.FileLemmas.{passes}
use Rattle.dm_stream.proofs.file.OpenFile.is_passed.Goals as goal

pub returns-then-is_none : goal.returns-then-is_none
returns-then-is_none c =
    let it = c.self.inside in
    let none : is_some it.fault ≡ false = c.if-is_none.ensures in
    passes (seen_file it.file) it.events.items it.place c.len.result it.fault c.args.self.now c.self.invariant.placed (omega (arith, it.events.ok.0)) none c.self.view_is
