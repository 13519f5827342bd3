use Rattle.std.proofs.Common.{◌≡◌, sym, subst, true}
use Rattle.dm_snapshot.proofs.Readings.{the_readings, they_are}
use Rattle.dm_track.specs.declared.beginning.Beginning.{Beginning}
use Rattle.dm_track.specs.Steps.{is_readable}
use Rattle.dm_track.proofs.Dumps.{begins_readable}
use Rattle.dm_track.proofs.tables.read_beginning.Goals as goal

pub returns-in_ok-begin-in-Ok-clause-readable : goal.returns-in_ok-begin-in-Ok-clause-readable
returns-in_ok-begin-in-Ok-clause-readable c =
    let P : Beginning → Type 0 = λ b. is_readable c.args.files.now b ≡ true in
    subst P (sym c.in_ok-begin-in-Ok.ensures)
    (begins_readable the_readings c.args.files.now c.args.table.now c.args.number c.args.shard c.in-Ok.snapshot (sym (c.in-Ok.ensures.snapshot the_readings they_are)) c.in-Ok.ensures.readable)
