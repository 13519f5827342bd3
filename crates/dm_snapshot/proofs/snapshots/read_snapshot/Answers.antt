use Rattle.std.proofs.Common.{ℕ, ◌^◌, ◌<◌, List, length, sym, subst}
use Rattle.dm_files.proofs.Lengths.{short_bytes}
use Rattle.dm_snapshot.proofs.Readings.{the_readings, they_are}
use Rattle.dm_snapshot.proofs.snapshots.read_snapshot.Goals as goal

pub read_schema-requires : goal.read_schema-requires
read_schema-requires c =
    let P : List ℕ → Type 0 = λ bytes. length bytes < 2 ^ 32 in subst P (sym c.bytes_of.ensures) (short_bytes c.args.files.now c.args.number c.requires.short)

pub returns-in_err-rows-in-Ok-clause-exist : goal.returns-in_err-rows-in-Ok-clause-exist
returns-in_err-rows-in-Ok-clause-exist c = (the_readings, they_are)

pub returns-in_ok-rows-in-Ok-clause-exist : goal.returns-in_ok-rows-in-Ok-clause-exist
returns-in_ok-rows-in-Ok-clause-exist c = (the_readings, they_are)

pub returns-in-Err-clause-exist : goal.returns-in-Err-clause-exist
returns-in-Err-clause-exist c = (the_readings, they_are)
