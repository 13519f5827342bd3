use Rattle.std.proofs.Common.{ℕ, ◌^◌, ◌<◌, List, length, sym, subst}
use Rattle.dm_files.proofs.Lengths.{short_bytes}
use Rattle.dm_snapshot.proofs.rows.push_file.Goals as goal

pub read_inserts-requires : goal.read_inserts-requires
read_inserts-requires c =
    let P : List ℕ → Type 0 = λ bytes. length bytes < 2 ^ 32 in subst P (sym c.bytes_of.ensures) (short_bytes c.args.files.now c.args.number c.requires)
