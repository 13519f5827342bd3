use Rattle.std.proofs.Common.{ℕ, ◌^◌, ◌<◌, List, length, sym, subst}
use Rattle.dm_files.proofs.Lengths.{short_bytes}
use Rattle.dm_track.proofs.changing.read_change.Goals as goal

pub read_logged-requires : goal.read_logged-requires
read_logged-requires c =
    let P : List ℕ → Type 0 = λ bytes. length bytes < 2 ^ 32 in subst P (sym c.bytes_of-file.ensures) (short_bytes c.args.files.now c.args.place.now.file c.requires)
