use Rattle.std.proofs.Common.{◌≡◌, ◌==◌, length, sym, ap, ◌∙◌, arith}
use Rattle.std.specs.Prelude.{vec_len}
use Rattle.json.proofs.Trees.{view-Object}
use Rattle.dm_meta.proofs.Values.{length-keys}
use Rattle.dm_meta.proofs.reading.has_members.Goals as goal

pub returns-in-Object : goal.returns-in-Object
returns-in-Object c =
    let members = c.in-Object.members in
    let counted : vec_len members ≡ length members.items = omega (arith, members.ok.0) in
    rw (c.in-Object.is, view-Object members) (ap (λ n. n == c.args.count) (c.len.ensures ∙ counted ∙ sym (length-keys members.items)))
