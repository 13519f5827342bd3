use Rattle.std.proofs.Common.{ℕ, List, subst}
use Rattle.dm_dump.specs.Dumps.{SaysCreate}
use Rattle.dm_snapshot.proofs.FileLemmas.{schema_said}
use Rattle.dm_snapshot.proofs.create.schema_at.Goals as goal

pub returns : goal.returns
returns c =
    let P : List ℕ → Type 0 = λ bytes. SaysCreate bytes c.in_ok-created.created in
    let says = subst P c.bytes_in.ensures c.in_ok-created.ensures.says in
    λ r are. schema_said r are c.args.text.now c.args.outline.now c.args.span c.in_ok-created.created c.schema_by.result says c.schema_by.ensures
