use Rattle.std.proofs.Common.{◌∙◌, ap, List, ℕ}
use Rattle.std.specs.List.{list_any}
use Rattle.dm_ddl.specs.Bounds.{items_of}
use Rattle.dm_ddl.specs.Creating.{columns_in, all_columns_of}
use Rattle.dm_ddl.specs.Columns.{is_unfit}
use Rattle.dm_ddl.proofs.Definitions.{columns_formed, uniques_formed, schema_as}
use Rattle.dm_ddl.proofs.creating.schema_in.Goals as goal

pub created-requires-clause-columns : goal.created-requires-clause-columns
created-requires-clause-columns c = rw c.in_ok-columns.ensures (columns_formed c.args.text.now c.deref-2.result.now (items_of c.args.pieces.now) c.requires.bounds)

pub created-requires-clause-uniques : goal.created-requires-clause-uniques
created-requires-clause-uniques c = rw c.in_ok-uniques.ensures (uniques_formed c.args.text.now (items_of c.args.pieces.now))

pub returns : goal.returns
returns c =
    let text = c.args.text.now in
    let items = items_of c.args.pieces.now in
    schema_as text items c.created.result c.in_ok-columns.columns.items c.in_ok-primaries.primaries.items c.in_ok-uniques.uniques.items c.in_ok-unfit.unfit c.in_ok-primary.primary.items
    c.in_ok-primaries.ensures (c.in_ok-primary.ensures ∙ ap all_columns_of c.deref.ensures.value)
    (c.in_ok-columns.ensures ∙ ap (λ (p : List (List ℕ)). columns_in text p items) c.deref-2.ensures.value)
    c.in_ok-uniques.ensures (c.in_ok-unfit.ensures ∙ ap (λ (p : List (List ℕ)). list_any (is_unfit text p) items) c.deref-3.ensures.value) c.created.ensures
