-- What a formed schema tells of its columns in byte order of their names.
use Rattle.std.proofs.Common.{◌≡◌, List, ap, ◌∙◌}
use Rattle.std.specs.Prelude.{IsTrue}
use Rattle.std.specs.List.{list_all}
use Rattle.dm_schema.specs.declared.column.Column.{Column}
use Rattle.dm_schema.specs.Kinds.{is_column}
use Rattle.dm_schema.specs.Layout.{Layout}
use Rattle.dm_schema.specs.NameOrder.{columns_in_order}
use Rattle.dm_schema.specs.Schemas.{is_formed}
use Rattle.dm_join.proofs.Formed.{formed_parts}
use Rattle.dm_table.proofs.ListTests.{list_all-in_order_of}

pub ordered_are_columns : (layout : Layout) (columns ordered : List Column) → IsTrue (is_formed layout) → columns ≡ layout.columns → ordered ≡ columns_in_order columns → IsTrue (list_all is_column ordered)
ordered_are_columns layout columns ordered formed same is =
    ap (list_all is_column) (is ∙ ap columns_in_order same) ∙ list_all-in_order_of is_column (λ c. c.name) layout.columns ∙ (formed_parts layout formed).columns
