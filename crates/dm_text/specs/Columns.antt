-- Columns and tables as SQL.
use Rattle.std.specs.Prelude.{ℕ, Bool, true, false, List, [], ◌∷◌, ◌++◌, codes}
use Rattle.std.specs.List.{flat_map}
use Rattle.dm_schema.specs.declared.column.Kind.{Kind}
use Rattle.dm_schema.specs.declared.column.Column.{Column}
use Rattle.dm_schema.specs.declared.column.UniqueKey.{UniqueKey}
use Rattle.dm_schema.specs.declared.column.DefaultRule.{DefaultRule}
use Rattle.dm_schema.specs.declared.column.DefaultRule.TheVariants as default
use Rattle.dm_schema.specs.Layout.{Layout}
use Rattle.dm_text.specs.Names.{quoted, name_list}
use Rattle.dm_text.specs.Kinds.{kind_text, fraction_text, fraction_digits}
use Rattle.dm_text.specs.Values.{value_text}

abbrev pub nullable_text : Bool → List ℕ
nullable_text true = codes " NULL"
nullable_text false = codes " NOT NULL"

abbrev pub default_text : Kind → DefaultRule → List ℕ
default_text k default.Nothing = []
default_text k (default.Const v) = codes " DEFAULT " ++ value_text k v
default_text k default.Now = codes " DEFAULT CURRENT_TIMESTAMP" ++ fraction_text (fraction_digits k)

-- `name` TYPE NULL DEFAULT value
abbrev pub column_text : Column → List ℕ
column_text c = quoted c.name ++ 32 ∷ kind_text c.kind ++ nullable_text c.nullable ++ default_text c.kind c.default_rule

-- a column of a create, and what parts it from what follows
abbrev pub column_part : Column → List ℕ
column_part c = column_text c ++ codes ", "

abbrev pub primary_part : List (List ℕ) → List ℕ
primary_part names = codes "PRIMARY KEY " ++ name_list names

-- a unique key of a create, behind what parts it from what comes before
abbrev pub unique_part : UniqueKey → List ℕ
unique_part k = codes ", UNIQUE KEY " ++ quoted k.name ++ 32 ∷ name_list k.columns

-- columns, the primary key and the unique keys
abbrev pub parts_text : Layout → List ℕ
parts_text layout = flat_map column_part layout.columns ++ primary_part layout.primary ++ flat_map unique_part layout.uniques

-- a table of any name's text
abbrev pub create_text : List ℕ → Layout → List ℕ
create_text name layout = codes "CREATE TABLE " ++ name ++ codes " (" ++ parts_text layout ++ codes ");\n"
