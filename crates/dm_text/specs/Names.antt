-- Names in SQL.
use Rattle.std.specs.Prelude.{ℕ, ◌==◌, List, [], ◌∷◌, ◌++◌, map, if◌then◌else◌}
use Rattle.std.specs.List.{flat_map}
use Rattle.dm_schema.specs.declared.table_name.TableName.{TableName}

-- a piece behind a comma
abbrev pub behind_comma : List ℕ → List ℕ
behind_comma piece = 44 ∷ piece

-- pieces with commas between them
abbrev pub with_commas : List (List ℕ) → List ℕ
with_commas [] = []
with_commas (piece ∷ pieces) = piece ++ flat_map behind_comma pieces

-- a backquote in a name is doubled
abbrev pub doubled : ℕ → List ℕ
doubled b = if b == 96 then 96 ∷ 96 ∷ [] else b ∷ []

-- a name in backquotes
abbrev pub quoted : List ℕ → List ℕ
quoted name = 96 ∷ flat_map doubled name ++ 96 ∷ []

-- names in backquotes, in brackets
abbrev pub name_list : List (List ℕ) → List ℕ
name_list names = 40 ∷ with_commas (map quoted names) ++ 41 ∷ []

-- `db`.`table`
abbrev pub table_name_text : TableName → List ℕ
table_name_text t = quoted t.db ++ 46 ∷ quoted t.table
