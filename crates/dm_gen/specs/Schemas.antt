-- The schema of each source's table, and the three statements that change it.
use Rattle.std.specs.Prelude.{ℕ, pos, Bool, true, false, ◌==◌, nat_lt, List, [], ◌∷◌, ◌++◌, codes, if◌then◌else◌}
use Rattle.dm_value.specs.declared.value.Value.TheVariants as value
use Rattle.dm_schema.specs.declared.column.Column.{Column}
use Rattle.dm_schema.specs.declared.column.UniqueKey.{UniqueKey}
use Rattle.dm_schema.specs.declared.column.DefaultRule.{DefaultRule}
use Rattle.dm_schema.specs.declared.column.DefaultRule.TheVariants as default
use Rattle.dm_schema.specs.declared.column.Kind.TheVariants as kind
use Rattle.dm_schema.specs.Layout.{Layout}

-- an integer column of so many bytes
abbrev pub integer_column : List ℕ → ℕ → Bool → DefaultRule → Column
integer_column name size nullable rule = record { name = name; kind = kind.Signed size; nullable = nullable; default_rule = rule }

-- `id` BIGINT NOT NULL
abbrev pub id_column : Column
id_column = integer_column (codes "id") 8 false default.Nothing

-- `u` BIGINT
abbrev pub u_column : Column
u_column = integer_column (codes "u") 8 true default.Nothing

-- `v` INT NOT NULL; behind the second statement `v` BIGINT NOT NULL
abbrev pub v_column : ℕ → Column
v_column done = integer_column (codes "v") (if nat_lt done 2 then 4 else 8) false default.Nothing

-- `d` INT NOT NULL DEFAULT 5
abbrev pub d_column : Column
d_column = integer_column (codes "d") 4 false (default.Const (value.Int (pos 5)))

-- the columns when so many of the statements are done
abbrev pub columns_after : ℕ → List Column
columns_after done = id_column ∷ u_column ∷ v_column done ∷ (if nat_lt done 1 then [] else d_column ∷ [])

abbrev pub u_key : UniqueKey
u_key = record { name = codes "u"; columns = codes "u" ∷ [] }

abbrev pub w_key : UniqueKey
w_key = record { name = codes "w"; columns = codes "u" ∷ codes "v" ∷ [] }

abbrev pub uniques_after : ℕ → List UniqueKey
uniques_after done = u_key ∷ (if nat_lt done 3 then [] else w_key ∷ [])

abbrev pub schema_after : ℕ → Layout
schema_after done = record { columns = columns_after done; primary = codes "id" ∷ []; uniques = uniques_after done }

-- the statement that comes when so many are done
abbrev pub statement : ℕ → List ℕ → List ℕ
statement done table =
    if done == 0 then codes "ALTER TABLE `" ++ table ++ codes "` ADD COLUMN `d` INT NOT NULL DEFAULT 5"
    else if done == 1 then codes "ALTER TABLE `" ++ table ++ codes "` MODIFY COLUMN `v` BIGINT NOT NULL"
    else codes "CREATE UNIQUE INDEX `w` ON `" ++ table ++ codes "` (`u`,`v`)"
