-- Names of the sources, their tables and their files. Sources are counted from 0 to 3.
use Rattle.std.specs.Prelude.{ℕ, ◌+◌, List, [], ◌∷◌, ◌++◌, codes}
use Rattle.dm_schema.specs.declared.table_name.TableName.{TableName}

-- a word with the source's digit behind it
abbrev pub numbered : List ℕ → ℕ → List ℕ
numbered word source = word ++ (48 + source) ∷ []

abbrev pub source_name : ℕ → List ℕ
source_name source = numbered (codes "g") source

abbrev pub database : List ℕ
database = codes "g"

abbrev pub table_of : ℕ → List ℕ
table_of source = numbered (codes "t") source

-- the table of a source
abbrev pub own_name : ℕ → TableName
own_name source = record { db = database; table = table_of source }

-- the table that all of them go to
abbrev pub target_name : TableName
target_name = record { db = database; table = codes "t" }

-- a file of a source
abbrev pub file_name : ℕ → List ℕ → List ℕ
file_name source ending = source_name source ++ ending

abbrev pub create_name : ℕ → List ℕ
create_name source = file_name source (codes ".sql")

abbrev pub rows_name : ℕ → List ℕ
rows_name source = file_name source (codes ".rows.sql")

abbrev pub binlog_name : ℕ → List ℕ
binlog_name source = file_name source (codes ".bin")
