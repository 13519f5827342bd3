-- What changes do to the schema `id` INT NOT NULL PRIMARY KEY, `v` INT, as computed by the definition.
use Rattle.std.proofs.Common.{◌≡◌, ℕ, Bool, true, false, List, [], ◌∷◌, Option, None, Ok, Err, codes, refl}
use Rattle.dm_schema.specs.declared.column.Kind.{Kind}
use Rattle.dm_schema.specs.declared.column.Kind.TheVariants as kind
use Rattle.dm_schema.specs.declared.column.Column.{Column}
use Rattle.dm_schema.specs.declared.column.UniqueKey.{UniqueKey}
use Rattle.dm_schema.specs.declared.column.DefaultRule.TheVariants as default
use Rattle.dm_schema.specs.declared.change.Change.{Change}
use Rattle.dm_schema.specs.declared.change.Change.TheVariants as change
use Rattle.dm_schema.specs.declared.change.Spot.TheVariants as spot
use Rattle.dm_schema.specs.declared.fault.EffectFault.TheVariants as fault
use Rattle.dm_schema.specs.Layout.{Layout}
use Rattle.dm_schema.specs.Effect.{Reading, ddl_effect}

abbrev no_text : Reading
no_text k text = None

abbrev column : List ℕ → Kind → Bool → Column
column name k nullable = record { name = name; kind = k; nullable = nullable; default_rule = default.Nothing }

abbrev id : Column
id = column (codes "id") (kind.Signed 4) false

abbrev v : Column
v = column (codes "v") (kind.Signed 4) true

abbrev table : List Column → List UniqueKey → Layout
table columns uniques = record { columns = columns; primary = codes "id" ∷ []; uniques = uniques }

abbrev plain : Layout
plain = table (id ∷ v ∷ []) []

abbrev add : Column → Change
add c = change.Add c spot.Last

abbrev modify : Column → Change
modify c = change.Modify c spot.Keep false

abbrev key : List ℕ → List ℕ → UniqueKey
key name column = record { name = name; columns = column ∷ [] }

-- MODIFY v BIGINT NOT NULL
modified : ddl_effect no_text plain (modify (column (codes "v") (kind.Signed 8) false) ∷ []) ≡ Ok (table (id ∷ column (codes "v") (kind.Signed 8) false ∷ []) [])
unfolding ddl_effect
modified = refl

-- ADD d INT NOT NULL
added_last : ddl_effect no_text plain (add (column (codes "d") (kind.Signed 4) false) ∷ []) ≡ Ok (table (id ∷ v ∷ column (codes "d") (kind.Signed 4) false ∷ []) [])
unfolding ddl_effect
added_last = refl

-- ADD d INT FIRST, and ADD d INT AFTER id
added_at_spots : ddl_effect no_text plain (change.Add (column (codes "d") (kind.Signed 4) true) spot.First ∷ change.Add (column (codes "e") (kind.Signed 4) true) (spot.After (codes "id")) ∷ [])
    ≡ Ok (table (column (codes "d") (kind.Signed 4) true ∷ id ∷ column (codes "e") (kind.Signed 4) true ∷ v ∷ []) [])
unfolding ddl_effect
added_at_spots = refl

-- DROP INDEX i of a plain key
plain_key_dropped : ddl_effect no_text plain (change.DropKey (codes "i") ∷ change.NoEffect ∷ []) ≡ Ok plain
unfolding ddl_effect
plain_key_dropped = refl

-- ADD v INT
column_there : ddl_effect no_text plain (add v ∷ []) ≡ Err fault.ColumnExists
unfolding ddl_effect
column_there = refl

-- DROP w
no_such_column : ddl_effect no_text plain (change.Drop (codes "w") ∷ []) ≡ Err fault.UnknownColumn
unfolding ddl_effect
no_such_column = refl

-- DROP id
key_column_dropped : ddl_effect no_text plain (change.Drop (codes "id") ∷ []) ≡ Err fault.KeyColumn
unfolding ddl_effect
key_column_dropped = refl

-- DROP v, ADD v INT
added_again : ddl_effect no_text plain (change.Drop (codes "v") ∷ add v ∷ []) ≡ Err fault.Readd
unfolding ddl_effect
added_again = refl

-- MODIFY v VARCHAR(9)
other_family : ddl_effect no_text plain (modify (column (codes "v") (kind.Varchar 9) true) ∷ []) ≡ Err fault.FamilyChange
unfolding ddl_effect
other_family = refl

-- ADD d DATE NOT NULL
nothing_to_fill : ddl_effect no_text plain (add (column (codes "d") kind.Date false) ∷ []) ≡ Err fault.NoFill
unfolding ddl_effect
nothing_to_fill = refl

-- ADD d DATE, MODIFY d DATE NOT NULL: the statement takes the fill away that its own column had
fill_taken_away : ddl_effect no_text plain (add (column (codes "d") kind.Date true) ∷ modify (column (codes "d") kind.Date false) ∷ []) ≡ Err fault.NoFill
unfolding ddl_effect
fill_taken_away = refl

-- ADD UNIQUE KEY k (v), ADD UNIQUE KEY k (id)
key_there : ddl_effect no_text plain (change.AddUnique (key (codes "k") (codes "v")) true ∷ change.AddUnique (key (codes "k") (codes "id")) true ∷ []) ≡ Err fault.KeyExists
unfolding ddl_effect
key_there = refl

-- ADD UNIQUE (v), ADD UNIQUE (v): each gets a name
keys_named : ddl_effect no_text plain (change.AddUnique (key [] (codes "v")) false ∷ change.AddUnique (key [] (codes "v")) false ∷ [])
    ≡ Ok (table (id ∷ v ∷ []) (key (codes "v") (codes "v") ∷ key (codes "v_2") (codes "v") ∷ []))
unfolding ddl_effect
keys_named = refl

-- MODIFY id BIGINT leaves the primary key's column NOT NULL; MODIFY id BIGINT NULL doesn't go
primary_modified : ddl_effect no_text plain (modify (column (codes "id") (kind.Signed 8) true) ∷ []) ≡ Ok (table (column (codes "id") (kind.Signed 8) false ∷ v ∷ []) [])
unfolding ddl_effect
primary_modified = refl

primary_nullable : ddl_effect no_text plain (change.Modify (column (codes "id") (kind.Signed 8) true) spot.Keep true ∷ []) ≡ Err fault.PrimaryChange
unfolding ddl_effect
primary_nullable = refl

-- DROP v DEFAULT takes the default away; what has no value is none
default_dropped : ddl_effect no_text plain (change.SetDefault (codes "v") [] ∷ []) ≡ Ok plain
unfolding ddl_effect
default_dropped = refl
