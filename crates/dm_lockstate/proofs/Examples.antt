-- Offers of two shards that begin with `id` INT NOT NULL PRIMARY KEY, `v` INT, as computed by the definition.
use Rattle.std.proofs.Common.{◌≡◌, ℕ, Bool, true, false, List, [], ◌∷◌, Result, Ok, Err, refl}
use Rattle.std.specs.Prelude.{codes, pos}
use Rattle.dm_value.specs.declared.value.Value.TheVariants as value
use Rattle.dm_schema.specs.declared.column.Kind.{Kind}
use Rattle.dm_schema.specs.declared.column.Kind.TheVariants as kind
use Rattle.dm_schema.specs.declared.column.Column.{Column}
use Rattle.dm_schema.specs.declared.column.UniqueKey.{UniqueKey}
use Rattle.dm_schema.specs.declared.column.DefaultRule.{DefaultRule}
use Rattle.dm_schema.specs.declared.column.DefaultRule.TheVariants as default
use Rattle.dm_schema.specs.Layout.{Layout}
use Rattle.dm_join.specs.declared.no_join.JoinCause.TheVariants as cause
use Rattle.dm_join.specs.declared.no_join.NoJoin.{NoJoin}
use Rattle.dm_join.specs.Join.{join}
use Rattle.dm_lockstate.specs.declared.stop.Stop.{Stop}
use Rattle.dm_lockstate.specs.declared.stop.Stop.TheVariants as stop
use Rattle.dm_lockstate.specs.Lock.{Lock, first, offer}

abbrev column : List ℕ → Kind → Bool → DefaultRule → Column
column name k nullable rule = record { name = name; kind = k; nullable = nullable; default_rule = rule }

abbrev id : Column
id = column (codes "id") (kind.Signed 4) false default.Nothing

-- a column `v` of so many bytes
abbrev v : ℕ → Column
v bytes = column (codes "v") (kind.Signed bytes) true default.Nothing

-- a column `d` INT NULL with a default
abbrev d : DefaultRule → Column
d rule = column (codes "d") (kind.Signed 4) true rule

abbrev number : ℕ → DefaultRule
number n = default.Const (value.Int (pos n))

abbrev table : List Column → Layout
table columns = record { columns = id ∷ columns; primary = codes "id" ∷ []; uniques = [] }

abbrev plain : Layout
plain = table (v 4 ∷ [])

record Offering : Type 0 where
  member : ℕ
  schema : Layout

abbrev a : List Column → Offering
a columns = record { member = 0; schema = table columns }

abbrev b : List Column → Offering
b columns = record { member = 1; schema = table columns }

-- the joined schema after an offer, or why it was refused
abbrev answer : Result Lock Stop → Result Layout Stop
answer (Ok after) = Ok after.joined
answer (Err e) = Err e

-- a refused offer changes nothing
abbrev left_by : Lock → Result Lock Stop → Lock
left_by lock (Ok after) = after
left_by lock (Err e) = lock

abbrev answers : Lock → List Offering → List (Result Layout Stop)
answers lock [] = []
answers lock (o ∷ os) = answer (offer lock o.member o.schema) ∷ answers (left_by lock (offer lock o.member o.schema)) os

abbrev answers_of_two : Result Lock NoJoin → List Offering → List (Result Layout Stop)
answers_of_two (Ok lock) os = answers lock os
answers_of_two (Err e) os = []

abbrev offers : List Offering → List (Result Layout Stop)
offers os = answers_of_two (first (plain ∷ plain ∷ [])) os

-- a MODIFY v BIGINT, b the same, a MODIFY v INT, b the same
wide_until_all_are_narrow : offers (a (v 8 ∷ []) ∷ b (v 8 ∷ []) ∷ a (v 4 ∷ []) ∷ b (v 4 ∷ []) ∷ [])
    ≡ Ok (table (v 8 ∷ [])) ∷ Ok (table (v 8 ∷ [])) ∷ Ok (table (v 8 ∷ [])) ∷ Ok (table (v 4 ∷ [])) ∷ []
unfolding offer first join
wide_until_all_are_narrow = refl

-- a ADD d INT, b ADD d INT NOT NULL
gained_with_another_fill : offers (a (v 4 ∷ d default.Nothing ∷ []) ∷ b (v 4 ∷ column (codes "d") (kind.Signed 4) false default.Nothing ∷ []) ∷ [])
    ≡ Ok (record { columns = d default.Nothing ∷ id ∷ v 4 ∷ []; primary = codes "id" ∷ []; uniques = [] }) ∷ Err (stop.FillDiffers (codes "d")) ∷ []
unfolding offer first join
gained_with_another_fill = refl

-- a ADD d INT DEFAULT 5, a SET DEFAULT 7 on d
changed_fill : offers (a (v 4 ∷ d (number 5) ∷ []) ∷ a (v 4 ∷ d (number 7) ∷ []) ∷ [])
    ≡ Ok (record { columns = d (number 5) ∷ id ∷ v 4 ∷ []; primary = codes "id" ∷ []; uniques = [] }) ∷ Err (stop.FillDiffers (codes "d")) ∷ []
unfolding offer first join
changed_fill = refl

-- a DROP v, a ADD v INT
dropped_and_added : offers (a [] ∷ a (v 4 ∷ []) ∷ []) ≡ Ok plain ∷ Err (stop.NotFullyDropped (codes "v")) ∷ []
unfolding offer first join
dropped_and_added = refl

-- a DROP v, b MODIFY v TINYINT
dropped_and_narrowed : offers (a [] ∷ b (v 1 ∷ []) ∷ []) ≡ Ok plain ∷ Err (stop.NotFullyDropped (codes "v")) ∷ []
unfolding offer first join
dropped_and_narrowed = refl

-- a DROP v, b DROP v, a ADD v INT
dropped_by_all_and_added : offers (a [] ∷ b [] ∷ a (v 4 ∷ []) ∷ []) ≡ Ok plain ∷ Ok (table []) ∷ Ok plain ∷ []
unfolding offer first join
dropped_by_all_and_added = refl

-- a DROP v, a ADD v INT, b DROP v, a ADD v INT
dropped_and_added_behind_the_other : offers (a [] ∷ a (v 4 ∷ []) ∷ b [] ∷ a (v 4 ∷ []) ∷ []) ≡ Ok plain ∷ Err (stop.NotFullyDropped (codes "v")) ∷ Ok (table []) ∷ Ok plain ∷ []
unfolding offer first join
dropped_and_added_behind_the_other = refl

-- b MODIFY v TINYINT, a DROP v
narrowed_and_dropped : offers (b (v 1 ∷ []) ∷ a [] ∷ []) ≡ Ok plain ∷ Err (stop.NotFullyDropped (codes "v")) ∷ []
unfolding offer first join
narrowed_and_dropped = refl

-- `d` INT NOT NULL with a default
abbrev filled : DefaultRule → Column
filled rule = column (codes "d") (kind.Signed 4) false rule

abbrev with_five : Layout
with_five = record { columns = filled (number 5) ∷ id ∷ v 4 ∷ []; primary = codes "id" ∷ []; uniques = [] }

-- a ADD d INT NOT NULL DEFAULT 5, b ADD d INT NOT NULL
two_defaults : offers (a (v 4 ∷ filled (number 5) ∷ []) ∷ b (v 4 ∷ filled default.Nothing ∷ []) ∷ []) ≡ Ok with_five ∷ Err (stop.NoJoin (codes "d") cause.DefaultDiffers) ∷ []
unfolding offer first join
two_defaults = refl

-- b ADD d INT NOT NULL, a ADD d INT NOT NULL DEFAULT 5, b the same again
no_fill_and_two_defaults : offers (b (v 4 ∷ filled default.Nothing ∷ []) ∷ a (v 4 ∷ filled (number 5) ∷ []) ∷ b (v 4 ∷ filled default.Nothing ∷ []) ∷ [])
    ≡ Err (stop.NoJoin (codes "d") cause.MissingNoFill) ∷ Ok with_five ∷ Err (stop.NoJoin (codes "d") cause.DefaultDiffers) ∷ []
unfolding offer first join
no_fill_and_two_defaults = refl

abbrev w : UniqueKey
w = record { name = codes "w"; columns = codes "v" ∷ [] }

abbrev keyed : Layout
keyed = record { columns = id ∷ v 4 ∷ []; primary = codes "id" ∷ []; uniques = w ∷ [] }

-- a ADD UNIQUE KEY w (v), b the same
unique_once_all_have_it : offers (record { member = 0; schema = keyed } ∷ record { member = 1; schema = keyed } ∷ []) ≡ Ok plain ∷ Ok keyed ∷ []
unfolding offer first join
unique_once_all_have_it = refl
