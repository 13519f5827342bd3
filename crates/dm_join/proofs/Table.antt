-- Joins that the definitions compute. Each schema has besides its other columns `id` INT NOT NULL, the primary key.
use Rattle.std.proofs.Common.{◌≡◌, Bool, true, false, List, [], ◌∷◌, Ok, Err, refl}
use Rattle.std.specs.Prelude.{codes, pos}
use Rattle.dm_value.specs.declared.value.Value.TheVariants as value
use Rattle.dm_schema.specs.declared.column.Kind.{Kind}
use Rattle.dm_schema.specs.declared.column.Kind.TheVariants as kind
use Rattle.dm_schema.specs.declared.column.DefaultRule.{DefaultRule}
use Rattle.dm_schema.specs.declared.column.DefaultRule.TheVariants as default
use Rattle.dm_schema.specs.declared.column.Column.{Column}
use Rattle.dm_schema.specs.declared.column.UniqueKey.{UniqueKey}
use Rattle.dm_schema.specs.declared.change.Change.TheVariants as change
use Rattle.dm_schema.specs.declared.change.Spot.TheVariants as spot
use Rattle.dm_schema.specs.Layout.{Layout}
use Rattle.dm_join.specs.declared.no_join.JoinCause.TheVariants as cause
use Rattle.dm_join.specs.declared.no_join.NoJoin.TheVariants.{At}
use Rattle.dm_join.specs.Join.{join}
use Rattle.dm_join.specs.AtMost.{at_most}
use Rattle.dm_join.specs.Alteration.{alteration}

abbrev id : Column
id = record { name = codes "id"; kind = kind.Signed 4; nullable = false; default_rule = default.Nothing }

-- a column `c`
abbrev c : Kind → Bool → DefaultRule → Column
c k nullable rule = record { name = codes "c"; kind = k; nullable = nullable; default_rule = rule }

abbrev d : Column
d = record { name = codes "d"; kind = kind.Signed 4; nullable = false; default_rule = default.Nothing }

abbrev five : DefaultRule
five = default.Const (value.Int (pos 5))

abbrev int : Column
int = c (kind.Signed 4) false default.Nothing

abbrev plain : List Column → Layout
plain columns = record { columns = columns; primary = codes "id" ∷ []; uniques = [] }

-- INT NULL and BIGINT NOT NULL give BIGINT NULL
pub wider_and_nullable : join (plain (id ∷ c (kind.Signed 4) true default.Nothing ∷ []) ∷ plain (id ∷ c (kind.Signed 8) false default.Nothing ∷ []) ∷ []) ≡ Ok (plain (c (kind.Signed 8) true default.Nothing ∷ id ∷ []))
unfolding join
wider_and_nullable = refl

pub two_families : join (plain (id ∷ int ∷ []) ∷ plain (id ∷ c (kind.Unsigned 4) false default.Nothing ∷ []) ∷ []) ≡ Err (At (codes "c") cause.Family)
unfolding join
two_families = refl

pub two_precisions : join (plain (id ∷ c (kind.Decimal 10 2) false default.Nothing ∷ []) ∷ plain (id ∷ c (kind.Decimal 12 2) false default.Nothing ∷ []) ∷ []) ≡ Err (At (codes "c") cause.KindDiffers)
unfolding join
two_precisions = refl

pub two_defaults : join (plain (id ∷ c (kind.Signed 4) false five ∷ []) ∷ plain (id ∷ int ∷ []) ∷ []) ≡ Err (At (codes "c") cause.DefaultDiffers)
unfolding join
two_defaults = refl

pub lacking_without_fill : join (plain (id ∷ int ∷ []) ∷ plain (id ∷ []) ∷ []) ≡ Err (At (codes "c") cause.MissingNoFill)
unfolding join
lacking_without_fill = refl

pub lacking_with_fill : join (plain (id ∷ c (kind.Signed 4) false five ∷ []) ∷ plain (id ∷ []) ∷ []) ≡ Ok (plain (c (kind.Signed 4) false five ∷ id ∷ []))
unfolding join
lacking_with_fill = refl

pub two_primary_keys : join (record { columns = int ∷ d ∷ []; primary = codes "c" ∷ []; uniques = [] } ∷ record { columns = int ∷ d ∷ []; primary = codes "c" ∷ codes "d" ∷ []; uniques = [] } ∷ []) ≡ Err (At (codes "c") cause.Primary)
unfolding join
two_primary_keys = refl

-- UNIQUE w (c)
abbrev w : UniqueKey
w = record { name = codes "w"; columns = codes "c" ∷ [] }

abbrev keyed : Layout
keyed = record { columns = id ∷ int ∷ []; primary = codes "id" ∷ []; uniques = w ∷ [] }

pub unique_of_one : join (keyed ∷ plain (id ∷ int ∷ []) ∷ []) ≡ Ok (plain (int ∷ id ∷ []))
unfolding join
unique_of_one = refl

pub unique_of_both : join (keyed ∷ keyed ∷ []) ≡ Ok (record { columns = int ∷ id ∷ []; primary = codes "id" ∷ []; uniques = w ∷ [] })
unfolding join
unique_of_both = refl

-- three schemas, in each order

abbrev small : Layout
small = plain (id ∷ c (kind.Signed 4) true default.Nothing ∷ [])

abbrev large : Layout
large = plain (c (kind.Signed 8) false default.Nothing ∷ id ∷ [])

abbrev without : Layout
without = plain (id ∷ [])

abbrev joined : Layout
joined = plain (c (kind.Signed 8) true default.Nothing ∷ id ∷ [])

pub small_large_without : join (small ∷ large ∷ without ∷ []) ≡ Ok joined
unfolding join
small_large_without = refl

pub small_without_large : join (small ∷ without ∷ large ∷ []) ≡ Ok joined
unfolding join
small_without_large = refl

pub large_small_without : join (large ∷ small ∷ without ∷ []) ≡ Ok joined
unfolding join
large_small_without = refl

pub large_without_small : join (large ∷ without ∷ small ∷ []) ≡ Ok joined
unfolding join
large_without_small = refl

pub without_small_large : join (without ∷ small ∷ large ∷ []) ≡ Ok joined
unfolding join
without_small_large = refl

pub without_large_small : join (without ∷ large ∷ small ∷ []) ≡ Ok joined
unfolding join
without_large_small = refl

pub small_is_below : at_most small joined ≡ true
small_is_below = refl

pub joined_is_not_below : at_most joined small ≡ false
joined_is_not_below = refl

-- the changes from one schema to another, in their order
pub all_changes : alteration keyed (record { columns = id ∷ c (kind.Signed 8) true default.Nothing ∷ d ∷ []; primary = codes "id" ∷ []; uniques = record { name = codes "v"; columns = codes "d" ∷ [] } ∷ [] })
    ≡ change.DropKey (codes "w") ∷ change.Modify (c (kind.Signed 8) true default.Nothing) spot.Keep true ∷ change.Add d spot.Last ∷ change.AddUnique (record { name = codes "v"; columns = codes "d" ∷ [] }) true ∷ []
unfolding alteration
all_changes = refl

pub dropped_column : alteration (plain (id ∷ int ∷ [])) without ≡ change.Drop (codes "c") ∷ []
unfolding alteration
dropped_column = refl
