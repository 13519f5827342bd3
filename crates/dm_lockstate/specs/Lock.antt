-- The lock machine of a target table: which new schemas of its shards are accepted.
use Rattle.std.specs.Prelude.{ℕ, ◌==◌, Bool, true, false, not, ◌&&◌, ◌||◌, List, [], ◌++◌, map, Option, Some, None, Result, Ok, Err, slice_set, slice_index_or}
use Rattle.std.specs.Option.{option_or, option_and_then}
use Rattle.std.specs.List.{list_any, list_all, filter}
use Rattle.dm_list.specs.Answer.{first_refusal, unless_refused}
use Rattle.dm_value.specs.declared.value.Value.{Value}
use Rattle.dm_value.specs.contracts.value.ValuePartialEq.TheImpl as value_eq
use Rattle.dm_schema.specs.declared.column.Column.{Column}
use Rattle.dm_schema.specs.Layout.{Layout}
use Rattle.dm_schema.specs.Names.{Text, same_name, column_at, column_names, has_column}
use Rattle.dm_schema.specs.NameOrder.{columns_in_order}
use Rattle.dm_schema.specs.Fill.{fill}
use Rattle.dm_schema.specs.KindOrder.{kind_at_most, same_kind}
use Rattle.dm_join.specs.declared.no_join.NoJoin.{NoJoin}
use Rattle.dm_join.specs.declared.no_join.NoJoin.TheVariants as no_join
use Rattle.dm_join.specs.Join.{join}
use Rattle.dm_lockstate.specs.declared.state.Dropped.{Dropped}
use Rattle.dm_lockstate.specs.declared.stop.Stop.{Stop}
use Rattle.dm_lockstate.specs.declared.stop.Stop.TheVariants as stop

-- the recorded schema of each shard, the dropped pairs, and the joined schema
pub record Lock : Type 0 where
  pub schemas : List Layout
  pub dropped : List Dropped
  pub joined : Layout

-- no schema
abbrev pub no_layout : Layout
no_layout = record { columns = []; primary = []; uniques = [] }

abbrev pub recorded : Lock → ℕ → Layout
recorded lock member = slice_index_or lock.schemas member no_layout

abbrev pub is_dropped : List Dropped → ℕ → Text → Bool
is_dropped pairs member column = list_any (λ p. p.member == member && same_name p.column column) pairs

abbrev pub is_paired : List Dropped → Text → Bool
is_paired pairs column = list_any (λ p. same_name p.column column) pairs

-- the lock over first schemas, without dropped pairs, or the reason that they have no join
abbrev pub first_by : List Layout → Result Layout NoJoin → Result Lock NoJoin
first_by schemas (Ok joined) = Ok (record { schemas = schemas; dropped = []; joined = joined })
first_by schemas (Err e) = Err e

unfoldable pub first : List Layout → Result Lock NoJoin
first schemas = first_by schemas (join schemas)

-- What speaks of an offer: the lock, the shard that offers, its new schema, the new join, and the pairs after it.
pub record Offer : Type 0 where
  pub lock : Lock
  pub member : ℕ
  pub schema : Layout
  pub joined : Layout
  pub dropped : List Dropped

-- the names of a schema's columns, in byte order
abbrev pub names_of : Layout → List Text
names_of layout = column_names (columns_in_order layout.columns)

-- the columns that the offered schema has and the recorded one lacks, in byte order
abbrev pub gained : Offer → List Text
gained o = filter (λ name. not (has_column (recorded o.lock o.member).columns name)) (names_of o.schema)

-- the columns that both joined schemas have, in byte order
abbrev pub kept : Offer → List Text
kept o = filter (λ name. has_column o.joined.columns name) (names_of o.lock.joined)

-- the pairs whose column is in a schema
abbrev pub pairs_in : Layout → List Dropped → List Dropped
pairs_in layout pairs = filter (λ p. has_column layout.columns p.column) pairs

-- a pair for each of the columns that a schema lacks
abbrev pub pairs_of : ℕ → List Column → Layout → List Dropped
pairs_of member columns schema = map (λ c. record { member = member; column = c.name }) (filter (λ c. not (has_column schema.columns c.name)) columns)

-- The pairs after an offer: the old ones, and each column that the shard had and now lacks; without columns that left
-- the join.
abbrev pub dropped_after : Lock → ℕ → Layout → Layout → List Dropped
dropped_after lock member schema joined = pairs_in joined (lock.dropped ++ pairs_of member (recorded lock member).columns schema)

-- the joined column becomes narrower, or NOT NULL
abbrev pub narrows_to : Column → Column → Bool
narrows_to before after = (kind_at_most after.kind before.kind && not (same_kind after.kind before.kind)) || (before.nullable && not after.nullable)

abbrev pub narrows : Option Column → Option Column → Bool
narrows None after = false
narrows (Some before) None = false
narrows (Some before) (Some after) = narrows_to before after

abbrev pub fill_at : Layout → Text → Option Value
fill_at layout name = option_and_then fill (column_at layout.columns name)

-- the same fill, or none on both sides
abbrev pub same_fill : Option Value → Option Value → Bool
same_fill None None = true
same_fill None (Some b) = false
same_fill (Some a) None = false
same_fill (Some a) (Some b) = (value_eq.ghosts).eq a b

-- a column that the shard dropped comes again while it is downstream
abbrev pub comes_again : Offer → Text → Bool
comes_again o name = is_dropped o.lock.dropped o.member name

-- a joined column becomes narrower while rows of a shard that dropped it hold what they held
abbrev pub narrows_dropped : Offer → Text → Bool
narrows_dropped o name = narrows (column_at o.lock.joined.columns name) (column_at o.joined.columns name) && is_paired o.dropped name

-- the joined column of a name before the offer, or else after it
abbrev pub joined_before : Offer → Text → Option Column
joined_before o name = option_or (column_at o.lock.joined.columns name) (column_at o.joined.columns name)

-- the shard's rows downstream have another fill than its own
abbrev pub gains_other_fill : Offer → Text → Bool
gains_other_fill o name = not (same_fill (fill_at o.schema name) (option_and_then fill (joined_before o name)))

-- the fill changes of a column that some shard lacks
abbrev pub changes_fill : Offer → Text → Bool
changes_fill o name =
    not (list_all (λ s. has_column s.columns name) (slice_set o.lock.schemas o.member o.schema))
    && not (same_fill (fill_at o.lock.joined name) (fill_at o.joined name))

abbrev pub tests : (Text → Bool) → (Text → Stop) → List Text → List (Bool × Stop)
tests test refused names = map (λ name. (test name, refused name)) names

-- why an offer whose join is there is refused, in order: point by point, and in each by column in byte order of names
abbrev pub refusals_of : Offer → List (Bool × Stop)
refusals_of o =
    tests (comes_again o) (λ name. stop.NotFullyDropped name) (gained o)
    ++ tests (narrows_dropped o) (λ name. stop.NotFullyDropped name) (kept o)
    ++ tests (gains_other_fill o) (λ name. stop.FillDiffers name) (gained o)
    ++ tests (changes_fill o) (λ name. stop.FillDiffers name) (kept o)

-- the lock that records the offer, unless it is refused
abbrev pub judged : Offer → Result Lock Stop
judged o = unless_refused (first_refusal (refusals_of o)) (record { schemas = slice_set o.lock.schemas o.member o.schema; dropped = o.dropped; joined = o.joined })

abbrev pub stopped : NoJoin → Stop
stopped (no_join.At column cause) = stop.NoJoin column cause
stopped no_join.Memory = stop.Memory

abbrev pub offer_by : Lock → ℕ → Layout → Result Layout NoJoin → Result Lock Stop
offer_by lock member schema (Err e) = Err (stopped e)
offer_by lock member schema (Ok joined) =
    judged (record { lock = lock; member = member; schema = schema; joined = joined; dropped = dropped_after lock member schema joined })

-- the lock after a shard offers a new schema, or the first reason against it
unfoldable pub offer : Lock → ℕ → Layout → Result Lock Stop
offer lock member schema = offer_by lock member schema (join (slice_set lock.schemas member schema))

abbrev pub is_memory_stop : Stop → Bool
is_memory_stop stop.Memory = true
is_memory_stop (stop.NoJoin column cause) = false
is_memory_stop (stop.NotFullyDropped column) = false
is_memory_stop (stop.FillDiffers column) = false
