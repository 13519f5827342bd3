-- The points by which an offer is judged, one behind another.
use Rattle.std.specs.Prelude.{Bool, not, List}
use Rattle.std.specs.List.{filter}
use Rattle.dm_schema.specs.declared.column.Column.{Column}
use Rattle.dm_schema.specs.Names.{Text, column_names, has_column}
use Rattle.dm_lockstate.specs.declared.judging.Point.{Point}
use Rattle.dm_lockstate.specs.declared.judging.Point.TheVariants as point
use Rattle.dm_lockstate.specs.declared.judging.Offered.{Offered}
use Rattle.dm_lockstate.specs.declared.stop.Stop.{Stop}
use Rattle.dm_lockstate.specs.declared.stop.Stop.TheVariants as stop
use Rattle.dm_lockstate.specs.Lock.{Offer, recorded, comes_again, narrows_dropped, gains_other_fill, changes_fill, tests}

-- what speaks of the offer
abbrev pub offer_of : Offered → Offer
offer_of o = record { lock = o.lock.now; member = o.member; schema = o.schema.now; joined = o.joined.now; dropped = o.dropped.now }

-- the names at which a point is judged: those that the shard gains, or those that both joined schemas have
abbrev pub is_asked : Offer → Point → Text → Bool
is_asked o point.ComesAgain name = not (has_column (recorded o.lock o.member).columns name)
is_asked o point.NarrowsDropped name = has_column o.joined.columns name
is_asked o point.GainsOtherFill name = not (has_column (recorded o.lock o.member).columns name)
is_asked o point.ChangesFill name = has_column o.joined.columns name

abbrev pub refuses : Offer → Point → Text → Bool
refuses o point.ComesAgain name = comes_again o name
refuses o point.NarrowsDropped name = narrows_dropped o name
refuses o point.GainsOtherFill name = gains_other_fill o name
refuses o point.ChangesFill name = changes_fill o name

abbrev pub stop_at : Point → Text → Stop
stop_at point.ComesAgain name = stop.NotFullyDropped name
stop_at point.NarrowsDropped name = stop.NotFullyDropped name
stop_at point.GainsOtherFill name = stop.FillDiffers name
stop_at point.ChangesFill name = stop.FillDiffers name

-- the refusals of one point at the names of columns
abbrev pub refusals_at : Offer → Point → List Column → List (Bool × Stop)
refusals_at o p columns = tests (refuses o p) (stop_at p) (filter (is_asked o p) (column_names columns))
