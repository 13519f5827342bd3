-- The order of values and of rows.
use Rattle.std.specs.Prelude.{List}
use Rattle.std.specs.Coded.{Coded, coded_list}
use Rattle.std.specs.declared.cmp.Ordering.{Ordering}
use Rattle.std.specs.Cmp.Lexicographic.{slice_cmp}
use Rattle.dm_value.specs.declared.value.Value.{Value}
use Rattle.dm_value.specs.declared.value.Dec.{Dec}
use Rattle.dm_value.specs.declared.value.Day.{Day}
use Rattle.dm_value.specs.declared.value.Moment.{Moment}
use Rattle.dm_value.specs.declared.value.Stamp.{Stamp}
use Rattle.dm_value.specs.contracts.value.DecOrd.TheImpl as dec_ord
use Rattle.dm_value.specs.contracts.value.DayOrd.TheImpl as day_ord
use Rattle.dm_value.specs.contracts.value.MomentOrd.TheImpl as moment_ord
use Rattle.dm_value.specs.contracts.value.StampOrd.TheImpl as stamp_ord
use Rattle.dm_value.specs.contracts.value.ValueOrd.TheImpl as value_ord
use Rattle.dm_value.specs.contracts.value.Value.{the_row}

abbrev pub dec_cmp : Dec → Dec → Ordering
dec_cmp = (dec_ord.ghosts).cmp

abbrev pub day_cmp : Day → Day → Ordering
day_cmp = (day_ord.ghosts).cmp

abbrev pub moment_cmp : Moment → Moment → Ordering
moment_cmp = (moment_ord.ghosts).cmp

abbrev pub stamp_cmp : Stamp → Stamp → Ordering
stamp_cmp = (stamp_ord.ghosts).cmp

-- values by variant, then by content
abbrev pub value_cmp : Value → Value → Ordering
value_cmp = (value_ord.ghosts).cmp

-- rows as lists of values
abbrev pub row_cmp : List Value → List Value → Ordering
row_cmp = slice_cmp value_cmp

abbrev pub coded_value : Coded Value
coded_value = the_row.coded

abbrev pub coded_row : Coded (List Value)
coded_row = coded_list coded_value
