-- What the program gathers of rows, as the definitions see it.
use Rattle.dm_dump.specs.declared.gathering.Gathering.{Gathering}
use Rattle.dm_dump.specs.Rows.{Gathered}

abbrev pub gathered_in : Gathering → Gathered
gathered_in g = record { columns = g.columns.items; is_new = g.is_new; places = g.places.items; orders = g.orders.items; fault = g.fault }
