-- Heads, statements and dumps say something by their grammars.
use Rattle.dm_snapshot.proofs.Readings.{the_readings as the_dumps, they_are as dumps_are}
use Rattle.dm_stream.proofs.Heads.{the_heads, they_are as heads_are}
use Rattle.dm_track.specs.Builds.{Readings, AreReadings}

abbrev pub the_readings : Readings
the_readings = record { heads = the_heads; dumps = the_dumps }

pub they_are : AreReadings the_readings
they_are = (heads_are, dumps_are)
