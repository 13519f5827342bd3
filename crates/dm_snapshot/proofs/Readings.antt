-- Statements and dumps can be read: each says something by its grammar.
use Rattle.std.proofs.Common.{◌≡◌, ℕ, List, refl}
use Rattle.dm_syntax.specs.declared.parsing.Extent.TheVariants as extent
use Rattle.dm_syntax.proofs.Uniqueness.{said, says_said}
use Rattle.dm_schema.specs.Layout.{Layout}
use Rattle.dm_ddl.specs.Statements.{statement_unless}
use Rattle.dm_dump.specs.Streams.{all_contents}
use Rattle.dm_dump.specs.Outlines.{outline_of}
use Rattle.dm_dump.specs.Rows.{rows_of}
use Rattle.dm_dump.proofs.Stream.{has_all_contents}
use Rattle.dm_snapshot.specs.Snapshots.{DumpReadings, AreDumpReadings}

abbrev pub the_readings : DumpReadings
the_readings = record {
  statement = λ text. said extent.Whole (statement_unless text) text;
  outline = λ text. outline_of text (all_contents text);
  inserts = λ text table layout. rows_of text table layout (all_contents text);
}

pub they_are : AreDumpReadings the_readings
they_are = record {
  statements = λ text. says_said extent.Whole (statement_unless text) text;
  outlines = λ text. (all_contents text, has_all_contents text, refl);
  rows = λ text table layout. (all_contents text, has_all_contents text, refl);
}
