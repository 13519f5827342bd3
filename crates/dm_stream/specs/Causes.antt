-- Causes by which histories end.
use Rattle.dm_binlog.specs.declared.event.SourceCause.{SourceCause}
use Rattle.dm_binlog.specs.declared.event.SourceCause.TheVariants as source
use Rattle.dm_syntax.specs.declared.fault.DdlFault.{DdlFault}
use Rattle.dm_syntax.specs.declared.fault.DdlFault.TheVariants as ddl
use Rattle.dm_stream.specs.declared.cause.BadCause.{BadCause}
use Rattle.dm_stream.specs.declared.cause.BadCause.TheVariants as cause

-- the cause of a source, of the same name
abbrev pub source_cause : SourceCause → BadCause
source_cause source.Magic = cause.Magic
source_cause source.NoFormat = cause.NoFormat
source_cause source.Format = cause.Format
source_cause source.Checksum = cause.Checksum
source_cause source.Size = cause.Size
source_cause source.Start = cause.Start
source_cause source.Body = cause.Body
source_cause source.NoMap = cause.NoMap
source_cause source.Payload = cause.Payload
source_cause source.PartialUpdate = cause.PartialUpdate
source_cause source.RowStatement = cause.RowStatement

-- why a statement can't be read; what a text says by its grammar never lacks memory
abbrev pub ddl_cause : DdlFault → BadCause
ddl_cause (ddl.Lex at) = cause.Lex
ddl_cause (ddl.Syntax at) = cause.Syntax
ddl_cause (ddl.Unsupported at) = cause.Unsupported
ddl_cause (ddl.Made fault) = cause.Made
ddl_cause ddl.Memory = cause.Lex
