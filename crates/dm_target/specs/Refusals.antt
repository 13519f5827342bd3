-- Why a call of a target has no effect, by what its table refuses.
use Rattle.std.specs.Prelude.{if◌then◌else◌}
use Rattle.dm_table.specs.declared.fault.TableFault.{TableFault}
use Rattle.dm_table.specs.Judging.{is_memory}
use Rattle.dm_target.specs.declared.target.TargetError.{TargetError}
use Rattle.dm_target.specs.declared.target.TargetError.TheVariants as error

abbrev pub refused : TableFault → TargetError
refused fault = if is_memory fault then error.Memory else error.Rejected fault
