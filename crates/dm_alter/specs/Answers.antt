-- What the effect of changes may answer beside the definition: that there was no memory.
use Rattle.std.specs.Prelude.{Bool, true, false}
use Rattle.dm_schema.specs.declared.fault.EffectFault.{EffectFault}
use Rattle.dm_schema.specs.declared.fault.EffectFault.TheVariants as fault
use Rattle.dm_schema.specs.declared.fault.SchemaFault.{SchemaFault}

abbrev pub is_memory : EffectFault → Bool
is_memory fault.Memory = true
is_memory fault.Renames = false
is_memory fault.PrimaryChange = false
is_memory fault.UnknownColumn = false
is_memory fault.ColumnExists = false
is_memory fault.KeyColumn = false
is_memory fault.Readd = false
is_memory fault.FamilyChange = false
is_memory fault.NoFill = false
is_memory fault.KeyExists = false
is_memory (fault.Made e) = false
