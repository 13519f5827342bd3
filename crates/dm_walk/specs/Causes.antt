-- Causes by which a shard's own history ends.
use Rattle.dm_schema.specs.declared.fault.EffectFault.{EffectFault}
use Rattle.dm_schema.specs.declared.fault.EffectFault.TheVariants as effect
use Rattle.dm_decode.specs.declared.fault.RowFault.{RowFault}
use Rattle.dm_decode.specs.declared.fault.RowFault.TheVariants as row
use Rattle.dm_stream.specs.declared.cause.BadCause.{BadCause}
use Rattle.dm_stream.specs.declared.cause.BadCause.TheVariants as cause

-- why bytes aren't a row; a row's definition never lacks memory
abbrev pub row_cause : RowFault → BadCause
row_cause row.Count = cause.Count
row_cause (row.TypeDiffers column) = cause.TypeDiffers
row_cause row.Short = cause.Short
row_cause (row.BadDecimal column) = cause.BadDecimal
row_cause (row.BadDate column) = cause.BadDate
row_cause (row.Unfit column) = cause.Unfit
row_cause row.Memory = cause.Short

-- why changes have no effect; their definition never lacks memory
abbrev pub effect_cause : EffectFault → BadCause
effect_cause effect.Renames = cause.Renames
effect_cause effect.PrimaryChange = cause.PrimaryChange
effect_cause effect.UnknownColumn = cause.UnknownColumn
effect_cause effect.ColumnExists = cause.ColumnExists
effect_cause effect.KeyColumn = cause.KeyColumn
effect_cause effect.Readd = cause.Readd
effect_cause effect.FamilyChange = cause.FamilyChange
effect_cause effect.NoFill = cause.NoFill
effect_cause effect.KeyExists = cause.KeyExists
effect_cause (effect.Made fault) = cause.Made
effect_cause effect.Memory = cause.Made
