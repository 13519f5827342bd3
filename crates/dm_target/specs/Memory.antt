-- What a target in memory holds, and the calls that took effect.
use Rattle.std.specs.Prelude.{List, map}
use Rattle.dm_target.specs.Contents.{Content}
use Rattle.dm_target.specs.declared.call.Call.{Call}
use Rattle.dm_target.specs.declared.memory.MemoryTarget.{MemoryTarget}

abbrev pub content_of : MemoryTarget → Content
content_of target = record { tables = target.tables; metas = target.texts }

abbrev pub calls_of : MemoryTarget → List Call
calls_of target = map (λ noted. noted.0) target.calls.items
