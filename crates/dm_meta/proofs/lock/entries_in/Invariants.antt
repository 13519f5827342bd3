use Rattle.std.proofs.Common.{◌≡◌, ◌++◌, drop}
use Rattle.std.specs.Prelude.{All, IsUtf8, option_map}
use Rattle.json.specs.Value.{items_view}
use Rattle.dm_meta.specs.Texts.{entries_in}
use Rattle.dm_meta.proofs.lock.entries_in.Given as goal

abbrev pub invariant-loop-value : goal.invariant-loop-value
invariant-loop-value l = record {
  value : option_map (λ more. l.entries.items ++ more) (entries_in (items_view (drop l.value-index l.values))) ≡ entries_in (items_view l.values);
  text : All (λ entry. IsUtf8 entry.shard) l.entries.items;
}
