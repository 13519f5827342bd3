use Rattle.std.proofs.Common.{◌≡◌, [], map, drop}
use Rattle.std.specs.Prelude.{IsUtf8}
use Rattle.std.specs.List.{flat_map, AllByRecursion}
use Rattle.toml.specs.View.{view}
use Rattle.dm_task.specs.Reading.{elements}
use Rattle.dm_task.proofs.array.elements.Given as goal

abbrev pub invariant-loop-value : goal.invariant-loop-value
invariant-loop-value g l = record {
  so_far : elements g.T.Element.reads l.path l.list.items (map view (drop l.value-index l.values)) ≡ elements g.T.Element.reads l.path [] (map view l.values);
  texts : AllByRecursion IsUtf8 (flat_map g.T.Element.files l.list.items);
}
