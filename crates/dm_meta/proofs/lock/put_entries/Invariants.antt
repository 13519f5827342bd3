use Rattle.std.proofs.Common.{◌≡◌, ◌<◌, ◌^◌, ◌++◌, take, drop}
use Rattle.std.specs.Prelude.{All}
use Rattle.json.specs.Tree.{items_tokens}
use Rattle.dm_meta.specs.Texts.{entries_json}
use Rattle.dm_meta.proofs.lock.put_entries.Given as goal

abbrev pub invariant-loop-entry : goal.invariant-loop-entry
invariant-loop-entry l = record {
  tokens : l.out.tokens ++ items_tokens (entries_json (drop l.entry-index l.entries)) ≡ l.initial.out.tokens ++ items_tokens (entries_json l.entries);
  before : l.out.before ≡ l.initial.out.before;
  items : All (λ entry. entry.item < 2 ^ 64) (take l.entry-index l.entries);
}
