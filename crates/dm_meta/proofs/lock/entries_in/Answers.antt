use Rattle.std.proofs.Common.{subst, sym}
use Rattle.std.specs.Prelude.{IsUtf8}
use Rattle.std.proofs.lemmas.List.Elements.{All-push, All-same}
use Rattle.json.specs.Tree.{HasNumbers}
use Rattle.json.specs.Value.{value_view}
use Rattle.dm_meta.proofs.Values.{numbers_at}
use Rattle.dm_meta.proofs.Entries.{one_more}
use Rattle.dm_meta.proofs.lock.entries_in.Goals as goal

pub entry_in-requires : goal.entry_in-requires
entry_in-requires c =
    subst (λ value. HasNumbers (value_view value)) (sym c.value-item.is) (numbers_at c.args.values.now c.loop-value.value-index c.value-item.result c.loop-value-test.true c.requires)

pub loop-value-preserved : goal.loop-value-preserved
loop-value-preserved c = record {
  value = one_more c.args.values.now c.loop-value.value-index c.value-item.result c.loop-value-test.true c.value-item.is c.loop-value.entries.items _ c.in_ok-entry.entry c.in_ok-entry.ensures.value c.in_ok-push.ensures.items c.loop-value.invariant.value;
  text = All-same (λ entry. IsUtf8 entry.shard) _ _ c.in_ok-push.ensures.items (All-push (λ entry. IsUtf8 entry.shard) c.loop-value.entries.items c.in_ok-entry.entry c.loop-value.invariant.text c.in_ok-entry.ensures.text);
}
