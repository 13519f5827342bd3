use Rattle.std.proofs.Common.{subst, sym, arith, rules}
use Rattle.std.specs.Prelude.{IsUtf8}
use Rattle.std.proofs.lemmas.Grind.{common_steps}
use Rattle.std.proofs.lemmas.List.{take_all}
use Rattle.std.proofs.lemmas.List.Elements.{All-more, All-same}
use Rattle.std.proofs.lemmas.Result.{on_ok_weaker}
use Rattle.dm_meta.proofs.ReadBack.{HasPlace}
use Rattle.dm_meta.proofs.lock.put_entries.Goals as goal

pub put_entry-requires : goal.put_entry-requires
put_entry-requires c =
    subst (λ entry. IsUtf8 entry.shard) (sym c.entry-item.is) (c.requires c.loop-entry.entry-index c.entry-item.result c.loop-entry-test.true)

pub loop-entry-preserved : goal.loop-entry-preserved
loop-entry-preserved c = record {
  tokens = grind (arith, common_steps);
  before = search rules;
  items = All-more HasPlace c.args.entries.now c.loop-entry.entry-index c.entry-item.result c.loop-entry-test.true c.loop-entry.invariant.items (subst HasPlace c.entry-item.is c.in_ok-put_entry.ensures.item);
}

pub returns-clause-items : goal.returns-clause-items
returns-clause-items c =
    on_ok_weaker c.end_array.result (λ ended. All-same HasPlace _ _ (sym (take_all c.loop-entry.entry-index c.args.entries.now c.loop-entry-test.false)) c.loop-entry.invariant.items) c.end_array.ensures.ok
