use Rattle.std.proofs.Common.{rules, of_calls}
use Rattle.std.proofs.lemmas.Fn.{always_returns_same}
use Rattle.std.proofs.lemmas.List.Sorted.{ranks_by}
use Rattle.dm_value.proofs.OrderLemmas.{row_total}
use Rattle.dm_top.specs.Places.{values_from}
use Rattle.dm_top.proofs.OrderLemmas.{in_strict_order, not_in_strict_order, comes_before}
use Rattle.dm_top.proofs.order.in_order.Goals as goal

pub returns-then-is_sorted_by : goal.returns-then-is_sorted_by
returns-then-is_sorted_by c =
    let all = rw c.deref.ensures.value at c.if-is_sorted_by.ensures.cases (comes_before (λ row. row.now) (values_from c.args.origins.now)) (always_returns_same _ _ _ (λ a r f k. search (rules, of_calls))) in
    in_strict_order (λ row. row.now) (values_from c.args.origins.now) c.args.rows.items c.sort_by.new.self.items c.sort_by.ensures.permutation all

pub returns : goal.returns
returns c =
    let some = rw c.deref.ensures.value at c.if-is_sorted_by.ensures.cases (comes_before (λ row. row.now) (values_from c.args.origins.now)) (always_returns_same _ _ _ (λ a r f k. search (rules, of_calls))) in
    not_in_strict_order (λ row. row.now) (values_from c.args.origins.now) c.args.rows.items c.sort_by.new.self.items c.sort_by.ensures.permutation
    (c.in_ok-sort_by.ensures.sorted (comes_before (λ row. row.now) (values_from c.args.origins.now)) (ranks_by row_total (λ row. values_from c.args.origins.now row.now)) (always_returns_same _ _ _ (λ a r f k. search (rules, of_calls)))) some
