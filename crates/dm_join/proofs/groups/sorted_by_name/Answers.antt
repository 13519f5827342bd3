use Rattle.std.proofs.Common.{rules}
use Rattle.std.proofs.lemmas.Fn.{always_returns_same}
use Rattle.std.proofs.lemmas.List.Sorted.{ranks_by}
use Rattle.std.proofs.lemmas.Cmp.{nat_list_cmp_total}
use Rattle.dm_schema.specs.declared.column.Column.{Column}
use Rattle.dm_join.specs.Groups.{comes_before}
use Rattle.dm_join.proofs.GroupLemmas.{kept_by_sort}
use Rattle.dm_join.proofs.groups.sorted_by_name.Goals as goal

pub returns-clause-sorted : goal.returns-clause-sorted
returns-clause-sorted c = c.in_ok-sort_by.ensures.sorted comes_before (ranks_by nat_list_cmp_total (λ (d : Column). d.name)) (always_returns_same _ _ _ (λ a r f' k. search rules))

pub returns-clause-kept : goal.returns-clause-kept
returns-clause-kept c =
    kept_by_sort c.args.columns.items c.sort_by.new.self.items
    (c.sort_by.ensures.stable comes_before (ranks_by nat_list_cmp_total (λ (d : Column). d.name)) (always_returns_same _ _ _ (λ a r f' k. search rules)))
