use Rattle.std.proofs.Common.{◌∙◌, ap, leb}
use Rattle.std.proofs.Common.{rules}
use Rattle.std.proofs.lemmas.List.Sorted.{IsPartitionPoint-from_clause}
use Rattle.dm_track.specs.Histories.{History, ddl_numbers}
use Rattle.dm_track.proofs.Numbers.{passed}
use Rattle.dm_track.proofs.history.History.ddls_before.Goals as goal

pub returns : goal.returns
returns c =
    passed c.args.self.now.items c.args.position c.partition_point.result c.as_slice-ddls.result.now
    (c.as_slice-ddls.ensures ∙ c.self.invariant ∙ ap (λ (h : History). ddl_numbers 1 h.items) c.self.view_is)
    c.partition_point.ensures.bound
    (λ sorted. IsPartitionPoint-from_clause (λ y. leb y c.args.position) c.as_slice-ddls.result.now c.partition_point.result c.partition_point.ensures.partitioned sorted (λ a r q k. search rules))
