use Rattle.std.proofs.Common.{ltb, rules}
use Rattle.std.proofs.lemmas.List.Sorted.{IsPartitionPoint-from_clause, IsPartitionedBy-ltb}
use Rattle.row_times.proofs.rows.count_before.Goals as goal

pub returns-clause-point : goal.returns-clause-point
returns-clause-point c =
    let parted = IsPartitionedBy-ltb (λ row. row.message.time) _ c.args.moment c.requires in
    IsPartitionPoint-from_clause (λ row. ltb row.message.time c.args.moment) _ _ c.partition_point.ensures.partitioned parted (λ a r q k. search rules)
