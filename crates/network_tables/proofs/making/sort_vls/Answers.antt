use Rattle.std.proofs.Common.{rules}
use Rattle.std.proofs.lemmas.List.Sorted.{IsNonDecreasingBy-from_sort_by_key}
use Rattle.network.specs.Words.{id_of}
use Rattle.network.proofs.BuildLemmas.{rising-map}
use Rattle.network_tables.proofs.making.sort_vls.Goals as goal

pub returns-clause-in_order : goal.returns-clause-in_order
returns-clause-in_order c =
    let xs = c.sort_by_key.new.self.items in
    rising-map id_of xs (IsNonDecreasingBy-from_sort_by_key id_of xs c.in_ok-sort_by_key.ensures.sorted (λ a r q k. search rules))
