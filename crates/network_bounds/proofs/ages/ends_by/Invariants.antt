use Rattle.std.proofs.Common.{◌≡◌, ◌==◌, ◌&&◌, drop}
use Rattle.std.specs.List.{list_any}
use Rattle.network.specs.Words.{arrivals_of}
use Rattle.network_bounds.proofs.ages.ends_by.Given as goal

abbrev pub invariant-loop-way : goal.invariant-loop-way
invariant-loop-way l =
    list_any (λ way. (way.vl.0 == l.id.0) && (way.port == l.port)) (drop l.way-index (arrivals_of l.network l.node))
    ≡ list_any (λ way. (way.vl.0 == l.id.0) && (way.port == l.port)) (arrivals_of l.network l.node)
