use Rattle.std.proofs.Common.{◌≡◌, ◌++◌, All, drop, flat_map}
use Rattle.network.specs.Words.{IsLinkInLimits, departures_of}
use Rattle.network_bounds.specs.Passing.{passing_at, passings}
use Rattle.network_bounds.specs.Sizes.{sizes_by}
use Rattle.network_bounds.proofs.passing.passings.Given as goal

abbrev pub invariant-loop-way : goal.invariant-loop-way
invariant-loop-way l = record {
  found : l.found.items ++ flat_map (passing_at (sizes_by l.network l.known) l.network l.node l.port) (drop l.way-index (departures_of l.network l.node)) ≡ passings (sizes_by l.network l.known) l.network l.node l.port;
  limits : All (λ p. IsLinkInLimits p.link) l.found.items;
}
