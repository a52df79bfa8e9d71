use Rattle.std.proofs.Common.{◌≡◌, drop}
use Rattle.network_bounds.specs.Sizes.{sizes_in, sizes_with}
use Rattle.network_bounds.proofs.sizes.sizes.Given as goal

abbrev pub invariant-loop-row : goal.invariant-loop-row
invariant-loop-row l = sizes_with l.link.id.0 l.found (drop l.row-index l.network.streams) ≡ sizes_in l.network l.link
