use Rattle.std.proofs.Common.{◌≡◌, map, take}
use Rattle.network_bounds.proofs.SizeLemmas.{sizes_of_vl}
use Rattle.network_bounds.proofs.sizes.all_sizes.Given as goal

abbrev pub invariant-loop-vl : goal.invariant-loop-vl
invariant-loop-vl l = l.found.items ≡ map (sizes_of_vl l.senders l.network) (take l.vl l.network.vls)
