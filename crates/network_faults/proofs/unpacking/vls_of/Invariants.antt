use Rattle.std.proofs.Common.{◌≡◌, List, map, take, drop, flat_map}
use Rattle.network.specs.Words.{VlPlan}
use Rattle.network_faults.specs.Packed.{packed_vl}
use Rattle.network_faults.proofs.unpacking.vls_of.Given as goal

-- the virtual links so far, and the numbers of those that are left
abbrev pub invariant-loop-link : goal.invariant-loop-link
invariant-loop-link l = (vls : List VlPlan) → l.links ≡ map (λ vl. vl.link) vls → l.initial.rest.numbers.now ≡ flat_map packed_vl vls →
    (l.vls.items ≡ take l.link-index vls) × (l.rest.numbers.now ≡ flat_map packed_vl (drop l.link-index vls))
