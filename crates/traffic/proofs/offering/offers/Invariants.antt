use Rattle.std.proofs.Common.{◌≡◌, flat_map}
use Rattle.traffic.specs.Offers.{offers_from}
use Rattle.traffic.specs.Places.{streams_before}
use Rattle.traffic.proofs.offering.offers.Given as goal

abbrev pub invariant-loop-place : goal.invariant-loop-place
invariant-loop-place l = l.offers.items ≡ flat_map (offers_from l.network.seed l.network.until) (streams_before l.network l.place)
