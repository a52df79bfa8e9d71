use Rattle.std.proofs.Common.{◌≡◌, ◌+◌, ◌*◌, ◌≤◌, length, flat_map}
use Rattle.vlink.specs.declared.time.TheConstants.{LATEST_NS}
use Rattle.traffic.specs.Offers.{offers_from}
use Rattle.traffic.specs.Places.{streams_before}
use Rattle.traffic.proofs.offer_counting.offer_count.Given as goal

abbrev pub invariant-loop-place : goal.invariant-loop-place
invariant-loop-place l = record {
  count_is : l.count ≡ length (flat_map (offers_from l.network.seed l.network.until) (streams_before l.network l.place));
  few : 1000 * l.count ≤ l.place * (64 * (LATEST_NS + 1000));
}
