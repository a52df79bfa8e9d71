use Rattle.std.proofs.Common.{◌≡◌, ◌+◌, ◌≤◌}
use Rattle.vlink.specs.declared.time.TheConstants.{LATEST_NS}
use Rattle.traffic.specs.Counting.{IsSumOf, come_count}
use Rattle.traffic.specs.Offers.{drawn_before, generator_at}
use Rattle.traffic.proofs.offer_counting.burst_count.Given as goal

abbrev pub invariant-loop-k : goal.invariant-loop-k
invariant-loop-k l = record {
  count_is : l.count ≡ come_count l.seed l.last l.stream l.k;
  words : l.words ≡ generator_at l.seed l.stream.number l.k;
  before : IsSumOf l.stream.stream.timing l.before (drawn_before l.seed l.stream l.k);
  most : l.before ≤ LATEST_NS + 1;
  few : l.count ≤ l.k;
}
