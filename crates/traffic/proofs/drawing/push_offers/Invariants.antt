use Rattle.std.proofs.Common.{◌≡◌, ◌+◌, ◌*◌, ◌≤◌, ◌++◌, map}
use Rattle.std.specs.List.{range_with_len}
use Rattle.vlink.specs.declared.time.TheConstants.{LATEST_NS}
use Rattle.traffic.specs.Counting.{IsSumOf}
use Rattle.traffic.specs.Offers.{generator_at, come_until, drawn_before, last_of, offer_of}
use Rattle.traffic.proofs.drawing.push_offers.Given as goal

abbrev pub invariant-loop-k : goal.invariant-loop-k
invariant-loop-k l = record {
  pushed : l.offers.items ≡ l.fn.offers.items ++ come_until (last_of l.fn.until l.stream.stream) (map (offer_of l.seed l.stream) (range_with_len 0 (l.k * l.stream.stream.frames)));
  words : l.words ≡ generator_at l.seed l.stream.number l.k;
  before : IsSumOf l.stream.stream.timing l.before (drawn_before l.seed l.stream l.k);
  most : l.before ≤ LATEST_NS + 1;
}
