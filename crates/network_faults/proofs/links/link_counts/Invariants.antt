use Rattle.std.proofs.Common.{◌≡◌, ℕ, ◌<◌, get_or, take, vec_len, count_by}
use Rattle.network.specs.Words.{touches}
use Rattle.network_faults.proofs.links.link_counts.Given as goal

abbrev pub invariant-loop-link : goal.invariant-loop-link
invariant-loop-link l = record {
  len : vec_len l.counts ≡ l.count;
  count_is : (j : ℕ) → j < l.count → get_or l.counts.items j 0 ≡ count_by (touches j) (take l.link-index l.links);
}
