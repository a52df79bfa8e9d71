use Rattle.std.proofs.Common.{◌≡◌, ℕ, ◌+◌, ◌<◌, ◌≤◌, get_or, take, map, length, vec_len, count_by}
use Rattle.network.specs.Words.{each, node_plan, directions, touches}
use Rattle.network_tables.proofs.lines.lines_of.Given as goal

abbrev pub invariant-loop-link : goal.invariant-loop-link
invariant-loop-link l = record {
  len : vec_len l.counts ≡ length l.nodes + 1;
  count_is : (j : ℕ) → j < vec_len l.counts → get_or l.counts.items j 0 ≡ count_by (touches j) (take l.link-index l.links);
  small : (j : ℕ) → j < vec_len l.counts → get_or l.counts.items j 0 ≤ l.link-index;
  made : l.lines.items ≡ each (directions (map node_plan l.nodes)) (take l.link-index l.links);
}
