use Rattle.std.proofs.Common.{◌≡◌, ℕ, ◌<◌, ◌++◌, drop, vec_len, filter}
use Rattle.network.specs.Words.{is_outage_of, outages_at}
use Rattle.network_tables.proofs.lines.outage_table.Given as goal

abbrev pub invariant-loop-outage : goal.invariant-loop-outage
invariant-loop-outage l = record {
  len : vec_len l.table ≡ l.count;
  put : (k : ℕ) → k < l.count → outages_at l.table k ++ filter (is_outage_of l.joined.links.now k) (drop l.outage-index l.outages) ≡ filter (is_outage_of l.joined.links.now k) l.outages;
}
