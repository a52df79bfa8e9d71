use Rattle.std.proofs.Common.{◌≡◌, ℕ, ◌<◌, ◌++◌, drop, vec_len}
use Rattle.network.specs.Words.{ways_over, ways_at}
use Rattle.network_tables.specs.Meeting.{way_at}
use Rattle.network_tables.proofs.routes.put_route.Given as goal

abbrev pub invariant-loop-k : goal.invariant-loop-k
invariant-loop-k l = record {
  len : vec_len l.table ≡ vec_len l.fn.table;
  put : (node : ℕ) → node < vec_len l.fn.table →
      ways_at l.table node ++ ways_over (way_at l.end node l.vl) l.lines (drop l.k-index l.route) ≡ ways_at l.fn.table node ++ ways_over (way_at l.end node l.vl) l.lines l.route;
}
