use Rattle.std.proofs.Common.{◌≡◌, ℕ, ◌<◌, ◌++◌, drop, vec_len, flat_map}
use Rattle.network.specs.Words.{leaves, comes_in, ways_at}
use Rattle.network_tables.proofs.routes.meetings_of.Given as goal

abbrev pub invariant-loop-vl : goal.invariant-loop-vl
invariant-loop-vl l = record {
  departures_len : vec_len l.departures ≡ l.count;
  arrivals_len : vec_len l.arrivals ≡ l.count;
  departed : (node : ℕ) → node < l.count → ways_at l.departures node ++ flat_map (leaves node l.lines l.joined.links.now) (drop l.vl-index l.vls) ≡ flat_map (leaves node l.lines l.joined.links.now) l.vls;
  arrived : (node : ℕ) → node < l.count → ways_at l.arrivals node ++ flat_map (comes_in node l.lines l.joined.links.now) (drop l.vl-index l.vls) ≡ flat_map (comes_in node l.lines l.joined.links.now) l.vls;
}
