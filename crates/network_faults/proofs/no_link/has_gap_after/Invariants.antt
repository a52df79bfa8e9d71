use Rattle.std.proofs.Common.{◌≡◌, drop}
use Rattle.std.specs.List.{list_any}
use Rattle.network.specs.Words.{hops_after, is_gap}
use Rattle.network_faults.proofs.no_link.has_gap_after.Given as goal

abbrev pub invariant-loop-to : goal.invariant-loop-to
invariant-loop-to l =
    list_any (is_gap l.joined.links.now) (hops_after l.from (drop l.to-index l.others)) ≡ list_any (is_gap l.joined.links.now) (hops_after l.fn.from l.others)
