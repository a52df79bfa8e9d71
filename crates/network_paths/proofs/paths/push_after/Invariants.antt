use Rattle.std.proofs.Common.{◌≡◌, ◌++◌, drop}
use Rattle.network.specs.Words.{hops_after}
use Rattle.network_paths.proofs.paths.push_after.Given as goal

abbrev pub invariant-loop-to : goal.invariant-loop-to
invariant-loop-to l = l.hops.items ++ hops_after l.from (drop l.to-index l.others) ≡ l.fn.hops.items ++ hops_after l.fn.from l.others
