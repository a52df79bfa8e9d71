use Rattle.std.proofs.Common.{◌≡◌, [], take}
use Rattle.network.specs.Words.{each, double_at_link}
use Rattle.network_faults.proofs.double.check_links.Given as goal

abbrev pub invariant-loop-i : goal.invariant-loop-i
invariant-loop-i l = each double_at_link (take l.i l.joined.links.now) ≡ []
