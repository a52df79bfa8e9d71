use Rattle.std.proofs.Common.{take}
use Rattle.network_faults.specs.Lookups.{AreJoined}
use Rattle.network_faults.proofs.links.Joined.new.Given as goal

abbrev pub invariant-loop-i : goal.invariant-loop-i
invariant-loop-i l = AreJoined l.places (take l.i l.links)
