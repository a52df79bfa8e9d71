use Rattle.std.proofs.Common.{take}
use Rattle.network_faults.specs.Lookups.{AreIds}
use Rattle.network_faults.proofs.streams.Ids.new.Given as goal

abbrev pub invariant-loop-vl : goal.invariant-loop-vl
invariant-loop-vl l = AreIds l.numbers (take l.vl-index l.vls)
