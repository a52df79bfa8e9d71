use Rattle.std.proofs.Common.{take}
use Rattle.network.specs.Words.{names_of}
use Rattle.network_faults.specs.Lookups.{AreNumbers}
use Rattle.network_faults.proofs.names.Names.new.Given as goal

abbrev pub invariant-loop-i : goal.invariant-loop-i
invariant-loop-i l = AreNumbers l.numbers (names_of (take l.i l.nodes))
