use Rattle.std.proofs.Common.{take}
use Rattle.network.specs.Words.{lines_of}
use Rattle.network_bounds.specs.Delays.{AreBounds}
use Rattle.network_bounds.specs.Sizes.{sizes_by}
use Rattle.network_bounds.proofs.write.bounds_of.Given as goal

abbrev pub invariant-loop-line : goal.invariant-loop-line
invariant-loop-line l = AreBounds (sizes_by l.network l.known) l.network (take l.line (lines_of l.network)) l.bounds.items
