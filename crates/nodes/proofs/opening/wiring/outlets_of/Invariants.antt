use Rattle.std.proofs.Common.{◌≡◌, map, take, option_map}
use Rattle.nodes.specs.Words.{outlet_of}
use Rattle.nodes.proofs.opening.wiring.outlets_of.Given as goal

abbrev pub invariant-loop-ahead : goal.invariant-loop-ahead
invariant-loop-ahead l = l.outlets.items ≡ map (option_map (outlet_of l.bytes)) (take l.ahead-index l.lines_ahead)
