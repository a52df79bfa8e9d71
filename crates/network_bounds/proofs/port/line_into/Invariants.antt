use Rattle.std.proofs.Common.{◌≡◌, ◌≤◌, length}
use Rattle.network.specs.Words.{lines_of}
use Rattle.network_bounds.specs.Mixing.{line_below, line_into}
use Rattle.network_bounds.proofs.port.line_into.Given as goal

abbrev pub invariant-loop-count : goal.invariant-loop-count
invariant-loop-count l = record {
  rest : line_below l.network l.node l.port l.count ≡ line_into l.network l.node l.port;
  within : l.count ≤ length (lines_of l.network);
}

abbrev pub decreases-loop-count : goal.decreases-loop-count
decreases-loop-count l = l.count
