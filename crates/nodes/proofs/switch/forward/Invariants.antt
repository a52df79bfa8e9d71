use Rattle.std.proofs.Common.{◌≡◌, ◌+◌, ◌≤◌, length, drop}
use Rattle.reverse.specs.Sending.{replied}
use Rattle.nodes.specs.Words.{marked_from, forwarded}
use Rattle.nodes.proofs.switch.forward.Given as goal

-- what was sent so far and what the ports from this one on ask for is the whole
abbrev pub invariant-loop-port : goal.invariant-loop-port
invariant-loop-port l = record {
  room : length l.out.messages ≤ l.port-index;
  numbers : l.out.sender.counter ≤ l.fn.out.sender.counter + l.port-index;
  told : replied l.out (forwarded l.fn.out.sender.number l.ns l.frame (drop l.port-index (marked_from 0 l.transit.outputs))) ≡ replied l.fn.out (forwarded l.fn.out.sender.number l.ns l.frame (marked_from 0 l.transit.outputs));
}
