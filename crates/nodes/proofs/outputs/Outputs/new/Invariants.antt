use Rattle.std.proofs.Common.{◌≡◌, ◌≤◌, ◌++◌, length, drop}
use Rattle.nodes.specs.Words.{marked_from}
use Rattle.nodes.proofs.outputs.Outputs.new.Given as goal

-- the ports so far and those from this one on are all
abbrev pub invariant-loop-port : goal.invariant-loop-port
invariant-loop-port l = record {
  room : length l.ports.items ≤ l.port;
  all : l.ports.items ++ marked_from l.port (drop l.port l.marks) ≡ marked_from 0 l.marks;
}
