use Rattle.std.proofs.Common.{◌≡◌, ℕ, ◌<◌, false, length, take, get_or}
use Rattle.network.specs.declared.limits.TheConstants.{GREATEST_PORTS}
use Rattle.nodes.specs.Words.{is_by}
use Rattle.nodes.proofs.opening.meeting.ports_by.Given as goal

abbrev pub invariant-loop-way : goal.invariant-loop-way
invariant-loop-way l = record {
  len : length l.ports ≡ GREATEST_PORTS;
  marked : (q : ℕ) → q < GREATEST_PORTS → get_or l.ports q false ≡ is_by (take l.way-index l.ways) q;
}
