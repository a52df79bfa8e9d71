use Rattle.std.proofs.Common.{◌≡◌, ◌<◌, ◌++◌, length, All}
use Rattle.network.specs.declared.limits.TheConstants.{GREATEST_PORTS}
use Rattle.network.specs.Words.{IsLinkInLimits}
use Rattle.nodes.specs.Words.{all_met}
use Rattle.nodes.proofs.opening.meeting.all_met.Given as goal

abbrev pub invariant-loop-rest : goal.invariant-loop-rest
invariant-loop-rest l = record {
  met : l.found.items ++ all_met l.network l.rest ≡ all_met l.network l.ways;
  limits : All (λ m. IsLinkInLimits m.link) l.found.items;
  ports : All (λ way. way.port < GREATEST_PORTS) l.rest;
}

abbrev pub decreases-loop-rest : goal.decreases-loop-rest
decreases-loop-rest l = length l.rest
