use Rattle.std.proofs.Common.{◌≡◌, drop}
use Rattle.network_bounds.specs.Passing.{first_port_of}
use Rattle.network_bounds.proofs.passing.first_port_of.Given as goal

abbrev pub invariant-loop-way : goal.invariant-loop-way
invariant-loop-way l = first_port_of (drop l.way-index l.ways) l.id.0 ≡ first_port_of l.ways l.id.0
