use Rattle.std.proofs.Common.{◌≡◌, map}
use Rattle.std.specs.List.{range_with_len}
use Rattle.network_bounds.specs.Mixing.{byte_ns_into}
use Rattle.network_bounds.proofs.port.bytes_into.Given as goal

abbrev pub invariant-loop-port : goal.invariant-loop-port
invariant-loop-port l = l.found.items ≡ map (byte_ns_into l.network l.node) (range_with_len 0 l.port)
