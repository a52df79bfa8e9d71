use Rattle.std.proofs.Common.{◌≡◌, take, map}
use Rattle.network.specs.Words.{destinations_of, lists_of}
use Rattle.network_tables.proofs.routes.all_destinations.Given as goal

abbrev pub invariant-loop-vl : goal.invariant-loop-vl
invariant-loop-vl l = lists_of l.table ≡ map destinations_of (take l.vl-index l.vls)
