-- For proofs alone: what is made of the virtual links at a node.
use Rattle.std.specs.Prelude.{ℕ, Bool, false, List, Option, None, Some, replicate, slice_index_or}
use Rattle.network.specs.declared.limits.TheConstants.{GREATEST_PORTS}
use Rattle.nodes.specs.declared.opening.meeting.Meeting.{Meeting}
use Rattle.nodes.specs.declared.transit.Transit.{Transit}
use Rattle.nodes.specs.declared.vl_end.VlEnd.{VlEnd}
use Rattle.nodes.specs.declared.source.Source.{Source}
use Rattle.nodes.specs.declared.reception.Reception.{Reception}
use Rattle.nodes.specs.rules.Finding.{Found, find}
use Rattle.nodes.specs.rules.Opening.{regulator_of, receiving_of, transit_by}

-- its number
abbrev pub number_met : Meeting → ℕ
number_met m = m.link.id.0

-- at an end system: port 0 leads to network A and port 1 to network B
abbrev pub end_met : Meeting → VlEnd
end_met m = record { vl = m.link.id; a = slice_index_or m.ports 0 false; b = slice_index_or m.ports 1 false }

abbrev pub source_met : Meeting → Source
source_met m = record { end = end_met m; regulator = regulator_of m.link }

abbrev pub reception_met : Meeting → Reception
reception_met m = record { end = end_met m; receiving = receiving_of m.link }

-- the ports of the virtual link with this number
abbrev pub ports_found : Option (Found Meeting) → List Bool
ports_found None = replicate GREATEST_PORTS false
ports_found (Some found) = found.entry.ports

abbrev pub ports_among : List Meeting → ℕ → List Bool
ports_among meetings id = ports_found (find number_met meetings id)

-- at a switch, where these virtual links leave it
abbrev pub transit_met : List Meeting → Meeting → Transit
transit_met departing m = transit_by m.link m.first (ports_among departing m.link.id.0)
