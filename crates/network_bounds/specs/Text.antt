-- The text of the bounds: comma-separated rows, each with a line feed at its end.
use Rattle.std.specs.Prelude.{◌≡◌, ℕ, ◌+◌, ◌-◌, cond, nat_le, nat_lt, codes, List, [], ◌∷◌, ◌++◌, flat_map, length, slice_get, Result, Ok, Err}
use Rattle.std.specs.Option.{option_map_or}
use Rattle.network.specs.Words.{Plan, VlPlan, destinations_of, lines_of}
use Rattle.row_types.specs.declared.rows.VirtualLink.{VirtualLink}
use Rattle.trace_segments.specs.Words.{line}
use Rattle.network_bounds.specs.declared.ages.Span.{Span}
use Rattle.network_bounds.specs.declared.reason.Reason.{Reason}
use Rattle.network_bounds.specs.declared.delays.PortBound.{PortBound}
use Rattle.network_bounds.specs.Numbers.{capped}
use Rattle.network_bounds.specs.Delays.{AreBounds}
use Rattle.network_bounds.specs.Ages.{wait_of}
use Rattle.network_bounds.specs.Least.{span_of}
use Rattle.network_bounds.specs.declared.sizes.Senders.{Senders}
use Rattle.network_bounds.specs.Sizes.{known_sizes}
use Rattle.network_bounds.specs.Said.{Said, said_line}
use Rattle.network_bounds.specs.Said.Said.{Bound, NoBound, NoRoom, Port}

-- the first line
abbrev pub bounds_head : List ℕ
bounds_head =
    line (codes "kind" ∷ codes "of" ∷ codes "where" ∷ codes "network_ns" ∷ codes "wait_ns" ∷ codes "bound_ns" ∷ codes "least_ns" ∷ codes "jitter_ns" ∷ codes "skew_ns" ∷ codes "sure" ∷ codes "sure_ns" ∷ [])

-- of a virtual link at a destination
abbrev pub destination_said : Plan → VirtualLink → ℕ → Result Span Reason → Said
destination_said plan link n (Ok span) =
    let bound = capped (span.most + wait_of plan link) in
    Bound (record { link = link.id.0; place = n; network_ns = span.most; wait_ns = wait_of plan link; bound_ns = bound; least_ns = span.least; jitter_ns = bound - span.least })
destination_said plan link n (Err why) = NoBound link.id.0 n why

abbrev pub destination_line : Plan → VirtualLink → ℕ → Result Span Reason → List ℕ
destination_line plan link n found = said_line plan (destination_said plan link n found)

-- at each of these destinations that there is
abbrev pub destination_text : Plan → List PortBound → VirtualLink → ℕ → List ℕ
destination_text plan bounds link n = cond (nat_lt n (length plan.nodes)) (destination_line plan link n (span_of plan bounds link n)) []

abbrev pub destinations_text : Plan → List PortBound → VirtualLink → List ℕ → List ℕ
destinations_text plan bounds link ns = flat_map (destination_text plan bounds link) ns

-- of each virtual link
abbrev pub link_text : Plan → List PortBound → VlPlan → List ℕ
link_text plan bounds vl = destinations_text plan bounds vl.link (destinations_of vl)

abbrev pub links_text : Plan → List PortBound → List ℕ
links_text plan bounds = flat_map (link_text plan bounds) plan.vls

-- the port before a line, at whose node so many bytes may wait
abbrev pub port_said : ℕ → ℕ → Result ℕ Reason → Said
port_said k room (Ok waiting) = Port (record { line = k; bytes = waiting; holds = nat_le waiting room })
port_said k room (Err why) = NoRoom k why

abbrev pub port_line : Plan → ℕ → ℕ → Result ℕ Reason → List ℕ
port_line plan k room waiting = said_line plan (port_said k room waiting)

abbrev pub port_bytes_of : Plan → ℕ → ℕ
port_bytes_of plan n = option_map_or (λ node. node.port_bytes) (slice_get plan.nodes n) 0

abbrev pub port_text : Plan → ℕ → PortBound → List ℕ
port_text plan k bound = option_map_or (λ ahead. port_line plan k (port_bytes_of plan ahead.from) bound.waiting) (slice_get (lines_of plan) k) []

-- the ports before line k and those behind it
abbrev pub ports_from : Plan → ℕ → List PortBound → List ℕ
ports_from plan k [] = []
ports_from plan k (bound ∷ bounds) = port_text plan k bound ++ ports_from plan (k + 1) bounds

abbrev pub ports_text : Plan → List PortBound → List ℕ
ports_text plan bounds = ports_from plan 0 bounds

-- ---- what the lines say, one after another

abbrev pub destination_saids : Plan → List PortBound → VirtualLink → ℕ → List Said
destination_saids plan bounds link n = cond (nat_lt n (length plan.nodes)) (destination_said plan link n (span_of plan bounds link n) ∷ []) []

abbrev pub link_saids : Plan → List PortBound → VlPlan → List Said
link_saids plan bounds vl = flat_map (destination_saids plan bounds vl.link) (destinations_of vl)

abbrev pub port_saids : Plan → ℕ → PortBound → List Said
port_saids plan k bound = option_map_or (λ ahead. port_said k (port_bytes_of plan ahead.from) bound.waiting ∷ []) (slice_get (lines_of plan) k) []

abbrev pub ports_said_from : Plan → ℕ → List PortBound → List Said
ports_said_from plan k [] = []
ports_said_from plan k (bound ∷ bounds) = port_saids plan k bound ++ ports_said_from plan (k + 1) bounds

abbrev pub saids_of : Plan → List PortBound → List Said
saids_of plan bounds = flat_map (link_saids plan bounds) plan.vls ++ ports_said_from plan 0 bounds

-- ---- the whole text

-- each virtual link at each destination, and each port
abbrev pub bounds_text : Plan → List PortBound → List ℕ
bounds_text plan bounds = bounds_head ++ (links_text plan bounds ++ ports_text plan bounds)

-- this is the text of bounds of the network, by some weights for each port
abbrev pub IsBoundsText : Senders → Plan → List ℕ → Type 0
IsBoundsText senders plan text = (bounds : List PortBound) × AreBounds (known_sizes senders plan) plan (lines_of plan) bounds × (text ≡ bounds_text plan bounds)
