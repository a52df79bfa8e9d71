-- The virtual links that leave a node by a port, and where each came in.
use Rattle.std.specs.Prelude.{ℕ, ◌==◌, ◌&&◌, Bool, not, if◌then◌else◌, List, [], ◌∷◌, flat_map, slice_get}
use Rattle.std.specs.Option.{option_map_or, option_and_then}
use Rattle.network.specs.declared.wiring.Way.{Way}
use Rattle.network.specs.Words.{Plan, VlPlan, arrivals_of, departures_of, is_end_system, place_of_vl}
use Rattle.network_bounds.specs.declared.passing.Passing.{Passing}
use Rattle.network_bounds.specs.Curves.{is_first}
use Rattle.network_bounds.specs.declared.sizes.FrameSizes.{FrameSizes}
use Rattle.network_bounds.specs.declared.sizes.LinkSizes.{LinkSizes}

-- the port by which the virtual link with this number comes in, of these ways
abbrev pub first_port_of : List Way → ℕ → ℕ
first_port_of [] id = 0
first_port_of (way ∷ ways) id = if way.vl.0 == id then way.port else first_port_of ways id

-- at an end system each frame is its own
abbrev pub input_of : Plan → ℕ → ℕ → ℕ
input_of plan n id = if is_end_system plan.nodes n then 0 else first_port_of (arrivals_of plan n) id

-- the sizes of its frames that count at a node: those that its end system sends, or those that an account passes
abbrev pub sizes_at : Bool → LinkSizes → FrameSizes
sizes_at is_end sizes = if is_end then sizes.sent else sizes.passed

abbrev pub passing_by : (ℕ → LinkSizes) → Plan → ℕ → Way → VlPlan → List Passing
passing_by known plan n way vl = record { link = vl.link; sizes = sizes_at (is_end_system plan.nodes n) (known way.vl.0); input = input_of plan n way.vl.0 } ∷ []

abbrev pub passing_of : (ℕ → LinkSizes) → Plan → ℕ → Way → List Passing
passing_of known plan n way = option_map_or (passing_by known plan n way) (option_and_then (slice_get plan.vls) (place_of_vl plan.vls way.vl.0)) []

-- those that leave node n by port q
abbrev pub passing_at : (ℕ → LinkSizes) → Plan → ℕ → ℕ → Way → List Passing
passing_at known plan n q way = if way.port == q then passing_of known plan n way else []

abbrev pub passings : (ℕ → LinkSizes) → Plan → ℕ → ℕ → List Passing
passings known plan n q = flat_map (passing_at known plan n q) (departures_of plan n)

abbrev pub are_same : Bool → Bool → Bool
are_same a b = if a then b else not b

-- it comes in by port j, and goes out with this priority
abbrev pub comes : Bool → ℕ → Bool → Passing → Bool
comes is_end j high p = (p.input == j) && are_same (is_first is_end p.link) high
