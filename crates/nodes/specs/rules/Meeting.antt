-- Definition: the virtual links at a node, and the ports by which each leaves it or comes in.
use Rattle.std.specs.Prelude.{ℕ, ◌==◌, not, Bool, List, [], ◌∷◌, map, filter}
use Rattle.std.specs.List.{list_any, range_with_len}
use Rattle.network.specs.declared.limits.TheConstants.{GREATEST_PORTS}
use Rattle.network.specs.declared.wiring.Way.{Way}
use Rattle.network.specs.Words.{Plan, VlPlan, is_none, lines_of, leaves, comes_in}
use Rattle.nodes.specs.declared.opening.meeting.Meeting.{Meeting}
use Rattle.nodes.specs.declared.opening.meeting.Side.{Side}
use Rattle.nodes.specs.declared.opening.meeting.Side.TheVariants.{Out, In}

-- the ways by which a virtual link leaves node n, or comes in there
abbrev pub ways_at : Plan → ℕ → Side → VlPlan → List Way
ways_at plan n Out = leaves n (lines_of plan) plan.links
ways_at plan n In = comes_in n (lines_of plan) plan.links

-- those virtual links that have such a way, by rising number
abbrev pub with_ways : (VlPlan → List Way) → List VlPlan → List VlPlan
with_ways ways vls = filter (λ vl. not (is_none (ways vl))) vls

-- the port of the first way
abbrev pub first_port : List Way → ℕ
first_port [] = 0
first_port (way ∷ ways) = way.port

-- one of the ways is by port q; and that of each port
abbrev pub is_by : List Way → ℕ → Bool
is_by ways q = list_any (λ way. way.port == q) ways

unfoldable pub ports_by : List Way → List Bool
ports_by ways = map (is_by ways) (range_with_len 0 GREATEST_PORTS)

-- a virtual link with its ports, and those of all virtual links that have such a way
abbrev pub meeting : (VlPlan → List Way) → VlPlan → Meeting
meeting ways vl = record { link = vl.link; first = first_port (ways vl); ports = ports_by (ways vl) }

abbrev pub meetings : Plan → ℕ → Side → List Meeting
meetings plan n side = map (meeting (ways_at plan n side)) (with_ways (ways_at plan n side) plan.vls)
