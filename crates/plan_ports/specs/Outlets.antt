-- The ports of a network's nodes as its processes open, and the lines that they lead into.
use Rattle.std.specs.Prelude.{◌≡◌, ℕ, ◌+◌, ◌<◌, length, slice_get, Some}
use Rattle.std.specs.Option.{option_map_or}
use Rattle.port_bounds.specs.Port.{idle}
use Rattle.element_bounds.specs.PortTrace.{IsSamePort}
use Rattle.network.specs.declared.wiring.LinePlan.{LinePlan}
use Rattle.network.specs.Words.{Plan, lines_of, process_count}
use Rattle.nodes.specs.declared.ports.Outlet.{Outlet}
use Rattle.nodes.specs.rules.Opening.{line_opening, opening}
use Rattle.port_turns.specs.PortEvents.{outlet_in}
use Rattle.port_turns.specs.Arrivals.{IsWay}
use Rattle.seqsim.specs.Networks.{setting_of}

-- line k is the process with this number
abbrev pub line_process : Plan → ℕ → ℕ
line_process plan k = length plan.nodes + k

-- no two lines leave a node by one port, and no two come to a node by one
pub record HaveOwnPorts (plan : Plan) : Type 0 where
  pub out : (i j : ℕ) (a b : LinePlan) → slice_get (lines_of plan) i ≡ Some a → slice_get (lines_of plan) j ≡ Some b → a.from ≡ b.from → a.from_port ≡ b.from_port → i ≡ j
  pub into : (i j : ℕ) (a b : LinePlan) → slice_get (lines_of plan) i ≡ Some a → slice_get (lines_of plan) j ≡ Some b → a.to ≡ b.to → a.to_port ≡ b.to_port → i ≡ j

-- how many bytes may wait at each port of node p
abbrev pub port_bytes_at : Plan → ℕ → ℕ
port_bytes_at plan p = option_map_or (λ node. node.port_bytes) (slice_get plan.nodes p) 0

-- port q of node p leads into line k, and nothing waits there
pub record LeadsInto (plan : Plan) (p q : ℕ) (outlet : Outlet) : Type 0 where
  pub k : ℕ
  pub line : LinePlan
  pub read : slice_get (lines_of plan) k ≡ Some line
  pub from : line.from ≡ p
  pub from_port : line.from_port ≡ q
  pub ahead : outlet.ahead ≡ record { line = line_process plan k; byte_ns = line.byte_ns }
  pub empty : IsSamePort outlet.port idle
  pub room : outlet.port.bytes ≡ port_bytes_at plan p

-- so does each port that there is
abbrev pub AllLead : Plan → Type 0
AllLead plan = (p q : ℕ) (outlet : Outlet) → outlet_in (opening plan p).equipment q ≡ Some outlet → LeadsInto plan p q outlet

-- line k is the way from its port to the port to which it leads
pub record IsLineWay (plan : Plan) (k : ℕ) (line : LinePlan) : Type 0 where
  pub outlet : Outlet
  pub way : IsWay (setting_of plan) line.from line.from_port (line_process plan k) line.to line.to_port outlet (line_opening plan k (Some line))
  pub byte_ns : outlet.ahead.byte_ns ≡ line.byte_ns
  pub from_below : line.from < process_count plan
  pub line_below : line_process plan k < process_count plan
  pub to_below : line.to < process_count plan

-- so is each line
abbrev pub AreWays : Plan → Type 0
AreWays plan = (k : ℕ) (line : LinePlan) → slice_get (lines_of plan) k ≡ Some line → IsLineWay plan k line
