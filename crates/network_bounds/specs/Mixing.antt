-- All that comes to a port, line by line, as certificates of `port_bounds` have it: of each line a mixture of what it can send and what its
-- virtual links can give.
use Rattle.std.specs.Prelude.{ℕ, suc, zero, ◌+◌, ◌*◌, ◌==◌, ◌&&◌, Bool, false, if◌then◌else◌, List, [], ◌∷◌, Option, None, Some, max, min, nat_le, nat_lt, slice_get, slice_index_or, length, map, option_map}
use Rattle.std.specs.Option.{option_map_or}
use Rattle.std.specs.List.{range_with_len}
use Rattle.network.specs.declared.wiring.LinePlan.{LinePlan}
use Rattle.network.specs.Words.{Plan, is_end_system, lines_of}
use Rattle.port_bounds.specs.Mixtures.{Flow, Group, flows_burst, flows_rate, groups_burst, groups_rate, mixed}
use Rattle.network_bounds.specs.declared.passing.Passing.{Passing}
use Rattle.network_bounds.specs.declared.mixing.Mixture.{Mixture}
use Rattle.network_bounds.specs.declared.mixing.Choice.{Choice}
use Rattle.network_bounds.specs.declared.mixing.Choice.TheVariants.{Least, By}
use Rattle.network_bounds.specs.declared.share.Share.{Share}
use Rattle.network_bounds.specs.Numbers.{SCALE, WHOLE, capped}
use Rattle.network_bounds.specs.declared.sizes.LinkSizes.{LinkSizes}
use Rattle.network_bounds.specs.Curves.{burst_of, cost_of, flow_of, rate_of}
use Rattle.network_bounds.specs.Passing.{comes, passings}

-- no node has more ports
abbrev pub PORTS : ℕ
PORTS = 24

-- the port before a line: whether it is that of an end system, the ns of a byte on the line, what leaves by it, and for each port by which frames come in the
-- ns of a byte on the line there
pub record PortPlan : Type 0 where
  pub is_end : Bool
  pub byte_ns : ℕ
  pub passings : List Passing
  pub before : List (Option ℕ)

-- whether line i leads to port j of node n; the last such line of the first k
abbrev pub leads_to : Plan → ℕ → ℕ → ℕ → Bool
leads_to plan n j i = option_map_or (λ line. (line.to == n) && (line.to_port == j)) (slice_get (lines_of plan) i) false

abbrev pub line_below : Plan → ℕ → ℕ → ℕ → Option ℕ
line_below plan n j zero = None
line_below plan n j (suc k) = if leads_to plan n j k then Some k else line_below plan n j k

abbrev pub line_into : Plan → ℕ → ℕ → Option ℕ
line_into plan n j = line_below plan n j (length (lines_of plan))

abbrev pub byte_ns_into : Plan → ℕ → ℕ → Option ℕ
byte_ns_into plan n j = option_map_or (λ k. option_map (λ line. line.byte_ns) (slice_get (lines_of plan) k)) (line_into plan n j) None

-- where the frames of each virtual link have these sizes
abbrev pub port_before : (ℕ → LinkSizes) → Plan → LinePlan → PortPlan
port_before known plan line = record {
  is_end = is_end_system plan.nodes line.from;
  byte_ns = line.byte_ns;
  passings = passings known plan line.from line.from_port;
  before = map (byte_ns_into plan line.from) (range_with_len 0 PORTS);
}

-- ---- what comes by port j with one priority

abbrev pub flows_by : (Passing → Bool) → (Passing → Flow) → List Passing → List Flow
flows_by test flow [] = []
flows_by test flow (p ∷ ps) = if test p then flow p ∷ flows_by test flow ps else flows_by test flow ps

abbrev pub greatest_by : (Passing → Bool) → (Passing → ℕ) → List Passing → ℕ
greatest_by test cost [] = 0
greatest_by test cost (p ∷ ps) = if test p then max (cost p) (greatest_by test cost ps) else greatest_by test cost ps

-- by their gaps, or by their BAGs
abbrev pub flows_at : PortPlan → Bool → ℕ → Bool → List Flow
flows_at port by_gap j high = flows_by (comes port.is_end j high) (flow_of port.is_end by_gap port.byte_ns) port.passings

abbrev pub greatest_at : PortPlan → ℕ → Bool → ℕ
greatest_at port j high = greatest_by (comes port.is_end j high) (cost_of port.byte_ns) port.passings

-- a line bounds what comes where it is no faster than the line ahead; an end system's own frames come by none
abbrev pub is_bounding : PortPlan → ℕ → Bool
is_bounding port j = if port.is_end then false else option_map_or (λ before. nat_le port.byte_ns before) (slice_index_or port.before j None) false

abbrev pub line_burst_at : PortPlan → Bool → ℕ → Bool → ℕ
line_burst_at port by_gap j high = if is_bounding port j then SCALE * greatest_at port j high else flows_burst (flows_at port by_gap j high)

abbrev pub line_rate_at : PortPlan → Bool → ℕ → Bool → ℕ
line_rate_at port by_gap j high = if is_bounding port j then SCALE else flows_rate (flows_at port by_gap j high)

-- what comes, with one virtual link more, in numbers of 128 bits
abbrev pub with_link : Share → Bool → Bool → ℕ → Passing → Share
with_link share is_end by_gap byte_ns p = record share {
  burst = capped (share.burst + burst_of is_end by_gap byte_ns p);
  rate = capped (share.rate + rate_of is_end by_gap byte_ns p);
  greatest = max share.greatest (cost_of byte_ns p);
}

-- that, in numbers of 128 bits; without what the line bounds, and with it
abbrev pub flows_share : PortPlan → Bool → ℕ → Bool → Share
flows_share port by_gap j high = record {
  is_bounding = false;
  line_burst = 0;
  line_rate = 0;
  burst = capped (flows_burst (flows_at port by_gap j high));
  rate = capped (flows_rate (flows_at port by_gap j high));
  greatest = greatest_at port j high;
}

abbrev pub share_at : PortPlan → Bool → ℕ → Bool → Share
share_at port by_gap j high = record {
  is_bounding = is_bounding port j;
  line_burst = capped (line_burst_at port by_gap j high);
  line_rate = capped (line_rate_at port by_gap j high);
  burst = capped (flows_burst (flows_at port by_gap j high));
  rate = capped (flows_rate (flows_at port by_gap j high));
  greatest = greatest_at port j high;
}

-- ---- weights: whatever they are, the mixture is a bound

-- those of the least rate, or these by port, of WHOLE parts; and how virtual links count
abbrev pub weight_by : Choice → ℕ → Share → ℕ
weight_by Least j share = if nat_lt share.line_rate share.rate then WHOLE else 0
weight_by (By parts) j share = min WHOLE (slice_index_or parts.of_line j 0)

abbrev pub gaps_in : Choice → Bool
gaps_in Least = false
gaps_in (By parts) = parts.by_gap

-- none where the line bounds nothing
abbrev pub weight_of : Choice → ℕ → Share → ℕ
weight_of choice j share = if share.is_bounding then weight_by choice j share else 0

abbrev pub group_at : PortPlan → Choice → Bool → ℕ → Group
group_at port choice high j = record {
  line = j;
  burst = line_burst_at port (gaps_in choice) j high;
  rate = line_rate_at port (gaps_in choice) j high;
  weight = weight_of choice j (share_at port (gaps_in choice) j high);
  flows = flows_at port (gaps_in choice) j high;
}

-- the groups of the ports below j
abbrev pub groups_below : PortPlan → Choice → Bool → ℕ → List Group
groups_below port choice high zero = []
groups_below port choice high (suc j) = group_at port choice high j ∷ groups_below port choice high j

abbrev pub greatest_below : PortPlan → Bool → ℕ → ℕ
greatest_below port high zero = 0
greatest_below port high (suc j) = max (greatest_at port j high) (greatest_below port high j)

abbrev pub groups_at : PortPlan → Choice → Bool → List Group
groups_at port choice high = groups_below port choice high PORTS

-- the mixture of all that comes with one priority, and the greatest cost of a frame of it
abbrev pub mixed_below : PortPlan → Choice → Bool → ℕ → Mixture
mixed_below port choice high j = record {
  burst = capped (groups_burst WHOLE (groups_below port choice high j));
  rate = capped (groups_rate WHOLE (groups_below port choice high j));
  greatest = greatest_below port high j;
}

-- all that comes, with what comes by one line more, in numbers of 128 bits
abbrev pub with_share : Mixture → ℕ → Share → Mixture
with_share all weight share = record {
  burst = capped (capped (mixed WHOLE weight share.line_burst share.burst) + all.burst);
  rate = capped (capped (mixed WHOLE weight share.line_rate share.rate) + all.rate);
  greatest = max share.greatest all.greatest;
}

unfoldable pub mixed_at : PortPlan → Choice → Bool → Mixture
mixed_at port choice high = mixed_below port choice high PORTS
