-- The greatest size of a network, and which numbers it has, as the limits of the keys of its description leave them. Times are in ns, and
-- the bandwidth allocation gap is in ms.
use Rattle.std.specs.Prelude.{ℕ, ◌≤◌, ⊤}
use Rattle.vlink.specs.declared.time.TheConstants.{LATEST_NS}
use Rattle.network_rows.specs.declared.table.TheConstants.{SECOND_NS}
use Rattle.row_types.specs.declared.rows.NodeKind.{NodeKind}
use Rattle.row_types.specs.declared.rows.NodeKind.TheVariants.{EndSystem, Switch}
use Rattle.row_types.specs.declared.rows.Stream.{Stream}
use Rattle.row_types.specs.declared.rows.VirtualLink.{VirtualLink}

-- the most processes of a network, ports of a switch, outages of a network, destinations of a virtual link, and rows of streams
abbrev pub greatest_processes : ℕ
greatest_processes = 4096

abbrev pub greatest_ports : ℕ
greatest_ports = 24

abbrev pub greatest_outages : ℕ
greatest_outages = 1024

abbrev pub greatest_destinations : ℕ
greatest_destinations = 64

abbrev pub greatest_streams : ℕ
greatest_streams = 65536

-- what an application offers: how many frames, and when; their sizes are within the limits of all frames
pub record IsStreamInLimits (stream : Stream) : Type 0 where
  pub least_frames : 1 ≤ stream.frames
  pub greatest_frames : stream.frames ≤ 64
  pub offset : stream.offset_ns ≤ LATEST_NS
  pub least_period : 1000 ≤ stream.period_ns
  pub greatest_period : stream.period_ns ≤ LATEST_NS
  pub jitter : stream.jitter_ns ≤ SECOND_NS

-- what is agreed of the frames of a virtual link; their sizes are within the limits of all frames
pub record IsLinkInLimits (link : VirtualLink) : Type 0 where
  pub id : link.id.0 ≤ 65535
  pub least_bag : 1 ≤ link.bag_ms
  pub greatest_bag : link.bag_ms ≤ 128
  pub policing_jitter : link.policing_jitter_ns ≤ SECOND_NS
  pub skew_max : link.skew_max_ns ≤ SECOND_NS
  pub least_depth : 1 ≤ link.depth
  pub greatest_depth : link.depth ≤ 1024
  pub least_sub : 1 ≤ link.sub
  pub greatest_sub : link.sub ≤ 4
  pub own : IsStreamInLimits link.own

-- how long a frame takes through a switch
abbrev pub IsKindInLimits : NodeKind → Type 0
IsKindInLimits EndSystem = ⊤
IsKindInLimits (Switch net latency_ns) = (1 ≤ latency_ns) × (latency_ns ≤ SECOND_NS)
