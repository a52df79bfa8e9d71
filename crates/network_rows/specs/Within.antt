-- What the limits of the table of keys imply for rows.
use Rattle.std.specs.Prelude.{◌≡◌, ℕ, ◌<◌, true, List, All, IfSome, ⊤}
use Rattle.network_rows.specs.declared.rule.Rule.{Rule}
use Rattle.row_types.specs.declared.rows.NodeKind.{NodeKind}
use Rattle.row_types.specs.declared.rows.NodeKind.TheVariants.{EndSystem, Switch}
use Rattle.row_types.specs.declared.rows.NodeRow.{NodeRow}
use Rattle.network_rows.specs.declared.rows.LinkRow.{LinkRow}
use Rattle.network_rows.specs.declared.rows.OutageRow.{OutageRow}
use Rattle.row_types.specs.declared.rows.Stream.{Stream}
use Rattle.row_types.specs.declared.rows.StreamRow.{StreamRow}
use Rattle.row_types.specs.declared.rows.VirtualLink.{VirtualLink}
use Rattle.network_rows.specs.declared.rows.VlRow.{VlRow}
use Rattle.network_rows.specs.declared.rows.Rows.{Rows}
use Rattle.network_rows.specs.Table as keys
use Rattle.network_rows.specs.ValueTypes.{allows, allows_text, allows_path}

-- the line of the table allows the number
abbrev pub Allows : Rule → ℕ → Type 0
Allows rule n = allows rule.value_type n ≡ true

abbrev pub IsNodeKindWithin : NodeKind → Type 0
IsNodeKindWithin EndSystem = ⊤
IsNodeKindWithin (Switch net latency_ns) = Allows keys.latency_ns latency_ns

pub record IsNodeWithin (row : NodeRow) : Type 0 where
  pub name : allows_text keys.name.value_type row.name ≡ true
  pub kind : IsNodeKindWithin row.kind
  pub port_bytes : Allows keys.port_bytes row.port_bytes

pub record IsLinkWithin (row : LinkRow) : Type 0 where
  pub propagation_ns : Allows keys.propagation_ns row.propagation_ns

pub record IsOutageWithin (row : OutageRow) : Type 0 where
  pub from_ns : Allows keys.from_ns row.from_ns
  pub to_ns : Allows keys.to_ns row.to_ns
  pub in_order : row.from_ns < row.to_ns

-- each path has so many names as the line of the table allows
abbrev pub ArePathsWithin : Rule → List (List (List ℕ)) → Type 0
ArePathsWithin rule paths = All (λ path. allows_path rule.value_type path ≡ true) paths

pub record IsStreamWithin (stream : Stream) : Type 0 where
  pub size : Allows keys.size stream.size
  pub frames : Allows keys.frames stream.frames
  pub last_size : IfSome stream.last_size (Allows keys.last_size)
  pub offset_ns : Allows keys.offset_ns stream.offset_ns
  pub period_ns : Allows keys.period_ns stream.period_ns
  pub jitter_ns : Allows keys.jitter_ns stream.jitter_ns
  pub end_ns : IfSome stream.end_ns (Allows keys.end_ns)
  pub sub_vl : IfSome stream.sub_vl (Allows keys.sub_vl)

pub record IsVirtualLinkWithin (link : VirtualLink) : Type 0 where
  pub id : Allows keys.id link.id.0
  pub bag_ms : Allows keys.bag_ms link.bag_ms
  pub smax : Allows keys.smax link.smax
  pub policing_jitter_ns : Allows keys.policing_jitter_ns link.policing_jitter_ns
  pub skew_max_ns : Allows keys.skew_max_ns link.skew_max_ns
  pub depth : Allows keys.depth link.depth
  pub sub : Allows keys.sub link.sub
  pub own : IsStreamWithin link.own

pub record IsVlWithin (row : VlRow) : Type 0 where
  pub link : IsVirtualLinkWithin row.link
  pub a : ArePathsWithin keys.paths_a row.a
  pub b : ArePathsWithin keys.paths_b row.b

pub record IsStreamRowWithin (row : StreamRow) : Type 0 where
  pub vl : Allows keys.stream_vl row.vl.0
  pub stream : IsStreamWithin row.stream

pub record AreWithin (rows : Rows) : Type 0 where
  pub until : Allows keys.until_ns rows.until
  pub seed : Allows keys.seed rows.seed
  pub nodes : All IsNodeWithin rows.nodes
  pub links : All IsLinkWithin rows.links
  pub outages : All IsOutageWithin rows.outages
  pub vls : All IsVlWithin rows.vls
  pub streams : All IsStreamRowWithin rows.streams
