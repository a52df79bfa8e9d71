-- The rows that a document means are within the limits.
use Rattle.std.proofs.Common.{◌≡◌, ℕ, ◌<◌, true, ◌&&◌, List, [], ◌∷◌, All, Option, Some, None, IfSome, refl, sym, subst, inl, inr, ltb-true}
use Rattle.std.proofs.lemmas.List.Elements.{All-from_recursion, All-nil}
use Rattle.std.proofs.lemmas.List.Sums.{AllPass-from_list_all}
use Rattle.std.specs.List.{AllByRecursion, AllZip}
use Rattle.toml.specs.Data.{Data, Members}
use Rattle.network_rows.specs.declared.rule.ValueType.{ValueType}
use Rattle.network_rows.specs.declared.rule.Presence.{Presence}
use Rattle.network_rows.specs.declared.rule.Presence.TheVariants.{Required, ForSwitches, Optional, OptionalWord, MayBeAbsent}
use Rattle.network_rows.specs.declared.rule.Rule.{Rule}
use Rattle.row_types.specs.declared.rows.NodeKind.{NodeKind}
use Rattle.row_types.specs.declared.rows.NodeKind.TheVariants.{EndSystem, Switch}
use Rattle.row_types.specs.declared.rows.NodeRow.{NodeRow}
use Rattle.network_rows.specs.declared.rows.LinkRow.{LinkRow}
use Rattle.network_rows.specs.declared.rows.OutageRow.{OutageRow}
use Rattle.row_types.specs.declared.rows.Stream.{Stream}
use Rattle.row_types.specs.declared.rows.StreamRow.{StreamRow}
use Rattle.row_types.specs.declared.rows.VirtualLink.{VirtualLink}
use Rattle.network_rows.specs.declared.rows.VlRow.{VlRow}
use Rattle.network_rows.specs.declared.rows.Rows.{Rows}
use Rattle.network_rows.specs.Table as keys
use Rattle.network_rows.specs.Values.{as_number}
use Rattle.network_rows.specs.ValueTypes.{allows, allows_text, allows_path, is_above}
use Rattle.network_rows.specs.Rows.{IsAt, IsTextAt, ArePathsAt, IsNumberAt, IsNumberIfAt, MeansKind, MeansNode, MeansLink, MeansOutage, MeansStream, MeansStreamRow, MeansVirtualLink, MeansVl, MeansRow, MeansList, MeansRows}
use Rattle.network_rows.specs.Sound.{IsDefaultWithin, IsOfNumbers, HasNumbers}
use Rattle.network_rows.specs.Within.{Allows, ArePathsWithin, IsNodeKindWithin, IsNodeWithin, IsLinkWithin, IsOutageWithin, IsStreamWithin, IsStreamRowWithin, IsVirtualLinkWithin, IsVlWithin, AreWithin}
use Rattle.network_rows.proofs.Standing.{IsAllowed, number_within, both_true}

-- ---- numbers, texts and paths

default_within : (presence : Presence) (value_type : ValueType) (n : ℕ) → IsDefaultWithin presence value_type → presence ≡ Optional n → allows value_type n ≡ true
default_within Required value_type n of e = cc
default_within ForSwitches value_type n of e = cc
default_within (Optional m) value_type n of e = cc
default_within (OptionalWord w) value_type n of e = absurd of
default_within MayBeAbsent value_type n of e = absurd of

same_number : (value_type : ValueType) (d : Data) (n : ℕ) → IsAllowed value_type d → as_number d ≡ Some n → allows value_type n ≡ true
same_number value_type d n is e = let m = is.is in let allowed = is.allowed in cc

allowed : (rule : Rule) (table : Members) (n : ℕ) → HasNumbers rule → IsNumberAt rule table n → Allows rule n
allowed rule table n of (inl at) = same_number rule.value_type at.value n (number_within rule.value_type table at.value of.0 at.limit) at.is
allowed rule table n of (inr default) = default_within rule.presence rule.value_type n of.1 default.default

pub allowed_if : (rule : Rule) (table : Members) (o : Option ℕ) → IsOfNumbers rule.value_type → IsNumberIfAt rule table o → IfSome o (Allows rule)
allowed_if rule table None of at = tt
allowed_if rule table (Some n) of at = same_number rule.value_type at.value n (number_within rule.value_type table at.value of at.limit) at.is

text_within : (table : Members) (text : List ℕ) → IsTextAt keys.name table text → allows_text keys.name.value_type text ≡ true
text_within table text at = rw at.is at at.limit

paths_a_within : (table : Members) (paths : List (List (List ℕ))) → ArePathsAt keys.paths_a table paths → ArePathsWithin keys.paths_a paths
paths_a_within table paths at = AllPass-from_list_all (allows_path keys.paths_a.value_type) paths (rw at.is at at.limit)

paths_b_within : (table : Members) (paths : List (List (List ℕ))) → ArePathsAt keys.paths_b table paths → ArePathsWithin keys.paths_b paths
paths_b_within table paths at = AllPass-from_list_all (allows_path keys.paths_b.value_type) paths (rw at.is at at.limit)

-- ---- the rows of each section

kind_within : (table : Members) (kind : NodeKind) → MeansKind table kind → IsNodeKindWithin kind
kind_within table EndSystem means = tt
kind_within table (Switch net latency_ns) means = allowed keys.latency_ns table latency_ns (tt, tt) means.2

node_within : (table : Members) (row : NodeRow) → MeansNode table row → IsNodeWithin row
node_within table row means = record {
  name = text_within table row.name means.name;
  kind = kind_within table row.kind means.kind;
  port_bytes = allowed keys.port_bytes table row.port_bytes (tt, tt) means.port_bytes;
}

link_within : (table : Members) (row : LinkRow) → MeansLink table row → IsLinkWithin row
link_within table row means = record { propagation_ns = allowed keys.propagation_ns table row.propagation_ns (tt, tt) means.propagation_ns }

number_there : (rule : Rule) (table : Members) (n : ℕ) → rule.presence ≡ Required → IsNumberAt rule table n → IsAt as_number rule table n
number_there rule table n required (inl at) = at
number_there rule table n required (inr default) = let e = default.default in cc

begins_before_end : (table : Members) (m n : ℕ) → IsAt as_number keys.from_ns table m → IsAt as_number keys.to_ns table n → m < n
begins_before_end table m n from to =
    let both : (allows keys.to_ns.value_type n && is_above (Some m) n) ≡ true = rw (to.is, from.there, from.is) at to.limit in
    ltb-true m n (both_true (allows keys.to_ns.value_type n) _ both).1

outage_within : (table : Members) (row : OutageRow) → MeansOutage table row → IsOutageWithin row
outage_within table row means = record {
  from_ns = allowed keys.from_ns table row.from_ns (tt, tt) means.from_ns;
  to_ns = allowed keys.to_ns table row.to_ns (tt, tt) means.to_ns;
  in_order = begins_before_end table row.from_ns row.to_ns
      (number_there keys.from_ns table row.from_ns refl means.from_ns) (number_there keys.to_ns table row.to_ns refl means.to_ns);
}

stream_within : (table : Members) (stream : Stream) → MeansStream table stream → IsStreamWithin stream
stream_within table stream means = record {
  size = allowed keys.size table stream.size (tt, tt) means.size;
  frames = allowed keys.frames table stream.frames (tt, refl) means.frames;
  last_size = allowed_if keys.last_size table stream.last_size tt means.last_size;
  offset_ns = allowed keys.offset_ns table stream.offset_ns (tt, tt) means.offset_ns;
  period_ns = allowed keys.period_ns table stream.period_ns (tt, tt) means.period_ns;
  jitter_ns = allowed keys.jitter_ns table stream.jitter_ns (tt, tt) means.jitter_ns;
  end_ns = allowed_if keys.end_ns table stream.end_ns tt means.end_ns;
  sub_vl = allowed_if keys.sub_vl table stream.sub_vl tt means.sub_vl;
}

virtual_link_within : (table : Members) (link : VirtualLink) → MeansVirtualLink table link → IsVirtualLinkWithin link
virtual_link_within table link means = record {
  id = allowed keys.id table link.id.0 (tt, tt) means.id;
  bag_ms = allowed keys.bag_ms table link.bag_ms (tt, tt) means.bag_ms;
  smax = allowed keys.smax table link.smax (tt, tt) means.smax;
  policing_jitter_ns = allowed keys.policing_jitter_ns table link.policing_jitter_ns (tt, tt) means.policing_jitter_ns;
  skew_max_ns = allowed keys.skew_max_ns table link.skew_max_ns (tt, tt) means.skew_max_ns;
  depth = allowed keys.depth table link.depth (tt, tt) means.depth;
  sub = allowed keys.sub table link.sub (tt, refl) means.sub;
  own = stream_within table link.own means.own;
}

vl_within : (table : Members) (row : VlRow) → MeansVl table row → IsVlWithin row
vl_within table row means = record {
  link = virtual_link_within table row.link means.link;
  a = paths_a_within table row.a means.a;
  b = paths_b_within table row.b means.b;
}

stream_row_within : (table : Members) (row : StreamRow) → MeansStreamRow table row → IsStreamRowWithin row
stream_row_within table row means = record {
  vl = allowed keys.stream_vl table row.vl.0 (tt, tt) means.vl;
  stream = stream_within table row.stream means.stream;
}

-- ---- all rows

module _ {R : Type 0} (means : Members → R → Type 0) (Q : R → Type 0) (within : (table : Members) (row : R) → means table row → Q row) where
  each_within : (ds : List Data) (rows : List R) → AllZip (MeansRow means) ds rows → AllByRecursion Q rows
  each_within [] [] each = tt
  each_within [] (row ∷ rows) each = absurd each
  each_within (d ∷ ds) [] each = absurd each
  each_within (d ∷ ds) (row ∷ rows) each = (within each.0.0 row each.0.2, each_within ds rows each.1)

  list_within : (o : Option Data) (rows : List R) → MeansList means o rows → All Q rows
  list_within None rows none = subst (All Q) (sym none) (All-nil Q)
  list_within (Some d) rows means = All-from_recursion Q rows (each_within _ rows means.2)

pub rows_within : (document : Members) (rows : Rows) → MeansRows document rows → AreWithin rows
rows_within document rows means = record {
  until = allowed keys.until_ns document rows.until (tt, tt) means.until;
  seed = allowed keys.seed document rows.seed (tt, tt) means.seed;
  nodes = list_within MeansNode IsNodeWithin node_within _ rows.nodes means.nodes;
  links = list_within MeansLink IsLinkWithin link_within _ rows.links means.links;
  outages = list_within MeansOutage IsOutageWithin outage_within _ rows.outages means.outages;
  vls = list_within MeansVl IsVlWithin vl_within _ rows.vls means.vls;
  streams = list_within MeansStreamRow IsStreamRowWithin stream_row_within _ rows.streams means.streams;
}
