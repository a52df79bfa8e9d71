-- The table of keys: the keys of each section in the order of checks, each with the rows that have it, its type and its limits. Times are in ns,
-- sizes in bytes, and the bandwidth allocation gap (ARINC 664 Part 7) in ms.
use Rattle.std.specs.Prelude.{List, [], ◌∷◌}
use Rattle.vlink.specs.declared.time.TheConstants.{LATEST_NS}
use Rattle.network_rows.specs.declared.key.Section.{Section}
use Rattle.network_rows.specs.declared.key.Section.TheVariants.{Top, Node, Link, Outage, Vl, Stream}
use Rattle.network_rows.specs.declared.key.Key.{Key}
use Rattle.network_rows.specs.declared.key.Key.TheVariants as key
use Rattle.network_rows.specs.declared.key.Word.TheVariants as word
use Rattle.network_rows.specs.declared.rule.ValueType.{ValueType}
use Rattle.network_rows.specs.declared.rule.ValueType.TheVariants.{Integer, IntegerAbove, OneOf, OneOfThree, EitherWord, NodeName, Reference, Paths}
use Rattle.network_rows.specs.declared.rule.Presence.{Presence}
use Rattle.network_rows.specs.declared.rule.Presence.TheVariants.{Required, ForSwitches, Optional, OptionalWord, MayBeAbsent}
use Rattle.network_rows.specs.declared.rule.Rule.{Rule}

abbrev pub asks : Key → Presence → ValueType → Rule
asks key presence value_type = record { key = key; presence = presence; value_type = value_type }

-- ---- the top table

abbrev pub until_ns : Rule
until_ns = asks key.UntilNs Required (Integer 1 LATEST_NS)

abbrev pub seed : Rule
seed = asks key.Seed Required (Integer 0 9223372036854775807)

-- ---- node

abbrev pub name : Rule
name = asks key.Name Required (NodeName 1 32)

abbrev pub kind : Rule
kind = asks key.Kind Required (EitherWord word.Es word.Switch)

abbrev pub port_bytes : Rule
port_bytes = asks key.PortBytes Required (Integer 1518 1048576)

abbrev pub net : Rule
net = asks key.Net ForSwitches (EitherWord word.A word.B)

abbrev pub latency_ns : Rule
latency_ns = asks key.LatencyNs ForSwitches (Integer 1 1000000000)

-- ---- link

abbrev pub link_a : Rule
link_a = asks key.A Required Reference

abbrev pub link_b : Rule
link_b = asks key.B Required Reference

abbrev pub mbit : Rule
mbit = asks key.Mbit Required (OneOfThree 10 100 1000)

abbrev pub propagation_ns : Rule
propagation_ns = asks key.PropagationNs Required (Integer 1 1000000000)

-- ---- outage

abbrev pub from : Rule
from = asks key.From Required Reference

abbrev pub to : Rule
to = asks key.To Required Reference

abbrev pub from_ns : Rule
from_ns = asks key.FromNs Required (Integer 0 LATEST_NS)

abbrev pub to_ns : Rule
to_ns = asks key.ToNs Required (IntegerAbove key.FromNs 0 LATEST_NS)

-- ---- vl

abbrev pub id : Rule
id = asks key.Id Required (Integer 0 65535)

abbrev pub bag_ms : Rule
bag_ms = asks key.BagMs Required (OneOf (1 ∷ 2 ∷ 4 ∷ 8 ∷ 16 ∷ 32 ∷ 64 ∷ 128 ∷ []))

abbrev pub smax : Rule
smax = asks key.Smax Required (Integer 64 1518)

abbrev pub priority : Rule
priority = asks key.Priority Required (EitherWord word.High word.Low)

abbrev pub policing_jitter_ns : Rule
policing_jitter_ns = asks key.PolicingJitterNs Required (Integer 0 1000000000)

abbrev pub policing : Rule
policing = asks key.Policing (OptionalWord word.Bytes) (EitherWord word.Bytes word.Frames)

abbrev pub skew_max_ns : Rule
skew_max_ns = asks key.SkewMaxNs Required (Integer 0 1000000000)

abbrev pub depth : Rule
depth = asks key.Depth Required (Integer 1 1024)

abbrev pub sub : Rule
sub = asks key.Sub (Optional 1) (Integer 1 4)

-- ---- of a stream: of the one that a row of vl has, and of a row of stream

abbrev pub size : Rule
size = asks key.Size Required (Integer 64 1518)

abbrev pub frames : Rule
frames = asks key.Frames (Optional 1) (Integer 1 64)

abbrev pub last_size : Rule
last_size = asks key.LastSize MayBeAbsent (Integer 64 1518)

abbrev pub offset_ns : Rule
offset_ns = asks key.OffsetNs Required (Integer 0 LATEST_NS)

abbrev pub period_ns : Rule
period_ns = asks key.PeriodNs Required (Integer 1000 LATEST_NS)

abbrev pub jitter_ns : Rule
jitter_ns = asks key.JitterNs Required (Integer 0 1000000000)

abbrev pub timing : Rule
timing = asks key.Timing (OptionalWord word.Periodic) (EitherWord word.Periodic word.Sporadic)

abbrev pub end_ns : Rule
end_ns = asks key.EndNs MayBeAbsent (Integer 0 LATEST_NS)

abbrev pub sub_vl : Rule
sub_vl = asks key.SubVl MayBeAbsent (Integer 0 3)

abbrev pub stream_vl : Rule
stream_vl = asks key.Vl Required (Integer 0 65535)

-- ---- vl again

abbrev pub paths_a : Rule
paths_a = asks key.A Required (Paths 3 32)

abbrev pub paths_b : Rule
paths_b = asks key.B Required (Paths 3 32)

-- ---- the order of checks

-- the sections that are lists of tables; the top table comes before them
abbrev pub lists : List Section
lists = Node ∷ Link ∷ Outage ∷ Vl ∷ Stream ∷ []

abbrev pub stream_keys : List Rule
stream_keys = size ∷ frames ∷ last_size ∷ offset_ns ∷ period_ns ∷ jitter_ns ∷ timing ∷ end_ns ∷ sub_vl ∷ []

abbrev pub keys_of : Section → List Rule
keys_of Top = until_ns ∷ seed ∷ []
keys_of Node = name ∷ kind ∷ port_bytes ∷ net ∷ latency_ns ∷ []
keys_of Link = link_a ∷ link_b ∷ mbit ∷ propagation_ns ∷ []
keys_of Outage = from ∷ to ∷ from_ns ∷ to_ns ∷ []
keys_of Vl =
    id ∷ bag_ms ∷ smax ∷ priority ∷ policing_jitter_ns ∷ policing ∷ skew_max_ns ∷ depth ∷ sub ∷ size ∷ frames ∷ last_size ∷ offset_ns ∷ period_ns ∷ jitter_ns ∷ timing ∷ end_ns ∷ sub_vl
    ∷ paths_a ∷ paths_b ∷ []
keys_of Stream = stream_vl ∷ size ∷ frames ∷ last_size ∷ offset_ns ∷ period_ns ∷ jitter_ns ∷ timing ∷ end_ns ∷ sub_vl ∷ []
