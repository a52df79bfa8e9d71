-- The texts of sections and keys.
use Rattle.std.specs.Prelude.{ℕ, List, codes}
use Rattle.network_rows.specs.declared.key.Section.{Section}
use Rattle.network_rows.specs.declared.key.Section.TheVariants.{Top, Node, Link, Outage, Vl, Stream}
use Rattle.network_rows.specs.declared.key.Key.{Key}
use Rattle.network_rows.specs.declared.key.Key.TheVariants as key
use Rattle.network_rows.specs.declared.key.Word.{Word}
use Rattle.network_rows.specs.declared.key.Word.TheVariants as word

abbrev pub section_text : Section → List ℕ
section_text Top = codes "top"
section_text Node = codes "node"
section_text Link = codes "link"
section_text Outage = codes "outage"
section_text Vl = codes "vl"
section_text Stream = codes "stream"

abbrev pub key_text : Key → List ℕ
key_text key.UntilNs = codes "until_ns"
key_text key.Seed = codes "seed"
key_text key.Name = codes "name"
key_text key.Kind = codes "kind"
key_text key.PortBytes = codes "port_bytes"
key_text key.Net = codes "net"
key_text key.LatencyNs = codes "latency_ns"
key_text key.A = codes "a"
key_text key.B = codes "b"
key_text key.Mbit = codes "mbit"
key_text key.PropagationNs = codes "propagation_ns"
key_text key.From = codes "from"
key_text key.To = codes "to"
key_text key.FromNs = codes "from_ns"
key_text key.ToNs = codes "to_ns"
key_text key.Id = codes "id"
key_text key.BagMs = codes "bag_ms"
key_text key.Smax = codes "smax"
key_text key.Priority = codes "priority"
key_text key.PolicingJitterNs = codes "policing_jitter_ns"
key_text key.Policing = codes "policing"
key_text key.SkewMaxNs = codes "skew_max_ns"
key_text key.Depth = codes "depth"
key_text key.Sub = codes "sub"
key_text key.Size = codes "size"
key_text key.Frames = codes "frames"
key_text key.LastSize = codes "last_size"
key_text key.OffsetNs = codes "offset_ns"
key_text key.PeriodNs = codes "period_ns"
key_text key.JitterNs = codes "jitter_ns"
key_text key.Timing = codes "timing"
key_text key.EndNs = codes "end_ns"
key_text key.SubVl = codes "sub_vl"
key_text key.Vl = codes "vl"

abbrev pub word_text : Word → List ℕ
word_text word.Es = codes "es"
word_text word.Switch = codes "switch"
word_text word.A = codes "A"
word_text word.B = codes "B"
word_text word.High = codes "high"
word_text word.Low = codes "low"
word_text word.Bytes = codes "bytes"
word_text word.Frames = codes "frames"
word_text word.Periodic = codes "periodic"
word_text word.Sporadic = codes "sporadic"
