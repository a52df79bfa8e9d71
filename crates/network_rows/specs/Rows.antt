-- The rows that a document means. This is a relation and not a function, so that no value is invented: a table that lacks a key which it
-- must have, or has a value there that the table of keys does not allow, means no row at all.
use Rattle.std.specs.Prelude.{◌≡◌, ◌⊎◌, ℕ, Bool, true, not, List, [], ◌∷◌, ◌++◌, map, filter, Option, Some, None, bytes_eq}
use Rattle.std.specs.List.{list_any, AllZip}
use Rattle.toml.specs.Data.{Data, Items, Members, no_members, member, as_str, as_array, as_table, get_member}
use Rattle.toml.specs.Parse.{parse_document}
use Rattle.vlink.specs.declared.frame.Net.{Net}
use Rattle.vlink.specs.declared.frame.Net.TheVariants as net
use Rattle.network_rows.specs.declared.key.Section.{Section}
use Rattle.network_rows.specs.declared.key.Section.TheVariants.{Top, Node, Link, Outage, Vl, Stream}
use Rattle.network_rows.specs.declared.key.Word.{Word}
use Rattle.network_rows.specs.declared.key.Word.TheVariants as word
use Rattle.network_rows.specs.declared.rule.Presence.TheVariants.{Optional, OptionalWord}
use Rattle.network_rows.specs.declared.rule.Rule.{Rule}
use Rattle.row_types.specs.declared.rows.NodeKind.{NodeKind}
use Rattle.row_types.specs.declared.rows.NodeKind.TheVariants.{EndSystem, Switch}
use Rattle.row_types.specs.declared.rows.Rate.{Rate}
use Rattle.row_types.specs.declared.rows.Rate.TheVariants.{Mbit10, Mbit100, Mbit1000}
use Rattle.row_types.specs.declared.rows.Priority.{Priority}
use Rattle.row_types.specs.declared.rows.Priority.TheVariants.{High, Low}
use Rattle.row_types.specs.declared.rows.Policing.{Policing}
use Rattle.row_types.specs.declared.rows.Policing.TheVariants.{Bytes, Frames}
use Rattle.row_types.specs.declared.rows.NodeRow.{NodeRow}
use Rattle.network_rows.specs.declared.rows.LinkRow.{LinkRow}
use Rattle.network_rows.specs.declared.rows.OutageRow.{OutageRow}
use Rattle.row_types.specs.declared.rows.Timing.{Timing}
use Rattle.row_types.specs.declared.rows.Timing.TheVariants.{Periodic, Sporadic}
use Rattle.row_types.specs.declared.rows.Stream as row
use Rattle.row_types.specs.declared.rows.StreamRow.{StreamRow}
use Rattle.row_types.specs.declared.rows.VirtualLink.{VirtualLink}
use Rattle.network_rows.specs.declared.rows.VlRow.{VlRow}
use Rattle.network_rows.specs.declared.rows.Rows.{Rows}
use Rattle.network_rows.specs.Table as keys
use Rattle.network_rows.specs.Keys.{key_text, section_text, word_text}
use Rattle.network_rows.specs.Values.{value_at, as_number, as_paths, list_of}
use Rattle.network_rows.specs.ValueTypes.{has_type, keeps_limit}
use Rattle.network_rows.specs.Faults.{applies, faults_of_document}

-- ---- what stands at the key of a line of the table of keys

-- the value at the key, which is of the type and within the limit, is x
pub record IsAt {X : Type 0} (read : Data → Option X) (rule : Rule) (table : Members) (x : X) : Type 0 where
  pub value : Data
  pub there : value_at rule.key table ≡ Some value
  pub value_type : has_type rule.value_type value ≡ true
  pub limit : keeps_limit rule.value_type table value ≡ true
  pub is : read value ≡ Some x

abbrev pub IsTextAt : Rule → Members → List ℕ → Type 0
IsTextAt = IsAt as_str

abbrev pub IsWordAt : Rule → Members → Word → Type 0
IsWordAt rule table word = IsTextAt rule table (word_text word)

abbrev pub ArePathsAt : Rule → Members → List (List (List ℕ)) → Type 0
ArePathsAt = IsAt as_paths

-- the key is absent, and the number is the default that the line gives
pub record IsDefaultAt (rule : Rule) (table : Members) (n : ℕ) : Type 0 where
  pub absent : value_at rule.key table ≡ None
  pub default : rule.presence ≡ Optional n

abbrev pub IsNumberAt : Rule → Members → ℕ → Type 0
IsNumberAt rule table n = IsAt as_number rule table n ⊎ IsDefaultAt rule table n

-- the key is absent, and there is no number; or the number stands there
abbrev pub IsNumberIfAt : Rule → Members → Option ℕ → Type 0
IsNumberIfAt rule table None = value_at rule.key table ≡ None
IsNumberIfAt rule table (Some n) = IsAt as_number rule table n

-- the key is absent, and the word is the default that the line gives
pub record IsDefaultWordAt (rule : Rule) (table : Members) (w : Word) : Type 0 where
  pub absent : value_at rule.key table ≡ None
  pub default : rule.presence ≡ OptionalWord w

abbrev pub IsWordOrDefaultAt : Rule → Members → Word → Type 0
IsWordOrDefaultAt rule table w = IsWordAt rule table w ⊎ IsDefaultWordAt rule table w

-- ---- unknown keys

-- the keys that a table of a section may have; the top one has the other sections too
abbrev pub known_keys : Section → Members → List (List ℕ)
known_keys section row = map (λ rule. key_text rule.key) (filter (λ rule. applies rule.presence row) (keys.keys_of section))

abbrev pub known_names : Section → List (List ℕ)
known_names Top = map section_text keys.lists
known_names _ = []

abbrev pub is_known : Section → Members → List ℕ → Bool
is_known section row name = list_any (bytes_eq name) (known_keys section row ++ known_names section)

-- the keys of a table
abbrev pub names_in : Members → List (List ℕ)
names_in no_members = []
names_in (member name d rest) = name ∷ names_in rest

abbrev pub has_unknown_key : Section → Members → Bool
has_unknown_key section row = list_any (λ name. not (is_known section row name)) (names_in row)

-- ---- rows

abbrev pub word_of_net : Net → Word
word_of_net net.A = word.A
word_of_net net.B = word.B

abbrev pub word_of_priority : Priority → Word
word_of_priority High = word.High
word_of_priority Low = word.Low

abbrev pub word_of_policing : Policing → Word
word_of_policing Bytes = word.Bytes
word_of_policing Frames = word.Frames

abbrev pub word_of_timing : Timing → Word
word_of_timing Periodic = word.Periodic
word_of_timing Sporadic = word.Sporadic

abbrev pub mbit_of : Rate → ℕ
mbit_of Mbit10 = 10
mbit_of Mbit100 = 100
mbit_of Mbit1000 = 1000

abbrev pub MeansKind : Members → NodeKind → Type 0
MeansKind table EndSystem = IsWordAt keys.kind table word.Es
MeansKind table (Switch net latency_ns) =
    IsWordAt keys.kind table word.Switch × IsWordAt keys.net table (word_of_net net) × IsNumberAt keys.latency_ns table latency_ns

pub record MeansNode (table : Members) (row : NodeRow) : Type 0 where
  pub name : IsTextAt keys.name table row.name
  pub kind : MeansKind table row.kind
  pub port_bytes : IsNumberAt keys.port_bytes table row.port_bytes
  pub has_unknown_key : row.has_unknown_key ≡ has_unknown_key Node table

pub record MeansLink (table : Members) (row : LinkRow) : Type 0 where
  pub a : IsTextAt keys.link_a table row.a
  pub b : IsTextAt keys.link_b table row.b
  pub mbit : IsNumberAt keys.mbit table (mbit_of row.mbit)
  pub propagation_ns : IsNumberAt keys.propagation_ns table row.propagation_ns
  pub has_unknown_key : row.has_unknown_key ≡ has_unknown_key Link table

pub record MeansOutage (table : Members) (row : OutageRow) : Type 0 where
  pub from : IsTextAt keys.from table row.from
  pub to : IsTextAt keys.to table row.to
  pub from_ns : IsNumberAt keys.from_ns table row.from_ns
  pub to_ns : IsNumberAt keys.to_ns table row.to_ns
  pub has_unknown_key : row.has_unknown_key ≡ has_unknown_key Outage table

pub record MeansStream (table : Members) (stream : row.Stream) : Type 0 where
  pub size : IsNumberAt keys.size table stream.size
  pub frames : IsNumberAt keys.frames table stream.frames
  pub last_size : IsNumberIfAt keys.last_size table stream.last_size
  pub offset_ns : IsNumberAt keys.offset_ns table stream.offset_ns
  pub period_ns : IsNumberAt keys.period_ns table stream.period_ns
  pub jitter_ns : IsNumberAt keys.jitter_ns table stream.jitter_ns
  pub timing : IsWordOrDefaultAt keys.timing table (word_of_timing stream.timing)
  pub end_ns : IsNumberIfAt keys.end_ns table stream.end_ns
  pub sub_vl : IsNumberIfAt keys.sub_vl table stream.sub_vl

pub record MeansVirtualLink (table : Members) (link : VirtualLink) : Type 0 where
  pub id : IsNumberAt keys.id table link.id.0
  pub bag_ms : IsNumberAt keys.bag_ms table link.bag_ms
  pub smax : IsNumberAt keys.smax table link.smax
  pub priority : IsWordAt keys.priority table (word_of_priority link.priority)
  pub policing_jitter_ns : IsNumberAt keys.policing_jitter_ns table link.policing_jitter_ns
  pub policing : IsWordOrDefaultAt keys.policing table (word_of_policing link.policing)
  pub skew_max_ns : IsNumberAt keys.skew_max_ns table link.skew_max_ns
  pub depth : IsNumberAt keys.depth table link.depth
  pub sub : IsNumberAt keys.sub table link.sub
  pub own : MeansStream table link.own

pub record MeansVl (table : Members) (row : VlRow) : Type 0 where
  pub link : MeansVirtualLink table row.link
  pub a : ArePathsAt keys.paths_a table row.a
  pub b : ArePathsAt keys.paths_b table row.b
  pub has_unknown_key : row.has_unknown_key ≡ has_unknown_key Vl table

pub record MeansStreamRow (table : Members) (row : StreamRow) : Type 0 where
  pub vl : IsNumberAt keys.stream_vl table row.vl.0
  pub stream : MeansStream table row.stream
  pub has_unknown_key : row.has_unknown_key ≡ has_unknown_key Stream table

-- ---- lists of rows

-- the value is a table, and means the row
abbrev pub MeansRow : {R : Type 0} → (Members → R → Type 0) → Data → R → Type 0
MeansRow means d row = (table : Members) × (as_table d ≡ Some table) × means table row

-- what a document has for a section: nothing, which is no row; or a list with a table for each row
abbrev pub MeansList : {R : Type 0} → (Members → R → Type 0) → Option Data → List R → Type 0
MeansList means None rows = rows ≡ []
MeansList means (Some d) rows = (items : Items) × (as_array d ≡ Some items) × AllZip (MeansRow means) (list_of items) rows

abbrev pub MeansSection : {R : Type 0} → (Members → R → Type 0) → Section → Members → List R → Type 0
MeansSection means section document rows = MeansList means (get_member (section_text section) document) rows

pub record MeansRows (document : Members) (rows : Rows) : Type 0 where
  pub until : IsNumberAt keys.until_ns document rows.until
  pub seed : IsNumberAt keys.seed document rows.seed
  pub nodes : MeansSection MeansNode Node document rows.nodes
  pub links : MeansSection MeansLink Link document rows.links
  pub outages : MeansSection MeansOutage Outage document rows.outages
  pub vls : MeansSection MeansVl Vl document rows.vls
  pub streams : MeansSection MeansStreamRow Stream document rows.streams
  pub has_unknown_key : rows.has_unknown_key ≡ has_unknown_key Top document

-- the text means a document without a fault of a key, and these are its rows
pub record Means (text : List ℕ) (rows : Rows) : Type 0 where
  pub document : Members
  pub parsed : parse_document text ≡ Some document
  pub sound : faults_of_document document ≡ []
  pub rows_are : MeansRows document rows
