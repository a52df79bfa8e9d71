-- A text means the rows of one description alone.
use Rattle.std.proofs.Common.{◌≡◌, ℕ, true, false, List, [], ◌∷◌, Option, Some, None, refl, ap, sym, ◌∙◌, subst, inl, inr, bytes_eq, arith}
use Rattle.std.proofs.lemmas.Bool.{false≢true}
use Rattle.std.specs.List.{AllZip}
use Rattle.toml.specs.Data.{Data, Members, as_str}
use Rattle.vlink.specs.declared.frame.Net.{Net}
use Rattle.vlink.specs.declared.frame.Net.TheVariants as net
use Rattle.network_rows.specs.declared.key.Word.TheVariants as word
use Rattle.network_rows.specs.declared.rule.Presence.TheVariants.{Optional}
use Rattle.network_rows.specs.declared.rule.Rule.{Rule}
use Rattle.row_types.specs.declared.rows.NodeKind.{NodeKind}
use Rattle.row_types.specs.declared.rows.NodeKind.TheVariants.{EndSystem, Switch}
use Rattle.row_types.specs.declared.rows.Rate.{Rate}
use Rattle.row_types.specs.declared.rows.Rate.TheVariants.{Mbit10, Mbit100, Mbit1000}
use Rattle.row_types.specs.declared.rows.Priority.{Priority}
use Rattle.row_types.specs.declared.rows.Priority.TheVariants.{High, Low}
use Rattle.row_types.specs.declared.rows.Policing.{Policing}
use Rattle.row_types.specs.declared.rows.Policing.TheVariants.{Bytes, Frames}
use Rattle.row_types.specs.declared.rows.NodeRow.{NodeRow}
use Rattle.network_rows.specs.declared.rows.LinkRow.{LinkRow}
use Rattle.network_rows.specs.declared.rows.OutageRow.{OutageRow}
use Rattle.row_types.specs.declared.rows.Timing.{Timing}
use Rattle.row_types.specs.declared.rows.Timing.TheVariants.{Periodic, Sporadic}
use Rattle.row_types.specs.declared.rows.Stream.{Stream}
use Rattle.row_types.specs.declared.rows.StreamRow.{StreamRow}
use Rattle.row_types.specs.declared.rows.VirtualLink.{VirtualLink}
use Rattle.network_rows.specs.declared.rows.VlRow.{VlRow}
use Rattle.network_rows.specs.declared.rows.Rows.{Rows}
use Rattle.network_rows.specs.Table as keys
use Rattle.network_rows.specs.Keys.{word_text}
use Rattle.network_rows.specs.Values.{as_number, as_paths, list_of}
use Rattle.network_rows.specs.Rows.{IsAt, IsDefaultWordAt, IsNumberAt, IsNumberIfAt, IsWordOrDefaultAt, word_of_net, word_of_policing, word_of_priority, word_of_timing, mbit_of, MeansKind, MeansNode, MeansLink, MeansOutage, MeansStream, MeansStreamRow, MeansVirtualLink, MeansVl, MeansRow, MeansList, MeansRows, Means}

-- ---- one key

one_some : {X : Type 0} (x y : X) → Some x ≡ Some y → x ≡ y
one_some x y e = cc

one_value : {X : Type 0} (read : Data → Option X) (rule : Rule) (table : Members) (x y : X) → IsAt read rule table x → IsAt read rule table y → x ≡ y
one_value read rule table x y a b =
    let same = one_some a.value b.value (sym a.there ∙ b.there) in
    one_some x y (sym a.is ∙ (ap read same ∙ b.is))

one_number : (rule : Rule) (table : Members) (m n : ℕ) → IsNumberAt rule table m → IsNumberAt rule table n → m ≡ n
one_number rule table m n (inl a) (inl b) = one_value as_number rule table m n a b
one_number rule table m n (inl a) (inr b) = let e : Some a.value ≡ None = sym a.there ∙ b.absent in cc
one_number rule table m n (inr a) (inl b) = let e : Some b.value ≡ None = sym b.there ∙ a.absent in cc
one_number rule table m n (inr a) (inr b) = let e : Optional m ≡ Optional n = sym a.default ∙ b.default in cc

one_number_if : (rule : Rule) (table : Members) (o p : Option ℕ) → IsNumberIfAt rule table o → IsNumberIfAt rule table p → o ≡ p
one_number_if rule table None None a b = refl
one_number_if rule table None (Some n) a b = let e : Some b.value ≡ None = sym b.there ∙ a in cc
one_number_if rule table (Some m) None a b = let e : Some a.value ≡ None = sym a.there ∙ b in cc
one_number_if rule table (Some m) (Some n) a b = ap (λ k. Some k) (one_value as_number rule table m n a b)

-- ---- words

apart : (xs ys : List ℕ) → bytes_eq xs ys ≡ false → bytes_eq xs xs ≡ true → xs ≡ ys → ⊥
apart xs ys differ same e = false≢true (sym differ ∙ (ap (bytes_eq xs) (sym e) ∙ same))

one_net : (m n : Net) → word_text (word_of_net m) ≡ word_text (word_of_net n) → m ≡ n
one_net net.A net.A e = refl
one_net net.A net.B e = absurd (apart _ _ refl refl e)
one_net net.B net.A e = absurd (apart _ _ refl refl e)
one_net net.B net.B e = refl

one_priority : (p q : Priority) → word_text (word_of_priority p) ≡ word_text (word_of_priority q) → p ≡ q
one_priority High High e = refl
one_priority High Low e = absurd (apart _ _ refl refl e)
one_priority Low High e = absurd (apart _ _ refl refl e)
one_priority Low Low e = refl

one_policing : (p q : Policing) → word_text (word_of_policing p) ≡ word_text (word_of_policing q) → p ≡ q
one_policing Bytes Bytes e = refl
one_policing Bytes Frames e = absurd (apart _ _ refl refl e)
one_policing Frames Bytes e = absurd (apart _ _ refl refl e)
one_policing Frames Frames e = refl

one_default : (p : Policing) (table : Members) → IsDefaultWordAt keys.policing table (word_of_policing p) → p ≡ Bytes
one_default Bytes table default = refl
one_default Frames table default = let e = default.default in cc

one_policing_at : (table : Members) (p q : Policing) → IsWordOrDefaultAt keys.policing table (word_of_policing p) → IsWordOrDefaultAt keys.policing table (word_of_policing q) → p ≡ q
one_policing_at table p q (inl a) (inl b) = one_policing p q (one_value as_str keys.policing table _ _ a b)
one_policing_at table p q (inl a) (inr b) = let e : Some a.value ≡ None = sym a.there ∙ b.absent in cc
one_policing_at table p q (inr a) (inl b) = let e : Some b.value ≡ None = sym b.there ∙ a.absent in cc
one_policing_at table p q (inr a) (inr b) = one_default p table a ∙ sym (one_default q table b)

one_timing : (p q : Timing) → word_text (word_of_timing p) ≡ word_text (word_of_timing q) → p ≡ q
one_timing Periodic Periodic e = refl
one_timing Periodic Sporadic e = absurd (apart _ _ refl refl e)
one_timing Sporadic Periodic e = absurd (apart _ _ refl refl e)
one_timing Sporadic Sporadic e = refl

periodic_by_default : (p : Timing) (table : Members) → IsDefaultWordAt keys.timing table (word_of_timing p) → p ≡ Periodic
periodic_by_default Periodic table default = refl
periodic_by_default Sporadic table default = let e = default.default in cc

one_timing_at : (table : Members) (p q : Timing) → IsWordOrDefaultAt keys.timing table (word_of_timing p) → IsWordOrDefaultAt keys.timing table (word_of_timing q) → p ≡ q
one_timing_at table p q (inl a) (inl b) = one_timing p q (one_value as_str keys.timing table _ _ a b)
one_timing_at table p q (inl a) (inr b) = let e : Some a.value ≡ None = sym a.there ∙ b.absent in cc
one_timing_at table p q (inr a) (inl b) = let e : Some b.value ≡ None = sym b.there ∙ a.absent in cc
one_timing_at table p q (inr a) (inr b) = periodic_by_default p table a ∙ sym (periodic_by_default q table b)

one_rate : (r s : Rate) → mbit_of r ≡ mbit_of s → r ≡ s
one_rate Mbit10 Mbit10 e = refl
one_rate Mbit10 Mbit100 e = absurd (let same : 10 ≡ 100 = e in omega (arith, same))
one_rate Mbit10 Mbit1000 e = absurd (let same : 10 ≡ 1000 = e in omega (arith, same))
one_rate Mbit100 Mbit10 e = absurd (let same : 100 ≡ 10 = e in omega (arith, same))
one_rate Mbit100 Mbit100 e = refl
one_rate Mbit100 Mbit1000 e = absurd (let same : 100 ≡ 1000 = e in omega (arith, same))
one_rate Mbit1000 Mbit10 e = absurd (let same : 1000 ≡ 10 = e in omega (arith, same))
one_rate Mbit1000 Mbit100 e = absurd (let same : 1000 ≡ 100 = e in omega (arith, same))
one_rate Mbit1000 Mbit1000 e = refl

switch_is_no_end_system : word_text word.Es ≡ word_text word.Switch → ⊥
switch_is_no_end_system e = apart _ _ refl refl e

one_switch : (a b : Net) (m n : ℕ) → a ≡ b → m ≡ n → Switch a m ≡ Switch b n
one_switch a b m n e f = cc

one_kind : (table : Members) (r s : NodeKind) → MeansKind table r → MeansKind table s → r ≡ s
one_kind table EndSystem EndSystem a b = refl
one_kind table EndSystem (Switch n l) a b = absurd (switch_is_no_end_system (one_value as_str keys.kind table _ _ a b.0))
one_kind table (Switch m k) EndSystem a b = absurd (switch_is_no_end_system (one_value as_str keys.kind table _ _ b a.0))
one_kind table (Switch m k) (Switch n l) a b =
    one_switch m n k l (one_net m n (one_value as_str keys.net table _ _ a.1 b.1)) (one_number keys.latency_ns table k l a.2 b.2)

-- ---- rows

one_node : (table : Members) (r s : NodeRow) → MeansNode table r → MeansNode table s → r ≡ s
one_node table r s a b = λ i. record {
  name = one_value as_str keys.name table r.name s.name a.name b.name i;
  kind = one_kind table r.kind s.kind a.kind b.kind i;
  port_bytes = one_number keys.port_bytes table r.port_bytes s.port_bytes a.port_bytes b.port_bytes i;
  has_unknown_key = (a.has_unknown_key ∙ sym b.has_unknown_key) i;
}

one_link : (table : Members) (r s : LinkRow) → MeansLink table r → MeansLink table s → r ≡ s
one_link table r s a b = λ i. record {
  a = one_value as_str keys.link_a table r.a s.a a.a b.a i;
  b = one_value as_str keys.link_b table r.b s.b a.b b.b i;
  mbit = one_rate r.mbit s.mbit (one_number keys.mbit table (mbit_of r.mbit) (mbit_of s.mbit) a.mbit b.mbit) i;
  propagation_ns = one_number keys.propagation_ns table r.propagation_ns s.propagation_ns a.propagation_ns b.propagation_ns i;
  has_unknown_key = (a.has_unknown_key ∙ sym b.has_unknown_key) i;
}

one_outage : (table : Members) (r s : OutageRow) → MeansOutage table r → MeansOutage table s → r ≡ s
one_outage table r s a b = λ i. record {
  from = one_value as_str keys.from table r.from s.from a.from b.from i;
  to = one_value as_str keys.to table r.to s.to a.to b.to i;
  from_ns = one_number keys.from_ns table r.from_ns s.from_ns a.from_ns b.from_ns i;
  to_ns = one_number keys.to_ns table r.to_ns s.to_ns a.to_ns b.to_ns i;
  has_unknown_key = (a.has_unknown_key ∙ sym b.has_unknown_key) i;
}

one_stream : (table : Members) (k l : Stream) → MeansStream table k → MeansStream table l → k ≡ l
one_stream table k l a b = λ i. record {
  size = one_number keys.size table k.size l.size a.size b.size i;
  frames = one_number keys.frames table k.frames l.frames a.frames b.frames i;
  last_size = one_number_if keys.last_size table k.last_size l.last_size a.last_size b.last_size i;
  offset_ns = one_number keys.offset_ns table k.offset_ns l.offset_ns a.offset_ns b.offset_ns i;
  period_ns = one_number keys.period_ns table k.period_ns l.period_ns a.period_ns b.period_ns i;
  jitter_ns = one_number keys.jitter_ns table k.jitter_ns l.jitter_ns a.jitter_ns b.jitter_ns i;
  timing = one_timing_at table k.timing l.timing a.timing b.timing i;
  end_ns = one_number_if keys.end_ns table k.end_ns l.end_ns a.end_ns b.end_ns i;
  sub_vl = one_number_if keys.sub_vl table k.sub_vl l.sub_vl a.sub_vl b.sub_vl i;
}

one_stream_row : (table : Members) (r s : StreamRow) → MeansStreamRow table r → MeansStreamRow table s → r ≡ s
one_stream_row table r s a b = λ i. record {
  vl = record { 0 = one_number keys.stream_vl table r.vl.0 s.vl.0 a.vl b.vl i };
  stream = one_stream table r.stream s.stream a.stream b.stream i;
  has_unknown_key = (a.has_unknown_key ∙ sym b.has_unknown_key) i;
}

one_virtual_link : (table : Members) (k l : VirtualLink) → MeansVirtualLink table k → MeansVirtualLink table l → k ≡ l
one_virtual_link table k l a b = λ i. record {
  id = record { 0 = one_number keys.id table k.id.0 l.id.0 a.id b.id i };
  bag_ms = one_number keys.bag_ms table k.bag_ms l.bag_ms a.bag_ms b.bag_ms i;
  smax = one_number keys.smax table k.smax l.smax a.smax b.smax i;
  priority = one_priority k.priority l.priority (one_value as_str keys.priority table _ _ a.priority b.priority) i;
  policing_jitter_ns = one_number keys.policing_jitter_ns table k.policing_jitter_ns l.policing_jitter_ns a.policing_jitter_ns b.policing_jitter_ns i;
  policing = one_policing_at table k.policing l.policing a.policing b.policing i;
  skew_max_ns = one_number keys.skew_max_ns table k.skew_max_ns l.skew_max_ns a.skew_max_ns b.skew_max_ns i;
  depth = one_number keys.depth table k.depth l.depth a.depth b.depth i;
  sub = one_number keys.sub table k.sub l.sub a.sub b.sub i;
  own = one_stream table k.own l.own a.own b.own i;
}

one_vl : (table : Members) (r s : VlRow) → MeansVl table r → MeansVl table s → r ≡ s
one_vl table r s a b = λ i. record {
  link = one_virtual_link table r.link s.link a.link b.link i;
  a = one_value as_paths keys.paths_a table r.a s.a a.a b.a i;
  b = one_value as_paths keys.paths_b table r.b s.b a.b b.b i;
  has_unknown_key = (a.has_unknown_key ∙ sym b.has_unknown_key) i;
}

-- ---- all rows

module _ {R : Type 0} (means : Members → R → Type 0) (one : (table : Members) (r s : R) → means table r → means table s → r ≡ s) where
  one_row : (d : Data) (r s : R) → MeansRow means d r → MeansRow means d s → r ≡ s
  one_row d r s a b = one b.0 r s (subst (λ table. means table r) (one_some a.0 b.0 (sym a.1 ∙ b.1)) a.2) b.2

  one_each : (ds : List Data) (rs ss : List R) → AllZip (MeansRow means) ds rs → AllZip (MeansRow means) ds ss → rs ≡ ss
  one_each [] [] [] a b = refl
  one_each [] (r ∷ rs) ss a b = absurd a
  one_each [] [] (s ∷ ss) a b = absurd b
  one_each (d ∷ ds) [] ss a b = absurd a
  one_each (d ∷ ds) (r ∷ rs) [] a b = absurd b
  one_each (d ∷ ds) (r ∷ rs) (s ∷ ss) a b = let e = one_row d r s a.0 b.0 in let f = one_each ds rs ss a.1 b.1 in rw (e, f) refl

  one_list : (o : Option Data) (rs ss : List R) → MeansList means o rs → MeansList means o ss → rs ≡ ss
  one_list None rs ss a b = a ∙ sym b
  one_list (Some d) rs ss a b =
      one_each (list_of b.0) rs ss (subst (λ items. AllZip (MeansRow means) (list_of items) rs) (one_some a.0 b.0 (sym a.1 ∙ b.1)) a.2) b.2

one_rows : (document : Members) (r s : Rows) → MeansRows document r → MeansRows document s → r ≡ s
one_rows document r s a b = λ i. record {
  until = one_number keys.until_ns document r.until s.until a.until b.until i;
  seed = one_number keys.seed document r.seed s.seed a.seed b.seed i;
  nodes = one_list MeansNode one_node _ r.nodes s.nodes a.nodes b.nodes i;
  links = one_list MeansLink one_link _ r.links s.links a.links b.links i;
  outages = one_list MeansOutage one_outage _ r.outages s.outages a.outages b.outages i;
  vls = one_list MeansVl one_vl _ r.vls s.vls a.vls b.vls i;
  streams = one_list MeansStreamRow one_stream_row _ r.streams s.streams a.streams b.streams i;
  has_unknown_key = (a.has_unknown_key ∙ sym b.has_unknown_key) i;
}

pub one_meaning : (text : List ℕ) (r s : Rows) → Means text r → Means text s → r ≡ s
one_meaning text r s a b =
    let same = one_some a.document b.document (sym a.parsed ∙ b.parsed) in
    one_rows b.document r s (subst (λ document. MeansRows document r) same a.rows_are) b.rows_are
