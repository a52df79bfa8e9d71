-- What switches and end systems have of virtual links when a run begins.
use Rattle.std.proofs.Common.{◌≡◌, ◌≤◌, arith, ℕ, zero, suc, ◌+◌, ◌*◌, ◌/◌, ◌%◌, ◌==◌, ◌||◌, not, All, Bool, true, false, List, [], ◌∷◌, map, Option, Some, None, inl, inr, refl, ap, sym, ◌∙◌, subst, slice_get, Contains, option_map, nat_cmp, eqb-true, IfSome, unwrap_or}
use Rattle.std.specs.List.{AllByRecursion, list_any, range_with_len}
use Rattle.std.specs.List.Sorted.{IsStrictlySortedBy}
use Rattle.std.proofs.lemmas.Bool.{false≢true}
use Rattle.std.proofs.lemmas.Map.Keys.{sorted_from_strictly_increasing}
use Rattle.std.proofs.lemmas.Option.{none-some, same_Some}
use Rattle.vlink.specs.declared.frame.VlId.{VlId}
use Rattle.vlink.specs.declared.message.Body.TheVariants.{Offer}
use Rattle.row_types.specs.declared.rows.NodeKind.{NodeKind}
use Rattle.row_types.specs.declared.rows.NodeKind.TheVariants as kind
use Rattle.port_bounds.specs.Mixtures.{IsAmong}
use Rattle.network.specs.declared.limits.TheConstants.{GREATEST_PORTS}
use Rattle.network.specs.declared.wiring.Way.{Way}
use Rattle.network.specs.Words.{IsAccepted, NodePlan, Plan, VlPlan, comes_in, departures_of, id_of, ids_of, is_end_kind, is_end_system, is_none, leaves, lines_of, names_of, passes, plan_of, stream_plan, vl_plan}
use Rattle.network_rows.specs.ValueTypes.{is_within}
use Rattle.network_rows.specs.Within.{IsStreamRowWithin, IsStreamWithin, IsVlWithin}
use Rattle.row_types.specs.declared.rows.Stream.{Stream}
use Rattle.row_types.specs.declared.rows.StreamRow.{StreamRow}
use Rattle.network_rows.specs.declared.rows.VlRow.{VlRow}
use Rattle.std.proofs.lemmas.List.Elements.{All-contains, All-from_recursion, recursion_from_All}
use Rattle.std.proofs.lemmas.List.Sorted.{All-permutation}
use Rattle.network.proofs.LimitLemmas.{bounds}
use Rattle.network.proofs.RisingLemmas.{ids-rise}
use Rattle.network_faults.proofs.MemberLemmas.{Has, contains-from_has, flat_map-has, has-flat_map, has-from_contains, has-right}
use Rattle.network_tables.specs.PortLaws.{IsOutput}
use Rattle.network_tables.proofs.RouteLemmas.{output-faces}
use Rattle.network_tables.proofs.RoutedLemmas.{links, routed}
use Rattle.network_tables.proofs.SwitchLemmas.{one-input}
use Rattle.nodes.specs.declared.equipment.Equipment.TheVariants as equipment
use Rattle.nodes.specs.declared.opening.meeting.Side.TheVariants.{In, Out}
use Rattle.nodes.specs.declared.source.Source.{Source}
use Rattle.nodes.specs.declared.transit.Transit.{Transit}
use Rattle.nodes.specs.rules.EndSystem.{EndSystemState, source_at, source_number}
use Rattle.nodes.specs.rules.Finding.{Found, find}
use Rattle.nodes.specs.rules.Node.{regulator_in}
use Rattle.nodes.specs.rules.Meeting.{is_by, ports_by, ways_at, with_ways}
use Rattle.nodes.specs.rules.Opening as opened
use Rattle.nodes.specs.rules.Opening.{end_system_opening, equipment_opening, node_opening, opening, regulator_of, source_of, switch_opening}
use Rattle.nodes.specs.rules.Outputs.{marked_from}
use Rattle.nodes.specs.rules.Switch.{SwitchState, outputs_of, transit_number}
use Rattle.nodes.proofs.GroupLemmas.{AreOf}
use Rattle.nodes.proofs.WayLemmas.{ways-own}
use Rattle.frame_ring.specs.Queue.{Queue}
use Rattle.std.proofs.lemmas.List.Elements.{All-map, All-replicate}
use Rattle.std.specs.Option.{option_map_or}
use Rattle.port_turns.specs.SwitchPuts.{transit_of}
use Rattle.plan_ports.specs.Links.{AreBags, AreGreatest, AreOffers, AreRegulatorsEmpty, AreSizes, AreSources, AreTransits, HaveSources, HaveTransits, IsOfferOf, IsSourceOf, IsTransitOf, LeavesBy}
use Rattle.network.specs.declared.plan.VlStream.{VlStream}
use Rattle.traffic.specs.declared.stream.OfferedStream.{OfferedStream}
use Rattle.traffic.specs.Offers.{size_of as stream_size, sub_of}
use Rattle.plan_ports.proofs.Offered.{IsStreamOf, all-offered}
use Rattle.plan_ports.proofs.PlainLinks.{IsFrameSize, IsSmall, plain-own, plain-stream, small-size}
use Rattle.traffic.proofs.OwnLemmas.{plain-size}
use Rattle.plan_ports.proofs.Entries.{all-entry, entry-made, entry_of, made-entry}

-- ---- the ports of a virtual link

-- one that passes a test
pub has-passed : {X : Type 0} (test : X → Bool) (xs : List X) → list_any test xs ≡ true → (x : X) × Has xs x × (test x ≡ true)
has-passed test [] h = absurd (false≢true h)
has-passed {X} test (x ∷ xs) h = go (test x) refl h (has-passed test xs)
  where
    go : (b : Bool) → test x ≡ b → (b || list_any test xs) ≡ true → (list_any test xs ≡ true → (y : X) × Has xs y × (test y ≡ true)) → (y : X) × Has (x ∷ xs) y × (test y ≡ true)
    go true e h later = (x, inl refl, e)
    go false e h later = let found = later h in (found.0, inr found.1, found.2)

-- those that are marked pass the test
marked-is : (test : ℕ → Bool) (n k q : ℕ) → IsAmong q (marked_from k (map test (range_with_len k n))) → test q ≡ true
marked-is test zero k q there = absurd there
marked-is test (suc n) k q there = go (test k) refl there (marked-is test n (k + 1) q)
  where
    go : (b : Bool) → test k ≡ b → IsAmong q (marked_from k (b ∷ map test (range_with_len (k + 1) n))) → (IsAmong q (marked_from (k + 1) (map test (range_with_len (k + 1) n))) → test q ≡ true) → test q ≡ true
    go true e (inl same) others = ap test same ∙ e
    go true e (inr later) others = others later
    go false e later others = others later

output-is : (ways : List Way) (q : ℕ) → IsAmong q (marked_from 0 (ports_by ways)) → is_by ways q ≡ true
unfolding ports_by
output-is ways q there = marked-is (is_by ways) GREATEST_PORTS 0 q there

pub own-all : (id : ℕ) (ways : List Way) (way : Way) → AreOf id ways → Has ways way → way.vl.0 ≡ id
own-all id [] way all there = absurd there
own-all id (w ∷ ways) way all (inl same) = ap (λ (x : Way). x.vl.0) (sym same) ∙ all.0
own-all id (w ∷ ways) way all (inr there) = own-all id ways way all.1 there

-- the way by a port
leaves-by : (plan : Plan) (p q : ℕ) (vl : VlPlan) → Has plan.vls vl → is_by (ways_at plan p Out vl) q ≡ true → LeavesBy plan p q vl
leaves-by plan p q vl is_vl by =
    let (way, there, port) = has-passed (λ (w : Way). w.port == q) (ways_at plan p Out vl) by in
    let id : way.vl.0 ≡ vl.link.id.0 = own-all vl.link.id.0 (ways_at plan p Out vl) way (ways-own plan p Out vl) there in
    let port_is : way.port ≡ q = eqb-true way.port q port in
    let same : way ≡ record { vl = vl.link.id; port = q } = λ i. record { vl = record { 0 = id i }; port = port_is i } in
    record {
      is_vl = contains-from_has plan.vls vl is_vl;
      way = contains-from_has (departures_of plan p) _ (subst (Has (departures_of plan p)) same (has-flat_map (leaves p (lines_of plan) plan.links) plan.vls vl way is_vl there));
    }

-- ---- BAGs are parts of 128 ms

abbrev HasBags : VlPlan → Type 0
HasBags vl = (128 / vl.link.bag_ms) * (vl.link.bag_ms * 1000000) ≡ 128000000

one-of : (P : ℕ → Type 0) (n : ℕ) (ms : List ℕ) → AllByRecursion P ms → list_any (λ m. m == n) ms ≡ true → P n
one-of P n [] all any = absurd (false≢true any)
one-of P n (m ∷ ms) all any = go (m == n) refl any (one-of P n ms all.1)
  where
    go : (b : Bool) → (m == n) ≡ b → (b || list_any (λ k. k == n) ms) ≡ true → (list_any (λ k. k == n) ms ≡ true → P n) → P n
    go true same there later = subst P (eqb-true m n same) all.0
    go false apart there later = later there

abbrev HasGreatest : VlPlan → Type 0
HasGreatest vl = IsFrameSize vl.link.smax × IsSmall vl.link.own

small-last : (last : Option ℕ) (size : ℕ) → IsFrameSize size → IfSome last (λ n. is_within 64 1518 n ≡ true) → IsFrameSize (unwrap_or last size)
small-last None size le within = le
small-last (Some n) size le within = bounds 64 1518 n within

small-stream : (stream : Stream) → IsStreamWithin stream → IsSmall stream
small-stream stream within =
    let size = bounds 64 1518 stream.size within.size in
    (size, small-last stream.last_size stream.size size within.last_size)

all-small : (rows : List StreamRow) → AllByRecursion IsStreamRowWithin rows → AllByRecursion (λ s. IsSmall s.stream) (map stream_plan rows)
all-small [] within = tt
all-small (row ∷ rows) within = (small-stream row.stream within.0.stream, all-small rows within.1)

all-greatest : (names : List (List ℕ)) (rows : List VlRow) → AllByRecursion IsVlWithin rows → AllByRecursion HasGreatest (map (vl_plan names) rows)
all-greatest names [] within = tt
all-greatest names (row ∷ rows) within = ((bounds 64 1518 row.link.smax within.0.link.smax, small-stream row.link.own within.0.link.own), all-greatest names rows within.1)

all-bags : (names : List (List ℕ)) (rows : List VlRow) → AllByRecursion IsVlWithin rows → AllByRecursion HasBags (map (vl_plan names) rows)
all-bags names [] within = tt
all-bags names (row ∷ rows) within =
    (one-of (λ m. (128 / m) * (m * 1000000) ≡ 128000000) row.link.bag_ms (1 ∷ 2 ∷ 4 ∷ 8 ∷ 16 ∷ 32 ∷ 64 ∷ 128 ∷ []) (refl, (refl, (refl, (refl, (refl, (refl, (refl, (refl, tt)))))))) within.0.link.bag_ms, all-bags names rows within.1)

-- ---- switches

module _ (plan : Plan) (accepted : IsAccepted plan) where
  rising : IsStrictlySortedBy nat_cmp (ids_of plan.vls)
  rising = sorted_from_strictly_increasing (ids_of plan.vls) (ids-rise plan accepted)

  transit-made : (p v : ℕ) (transit : Transit) → entry_of transit_number (map (opened.transit_of plan p) (with_ways (ways_at plan p In) plan.vls)) v ≡ Some transit → IsTransitOf plan p v transit
  transit-made p v transit e =
      let (vl, is_vl, comes, id, is) = entry-made id_of transit_number (opened.transit_of plan p) (λ vl. not (is_none (ways_at plan p In vl))) (λ vl. refl) plan.vls v transit e in
      record {
        vl = vl;
        is_vl = contains-from_has plan.vls vl is_vl;
        id = id;
        is = sym is;
        leaves = λ q out. leaves-by plan p q vl is_vl (output-is (ways_at plan p Out vl) q (subst (λ (t : Transit). IsAmong q (outputs_of t)) (sym is) out));
      }

  transit-kind : (p v bytes : ℕ) (transit : Transit) (k : NodeKind) → transit_of (node_opening plan p bytes k) v ≡ Some transit → IsTransitOf plan p v transit
  transit-kind p v bytes transit kind.EndSystem e = absurd (none-some transit e)
  transit-kind p v bytes transit (kind.Switch net latency_ns) e = transit-made p v transit e

  transit-node : (p v : ℕ) (transit : Transit) (o : Option NodePlan) → transit_of (equipment_opening plan p o) v ≡ Some transit → IsTransitOf plan p v transit
  transit-node p v transit None e = absurd (none-some transit e)
  transit-node p v transit (Some node) e = transit-kind p v node.port_bytes transit node.kind e

  pub are-transits : AreTransits plan
  are-transits p v transit e = transit-node p v transit (slice_get plan.nodes p) e

  -- ---- end systems

  source-made : (p v : ℕ) (source : Source) → entry_of source_number (map (source_of (ways_at plan p Out)) (with_ways (ways_at plan p Out) plan.vls)) v ≡ Some source → IsSourceOf plan p v source
  source-made p v source e =
      let (vl, is_vl, goes, id, is) = entry-made id_of source_number (source_of (ways_at plan p Out)) (λ vl. not (is_none (ways_at plan p Out vl))) (λ vl. refl) plan.vls v source e in
      record {
        vl = vl;
        is_vl = contains-from_has plan.vls vl is_vl;
        id = id;
        is = sym is;
        on_a = λ on. leaves-by plan p 0 vl is_vl (ap (λ (s : Source). s.end.a) is ∙ on);
        on_b = λ on. leaves-by plan p 1 vl is_vl (ap (λ (s : Source). s.end.b) is ∙ on);
      }

  source-at : (p v : ℕ) (s : EndSystemState) → s.sources ≡ map (source_of (ways_at plan p Out)) (with_ways (ways_at plan p Out) plan.vls) → (found : Found Source) → source_at s (record { 0 = v }) ≡ Some found → IsSourceOf plan p v found.entry
  source-at p v s made found e = source-made p v found.entry (ap (λ sources. entry_of source_number sources v) (sym made) ∙ ap (option_map (λ (f : Found Source). f.entry)) e)

  -- the sources of an end system
  sources-kind : (p bytes : ℕ) (k : NodeKind) (s : EndSystemState) → node_opening plan p bytes k ≡ equipment.EndSystem s → s.sources ≡ map (source_of (ways_at plan p Out)) (with_ways (ways_at plan p Out) plan.vls)
  sources-kind p bytes kind.EndSystem s e = let same : end_system_opening plan p bytes ≡ s = cc in ap (λ (x : EndSystemState). x.sources) (sym same)
  sources-kind p bytes (kind.Switch net latency_ns) s e = absurd (cc)

  sources-node : (p : ℕ) (o : Option NodePlan) (s : EndSystemState) → equipment_opening plan p o ≡ equipment.EndSystem s → s.sources ≡ map (source_of (ways_at plan p Out)) (with_ways (ways_at plan p Out) plan.vls)
  sources-node p None s e = absurd (cc)
  sources-node p (Some node) s e = sources-kind p node.port_bytes node.kind s e

  pub are-sources : AreSources plan
  are-sources p v s is found e = source-at p v s (sources-node p (slice_get plan.nodes p) s is) found e

  -- ---- what leaves a node is there

  -- it has a way there
  some-way : (ways : List Way) (way : Way) → Has ways way → not (is_none ways) ≡ true
  some-way [] way there = absurd there
  some-way (w ∷ ways) way there = refl

  pub one-vl : (vl other : VlPlan) → Has plan.vls vl → Has plan.vls other → other.link.id.0 ≡ vl.link.id.0 → other ≡ vl
  one-vl vl other there there' same =
      same_Some other vl (sym (all-entry id_of plan.vls other rising there') ∙ ap (entry_of id_of plan.vls) same ∙ all-entry id_of plan.vls vl rising there)

  -- the way by which it leaves is its own
  pub own-way : (p q : ℕ) (vl : VlPlan) → LeavesBy plan p q vl → Has (ways_at plan p Out vl) (record { vl = vl.link.id; port = q })
  own-way p q vl l =
      let is_vl = has-from_contains plan.vls vl l.is_vl in
      let (other, there, by) = flat_map-has (leaves p (lines_of plan) plan.links) plan.vls (record { vl = vl.link.id; port = q }) (has-from_contains (departures_of plan p) _ l.way) in
      let same = one-vl vl other is_vl there (sym (own-all other.link.id.0 (ways_at plan p Out other) _ (ways-own plan p Out other) by)) in
      subst (λ (v : VlPlan). Has (ways_at plan p Out v) (record { vl = vl.link.id; port = q })) same by

  pub have-sources : HaveSources plan
  have-sources p q vl l s is =
      let is_vl = has-from_contains plan.vls vl l.is_vl in
      let sources = sources-node p (slice_get plan.nodes p) s is in
      let found = made-entry id_of source_number (source_of (ways_at plan p Out)) (λ v. not (is_none (ways_at plan p Out v))) (λ v. refl) plan.vls vl rising is_vl (some-way (ways_at plan p Out vl) _ (own-way p q vl l)) in
      ap (λ e. regulator_in e vl.link.id) is ∙ regulated s vl.link.id (ap (λ sources. entry_of source_number sources vl.link.id.0) sources ∙ found)
    where
      regulated : (s : EndSystemState) (id : VlId) → entry_of source_number s.sources id.0 ≡ Some (source_of (ways_at plan p Out) vl) → regulator_in (equipment.EndSystem s) id ≡ Some (regulator_of vl.link)
      regulated s id h = go (source_at s id) h
        where
          go : (o : Option (Found Source)) → option_map (λ found. found.entry) o ≡ Some (source_of (ways_at plan p Out) vl) → option_map (λ (found : Found Source). found.entry.regulator) o ≡ Some (regulator_of vl.link)
          go None k = absurd (none-some _ k)
          go (Some found) k = ap (λ (x : Source). Some x.regulator) (same_Some found.entry (source_of (ways_at plan p Out) vl) k)

  pub are-sizes : AreSizes plan
  are-sizes vl there = go (find id_of plan.vls vl.link.id.0) (all-entry id_of plan.vls vl rising (has-from_contains plan.vls vl there))
    where
      go : (o : Option (Found VlPlan)) → option_map (λ found. found.entry) o ≡ Some vl → option_map_or (λ (found : Found VlPlan). found.entry.link.own.size) o 0 ≡ vl.link.own.size
      go None k = absurd (none-some _ k)
      go (Some found) k = ap (λ (v : VlPlan). v.link.own.size) (same_Some found.entry vl k)

  pub all-empty : AreRegulatorsEmpty plan
  all-empty p s is = subst (All (λ (source : Source). All (λ (list : Queue). list.frames ≡ []) source.regulator.lists)) (sym (sources-node p (slice_get plan.nodes p) s is))
      (All-map (λ (source : Source). All (λ (list : Queue). list.frames ≡ []) source.regulator.lists) (source_of (ways_at plan p Out)) (with_ways (ways_at plan p Out) plan.vls)
      (λ k d lt. All-replicate (λ (list : Queue). list.frames ≡ []) _ _ refl))

  -- it comes in at each switch that it leaves
  pub comes-in : (p q : ℕ) (vl : VlPlan) → LeavesBy plan p q vl → is_end_system plan.nodes p ≡ false → not (is_none (ways_at plan p In vl)) ≡ true
  comes-in p q vl l switch =
      let out : IsOutput plan vl p q = contains-from_has (leaves p (lines_of plan) plan.links vl) _ (own-way p q vl l) in
      let faces = output-faces plan vl p q out in
      let next = faces.precedes.neighbours in
      let on_path : Contains faces.precedes.path p = contains-from_has faces.precedes.path p (subst (λ xs. Has xs p) (sym next.split) (has-right next.before (p ∷ faces.successor ∷ next.behind) p (inl refl))) in
      let input = one-input plan vl p (links plan accepted) (routed plan accepted vl l.is_vl) (record { net = faces.net; path = faces.precedes.path; is_path = faces.precedes.is_path; on_path = on_path; switch = switch }) in
      some-way (ways_at plan p In vl) _ (has-from_contains (comes_in p (lines_of plan) plan.links vl) _ input.is)

  transit-there : (p q : ℕ) (vl : VlPlan) → LeavesBy plan p q vl → (node : NodePlan) → slice_get plan.nodes p ≡ Some node → (k : NodeKind) → node.kind ≡ k → (s : SwitchState) → node_opening plan p node.port_bytes k ≡ equipment.Switch s
      → transit_of (node_opening plan p node.port_bytes k) vl.link.id.0 ≡ Some (opened.transit_of plan p vl)
  transit-there p q vl l node there kind.EndSystem is s e = absurd (cc)
  transit-there p q vl l node there (kind.Switch net latency_ns) is s e =
      made-entry id_of transit_number (opened.transit_of plan p) (λ v. not (is_none (ways_at plan p In v))) (λ v. refl) plan.vls vl rising (has-from_contains plan.vls vl l.is_vl)
      (comes-in p q vl l (ap (passes (λ (node : NodePlan). is_end_kind node.kind)) there ∙ ap is_end_kind is))

  transit-at : (p q : ℕ) (vl : VlPlan) → LeavesBy plan p q vl → (o : Option NodePlan) → slice_get plan.nodes p ≡ o → (s : SwitchState) → equipment_opening plan p o ≡ equipment.Switch s → transit_of (equipment_opening plan p o) vl.link.id.0 ≡ Some (opened.transit_of plan p vl)
  transit-at p q vl l None there s e = absurd (cc)
  transit-at p q vl l (Some node) there s e = transit-there p q vl l node there node.kind refl s e

  pub have-transits : HaveTransits plan
  have-transits p q vl l s e = transit-at p q vl l (slice_get plan.nodes p) refl s e

  -- ---- BAGs

  pub are-bags : AreBags plan
  are-bags vl there =
      let rows = accepted.rows in
      let in_rows : All HasBags (plan_of rows).vls = All-from_recursion HasBags _ (all-bags (names_of rows.nodes) rows.vls (recursion_from_All IsVlWithin rows.vls accepted.within.vls)) in
      All-contains HasBags plan.vls vl (All-permutation HasBags _ plan.vls accepted.stands.vls in_rows) there

  all-great : (vl : VlPlan) → Contains plan.vls vl → HasGreatest vl
  all-great vl there =
      let rows = accepted.rows in
      let in_rows : All HasGreatest (plan_of rows).vls = All-from_recursion HasGreatest _ (all-greatest (names_of rows.nodes) rows.vls (recursion_from_All IsVlWithin rows.vls accepted.within.vls)) in
      All-contains HasGreatest plan.vls vl (All-permutation HasGreatest _ plan.vls accepted.stands.vls in_rows) there

  pub are-positive : AreGreatest plan
  are-positive vl there = let great = all-great vl there in let smax = great.0.0 in (omega (arith, smax), great.1.0.1)

  pub fit-smax : (vl : VlPlan) → Contains plan.vls vl → IsFrameSize vl.link.smax
  fit-smax vl there = (all-great vl there).0

  -- ---- offers

  rows-small : (row : VlStream) → Has plan.streams row → IsSmall row.stream
  rows-small row there =
      let rows = accepted.rows in
      let in_rows : All (λ (s : VlStream). IsSmall s.stream) (plan_of rows).streams = All-from_recursion (λ (s : VlStream). IsSmall s.stream) _ (all-small rows.streams (recursion_from_All IsStreamRowWithin rows.streams accepted.within.streams)) in
      All-contains (λ (s : VlStream). IsSmall s.stream) plan.streams row (subst (All (λ (s : VlStream). IsSmall s.stream)) (sym accepted.stands.streams) in_rows) (contains-from_has plan.streams row there)

  pub is-small : (s : OfferedStream) → IsStreamOf plan s → IsSmall s.stream
  is-small s of = elim of.kind [
    | inl own ↦ subst (λ (o : OfferedStream). IsSmall o.stream) (sym own) (all-great of.vl (contains-from_has plan.vls of.vl of.is_vl)).1
    | inr row ↦ subst (λ (o : OfferedStream). IsSmall o.stream) (sym row.is) (rows-small row.row row.is_row)
  ]

  pub are-offers : AreOffers plan
  are-offers = all-offered plan (IsOfferOf plan) (λ s n of. record {
    vl = of.vl;
    is_vl = contains-from_has plan.vls of.vl of.is_vl;
    size = stream_size s.stream (n % s.stream.frames);
    sub = sub_of s (n / s.stream.frames);
    to_source = of.from;
    most = small-size s.stream (n % s.stream.frames) (is-small s of);
    plain = λ plain. (let own = plain-own plan s of plain in
        ap (λ (o : OfferedStream). stream_size o.stream (n % s.stream.frames)) own ∙ plain-size of.vl.link.own (n % s.stream.frames) (plain-stream plan of.vl plain).last_size);
    is = ap (λ (v : VlId). Offer v (stream_size s.stream (n % s.stream.frames)) (sub_of s (n / s.stream.frames))) (id-of s of);
  })
    where
      id-of : (s : OfferedStream) (of : IsStreamOf plan s) → s.vl ≡ of.vl.link.id
      id-of s of = elim of.kind [ inl own ↦ ap (λ (o : OfferedStream). o.vl) own | inr row ↦ ap (λ (o : OfferedStream). o.vl) row.is ]
