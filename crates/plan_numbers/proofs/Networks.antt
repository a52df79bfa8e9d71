-- The processes of a network have numbers for all that they send.
use Rattle.std.proofs.Common.{◌≡◌, ℕ, zero, suc, ◌+◌, ◌-◌, ◌*◌, ◌<◌, ◌≤◌, List, [], ◌∷◌, ◌++◌, length, Option, Some, None, slice_get, option_map, option_and_then, refl, ap, ◌∙◌, subst, arith}
use Rattle.std.specs.Prelude.{IfSome}
use Rattle.std.proofs.lemmas.Option.{slice_get_within}
use Rattle.std.proofs.lemmas.List.{length-map}
use Rattle.std.proofs.lemmas.List.FromFn.{length-map-range_with_len}
use Rattle.vlink.specs.declared.time.TheConstants.{LATEST_NS}
use Rattle.vlink.specs.Numbering.{greatest_number}
use Rattle.vlink.specs.Order.{message_order}
use Rattle.reverse.specs.declared.sends.TheConstants.{MOST_SENT}
use Rattle.virtual_time.specs.Law.{Laws, events, one}
use Rattle.virtual_time.proofs.Least.{least-some}
use Rattle.virtual_time.proofs.OneThread.{right}
use Rattle.network.specs.declared.wiring.Link.{Link}
use Rattle.network.specs.declared.wiring.LinePlan.{LinePlan}
use Rattle.network.specs.Lines.{directions}
use Rattle.network.specs.Rows.{each_after}
use Rattle.network.specs.Words.{Plan, lines_of, process_count}
use Rattle.network.specs.Plan.{NodePlan}
use Rattle.network.specs.declared.wiring.Way.{Way}
use Rattle.row_types.specs.declared.rows.NodeKind.{NodeKind}
use Rattle.row_types.specs.declared.rows.NodeKind.TheVariants as kind
use Rattle.traffic.specs.Offers.{offers_of}
use Rattle.nodes.specs.declared.equipment.Equipment.{Equipment}
use Rattle.nodes.specs.declared.equipment.Equipment.TheVariants.{EndSystem, Switch, Line}
use Rattle.nodes.specs.declared.ports.Outlet.{Outlet}
use Rattle.nodes.specs.declared.opening.meeting.Side.TheVariants.{Out}
use Rattle.nodes.specs.declared.transit.Transit.{Transit}
use Rattle.nodes.specs.laws.Places.{All-there}
use Rattle.nodes.specs.rules.Finding.{Found}
use Rattle.nodes.specs.rules.Meeting as met
use Rattle.nodes.specs.rules.Meeting.{ports_by}
use Rattle.nodes.specs.rules.Opening as opened
use Rattle.nodes.specs.rules.Opening.{equipment_opening, end_system_opening, line_opening, lines_ahead_of, node_opening, opening, ports_of, switch_opening}
use Rattle.nodes.specs.rules.Placed.{IsPlaced, IsPlacedEquipment}
use Rattle.nodes.specs.rules.Ports.{PortsState, outlet_at}
use Rattle.nodes.specs.rules.Switch.{SwitchState}
use Rattle.nodes.specs.Words.{simulation_of}
use Rattle.actor_run.specs.Running.{IsExhaustedAt}
use Rattle.network_actors.specs.Networks.{setting_of}
use Rattle.port_turns.specs.Nodes.{IsOfNodes}
use Rattle.port_turns.specs.PortEvents.{outlet_in}
use Rattle.port_turns.specs.SwitchPuts.{transit_of}
use Rattle.plan_ports.specs.Links.{AreRegulatorsEmpty, AreTransits}
use Rattle.plan_ports.specs.Outlets.{AllLead, AreWays, line_process}
use Rattle.plan_ports.proofs.Ahead.{none-past}
use Rattle.plan_numbers.proofs.FewFrames.{arrivals-few, come_to}
use Rattle.plan_numbers.proofs.Starts.{HasFewPorts}
use Rattle.plan_numbers.proofs.EndSystems as ends
use Rattle.plan_numbers.proofs.Lines as lines
use Rattle.plan_numbers.proofs.Switches as switches
use Rattle.plan_numbers.proofs.Switches.{HasFewArrivals, HasFewOutputs}

none-some : {X : Type 0} (x : X) → None ≡ Some x → ⊥
none-some x e = cc

-- ---- lines, each with the one back

record Back (all : List LinePlan) (line : LinePlan) : Type 0 where
  k : ℕ
  back : LinePlan
  read : slice_get all k ≡ Some back
  to : back.to ≡ line.from
  to_port : back.to_port ≡ line.from_port

same-some : {X : Type 0} (x y : X) → Some x ≡ Some y → x ≡ y
same-some x y e = cc

back-of : (nodes : List NodePlan) (earlier links : List Link) (k : ℕ) (line : LinePlan) → slice_get (each_after (directions nodes) earlier links) k ≡ Some line → Back (each_after (directions nodes) earlier links) line
back-of nodes earlier [] k line e = absurd (none-some line e)
back-of nodes earlier (link ∷ links) zero line e = record { k = 1; back = _; read = refl; to = ap (λ (l : LinePlan). l.from) (same-some _ line e); to_port = ap (λ (l : LinePlan). l.from_port) (same-some _ line e) }
back-of nodes earlier (link ∷ links) (suc zero) line e = record { k = 0; back = _; read = refl; to = ap (λ (l : LinePlan). l.from) (same-some _ line e); to_port = ap (λ (l : LinePlan). l.from_port) (same-some _ line e) }
back-of nodes earlier (link ∷ links) (suc (suc k)) line e =
    let b = back-of nodes (earlier ++ link ∷ []) links k line e in
    record { k = suc (suc b.k); back = b.back; read = b.read; to = b.to; to_port = b.to_port }

lines-count : (nodes : List NodePlan) (earlier links : List Link) → length (each_after (directions nodes) earlier links) ≡ 2 * length links
lines-count nodes earlier [] = refl
lines-count nodes earlier (link ∷ links) = let e = lines-count nodes (earlier ++ link ∷ []) links in omega arith

-- ---- ports

there : (ports : PortsState) (q : ℕ) (outlet : Outlet) → outlet_at ports q ≡ Some outlet → slice_get ports q ≡ Some (Some outlet)
there ports q outlet e = go (slice_get ports q) e
  where
    go : (o : Option (Option Outlet)) → option_and_then (λ z. z) o ≡ Some outlet → o ≡ Some (Some outlet)
    go None h = absurd (none-some outlet h)
    go (Some z) h = ap Some h

slow-of : (e : Equipment) → IsPlacedEquipment e → (q : ℕ) (outlet : Outlet) → outlet_in e q ≡ Some outlet → 1 ≤ outlet.ahead.byte_ns
slow-of (EndSystem s) h q outlet e = All-there (λ slot. IfSome slot (λ (o : Outlet). 1 ≤ o.ahead.byte_ns)) s.ports q (Some outlet) h.0 (there s.ports q outlet e)
slow-of (Switch s) h q outlet e = All-there (λ slot. IfSome slot (λ (o : Outlet). 1 ≤ o.ahead.byte_ns)) s.ports q (Some outlet) h.0 (there s.ports q outlet e)
slow-of (Line s) h q outlet e = absurd (none-some outlet e)

ports-count : (plan : Plan) (n count bytes : ℕ) → length (ports_of plan n count bytes) ≡ count
unfolding lines_ahead_of
ports-count plan n count bytes =
    length-map (lines_ahead_of plan n count) (option_map (opened.outlet_of bytes)) ∙ length-map-range_with_len (λ q. opened.line_ahead_among n q (length plan.nodes) (lines_of plan)) 0 count

marks-count : (ways : List Way) → length (ports_by ways) ≡ 24
unfolding ports_by
marks-count ways = length-map-range_with_len (met.is_by ways) 0 24

module _ (plan : Plan) (L : Laws (simulation_of plan)) (D : (p : ℕ) → p < process_count plan → IsPlaced (opening plan p)) (N : IsOfNodes (setting_of plan)) (Lead : AllLead plan) (Ways : AreWays plan) (Tr : AreTransits plan)
    (Em : AreRegulatorsEmpty plan) (U : plan.until ≤ LATEST_NS) (O : length (offers_of plan) ≤ 1152921504606846976) where
  within-of : (p q : ℕ) (outlet : Outlet) → outlet_in (opening plan p).equipment q ≡ Some outlet → q < 24
  within-of p q outlet e = at (slice_get plan.nodes p) e
    where
      by_count : (count bytes : ℕ) → count ≤ 24 → outlet_at (ports_of plan p count bytes) q ≡ Some outlet → q < 24
      by_count count bytes l h =
          let w = slice_get_within (ports_of plan p count bytes) q (Some outlet) (there (ports_of plan p count bytes) q outlet h) in
          let c = ports-count plan p count bytes in
          omega arith

      by_kind : (bytes : ℕ) (k : NodeKind) → outlet_in (node_opening plan p bytes k) q ≡ Some outlet → q < 24
      by_kind bytes kind.EndSystem h = by_count 2 bytes (omega arith) h
      by_kind bytes (kind.Switch net latency) h = by_count 24 bytes (omega arith) h

      at : (o : Option NodePlan) → outlet_in (equipment_opening plan p o) q ≡ Some outlet → q < 24
      at None h = absurd (none-some outlet h)
      at (Some node) h = by_kind node.port_bytes node.kind h

  few-ports : (p : ℕ) → p < process_count plan → HasFewPorts (setting_of plan) p
  few-ports p i = record {
    within = within-of p;
    empty = λ q outlet e. (Lead p q outlet e).empty;
    slow = λ q outlet e. slow-of (opening plan p).equipment (D p i) q outlet e;
  }

  few-outputs : (p : ℕ) (w : SwitchState) → (opening plan p).equipment ≡ Switch w → HasFewOutputs w
  few-outputs p w E vl found is =
      let t = Tr p vl.0 found.entry (ap (λ e. transit_of e vl.0) E ∙ ap (option_map (λ (f : Found Transit). f.entry)) is) in
      let a = ap (λ (z : Transit). length z.outputs) t.is in
      let b = marks-count (met.ways_at plan p Out t.vl) in
      omega arith

  few-arrivals : (p : ℕ) → HasFewArrivals (setting_of plan) p
  few-arrivals p j outlet e n =
      let l = Lead p j outlet e in
      let b = back-of plan.nodes [] plan.links l.k l.line l.read in
      let w = Ways b.k b.back b.read in
      let slow = slow-of (opening plan b.back.from).equipment (D b.back.from w.from_below) b.back.from_port w.outlet w.way.port in
      let few = arrivals-few (setting_of plan) L b.back.from b.back.from_port (line_process plan b.k) b.back.to b.back.to_port w.from_below w.line_below N w.outlet (line_opening plan b.k (Some b.back)) w.way slow n in
      let at = ap (λ q. come_to b.back.to_port (events (simulation_of plan) n q)) (b.to ∙ l.from) in
      let by = ap (λ q. come_to q (events (simulation_of plan) n p)) (b.to_port ∙ l.from_port) in
      omega arith

  enough : (p : ℕ) → p < process_count plan → (n : ℕ) → ((one (simulation_of plan) n).states p).sender.counter + MOST_SENT ≤ greatest_number
  enough p i n = at (slice_get plan.nodes p) refl
    where
      by_kind : (bytes : ℕ) (k : NodeKind) → (opening plan p).equipment ≡ node_opening plan p bytes k → ((one (simulation_of plan) n).states p).sender.counter + MOST_SENT ≤ greatest_number
      by_kind bytes kind.EndSystem E = ends.enough (setting_of plan) L N p i (end_system_opening plan p bytes) E (few-ports p i) (Em p (end_system_opening plan p bytes) E) U O refl n
      by_kind bytes (kind.Switch net latency) E = switches.enough (setting_of plan) L N p i (switch_opening plan p latency bytes) E (few-ports p i) (few-outputs p (switch_opening plan p latency bytes) E) (few-arrivals p) U refl n

      by_line : (k : ℕ) → line_process plan k ≡ p → (o : Option LinePlan) → slice_get (lines_of plan) k ≡ o → ((one (simulation_of plan) n).states p).sender.counter + MOST_SENT ≤ greatest_number
      by_line k e None is = absurd (let a = none-past (lines_of plan) k is in let b = lines-count plan.nodes [] plan.links in omega arith)
      by_line k e (Some line) is =
          let w = Ways k line is in
          let slow = slow-of (opening plan line.from).equipment (D line.from w.from_below) line.from_port w.outlet w.way.port in
          subst (λ q. ((one (simulation_of plan) n).states q).sender.counter + MOST_SENT ≤ greatest_number) e
          (lines.enough (setting_of plan) L N line.from line.from_port (line_process plan k) line.to line.to_port w.from_below w.line_below w.outlet (line_opening plan k (Some line)) w.way slow U refl n)

      at : (o : Option NodePlan) → slice_get plan.nodes p ≡ o → ((one (simulation_of plan) n).states p).sender.counter + MOST_SENT ≤ greatest_number
      at (Some node) e = by_kind node.port_bytes node.kind (ap (equipment_opening plan p) e)
      at None e =
          let past = none-past plan.nodes p e in
          let same : line_process plan (p - length plan.nodes) ≡ p = omega arith in
          by_line (p - length plan.nodes) same (slice_get (lines_of plan) (p - length plan.nodes)) refl

  pub never : (n : ℕ) → IsExhaustedAt (simulation_of plan) n → ⊥
  never n e =
      let l = least-some message_order L.order (one (simulation_of plan) n).waiting e.0 e.1 in
      let i = (right (simulation_of plan) L n).waiting_here e.0 l.inside in
      let a = enough e.0.receiver i n in
      let b = e.2 in
      omega arith
