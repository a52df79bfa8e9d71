-- Each port of a network's nodes leads into a line, and each line is the way from its port to the port to which it leads.
use Rattle.std.proofs.Common.{◌≡◌, ℕ, ◌-◌, ◌<◌, ◌≤◌, Bool, true, false, cond, List, [], ◌∷◌, ◌++◌, length, Option, Some, None, refl, ap, sym, ◌∙◌, subst, arith, slice_get}
use Rattle.std.specs.List.{AllByRecursion}
use Rattle.std.specs.Option.{option_map_or}
use Rattle.std.proofs.lemmas.List.Elements.{All-from_recursion}
use Rattle.std.proofs.lemmas.Option.{none-some, same_Some, slice_get_past, slice_get_within}
use Rattle.vlink.specs.declared.frame.Net.TheVariants.{A}
use Rattle.row_types.specs.declared.rows.NodeKind.{NodeKind}
use Rattle.row_types.specs.declared.rows.NodeKind.TheVariants as kind
use Rattle.port_bounds.specs.Port.{idle}
use Rattle.element_bounds.specs.PortTrace.{IsSamePort}
use Rattle.network.specs.declared.limits.TheConstants.{GREATEST_PORTS}
use Rattle.network.specs.declared.wiring.Link.{Link}
use Rattle.network.specs.declared.wiring.LinePlan.{LinePlan}
use Rattle.network.specs.Words.{Plan, NodePlan, IsAccepted, directions, each_after, is_end_kind, is_end_system, is_switch_of, lines_of, passes, port_at, process_count}
use Rattle.network.proofs.BuildLemmas.{length-lines, line-read, read-item}
use Rattle.network.proofs.PortLemmas.{line-within}
use Rattle.nodes.specs.declared.equipment.Equipment.TheVariants as equipment
use Rattle.nodes.specs.declared.ports.LineAhead.{LineAhead}
use Rattle.nodes.specs.declared.ports.Outlet.{Outlet}
use Rattle.nodes.specs.rules.Line.{LineState}
use Rattle.nodes.specs.rules.Opening.{equipment_opening, line_ahead_among, line_opening, node_opening, opening, outlet_of, ports_of}
use Rattle.nodes.specs.rules.Ports.{outlet_at}
use Rattle.port_turns.specs.PortEvents.{outlet_in}
use Rattle.plan_ports.specs.Outlets.{AllLead, HaveOwnPorts, IsLineWay, LeadsInto, line_process, port_bytes_at}
use Rattle.plan_ports.proofs.Ahead.{ahead-is, ahead-outlet, has-ahead, none-past, outlet-ahead}

-- ---- an end system has two ports

few-at : (nodes : List NodePlan) (earlier : List Link) (node other : ℕ) → is_end_system nodes node ≡ true → port_at nodes earlier node other < 2
few-at nodes earlier node other end = rw end (go (is_switch_of nodes A other))
  where
    go : (b : Bool) → cond b 0 1 < 2
    go true = omega arith
    go false = omega arith

HasFewPorts : List NodePlan → LinePlan → Type 0
HasFewPorts nodes line = is_end_system nodes line.from ≡ true → line.from_port < 2

few-ports : (nodes : List NodePlan) (earlier links : List Link) → AllByRecursion (HasFewPorts nodes) (each_after (directions nodes) earlier links)
unfolding HasFewPorts
few-ports nodes earlier [] = tt
few-ports nodes earlier (link ∷ links) = (few-at nodes earlier link.a link.b, (few-at nodes earlier link.b link.a, few-ports nodes (earlier ++ link ∷ []) links))

-- ---- each port leads into a line

module _ (plan : Plan) where
  made : (p q bytes : ℕ) (outlet : Outlet) → port_bytes_at plan p ≡ bytes → (ahead : LineAhead) × (line_ahead_among p q (length plan.nodes) (lines_of plan) ≡ Some ahead) × (outlet ≡ outlet_of bytes ahead) → LeadsInto plan p q outlet
  made p q bytes outlet room (ahead, found, is) =
      let h = ahead-is p q (length plan.nodes) (lines_of plan) ahead found in
      record {
        k = h.k;
        line = h.line;
        read = h.read;
        from = h.from;
        from_port = h.from_port;
        ahead = ap (λ (o : Outlet). o.ahead) is ∙ h.is;
        empty = subst (λ (o : Outlet). IsSamePort o.port idle) (sym is) (record { busy = refl; high = refl; low = refl });
        room = ap (λ (o : Outlet). o.port.bytes) is ∙ sym room;
      }

  at-kind : (p q bytes : ℕ) (outlet : Outlet) → port_bytes_at plan p ≡ bytes → (k : NodeKind) → outlet_in (node_opening plan p bytes k) q ≡ Some outlet → LeadsInto plan p q outlet
  at-kind p q bytes outlet room kind.EndSystem e = made p q bytes outlet room (outlet-ahead plan p 2 bytes q outlet e)
  at-kind p q bytes outlet room (kind.Switch net latency_ns) e = made p q bytes outlet room (outlet-ahead plan p GREATEST_PORTS bytes q outlet e)

  at-node : (p q : ℕ) (outlet : Outlet) (o : Option NodePlan) → slice_get plan.nodes p ≡ o → outlet_in (equipment_opening plan p o) q ≡ Some outlet → LeadsInto plan p q outlet
  at-node p q outlet None there e = absurd (none-some outlet e)
  at-node p q outlet (Some node) there e = at-kind p q node.port_bytes outlet (ap (λ o. option_map_or (λ (node : NodePlan). node.port_bytes) o 0) there) node.kind e

  pub all-lead : AllLead plan
  all-lead p q outlet e = at-node p q outlet (slice_get plan.nodes p) refl e

-- ---- each line is a way

-- two that are read at one place are the same
same-read : {X : Type 0} (xs : List X) (i j : ℕ) (x y : X) → slice_get xs i ≡ Some x → slice_get xs j ≡ Some y → i ≡ j → x ≡ y
same-read xs i j x y at by same = same_Some x y (sym at ∙ ap (slice_get xs) same ∙ by)

none-beyond : {X : Type 0} (xs : List X) (k : ℕ) → k < length xs → slice_get xs k ≡ None → ⊥
none-beyond xs k lt e = absurd (omega (arith, lt, none-past xs k e))

module _ (plan : Plan) (accepted : IsAccepted plan) (own : HaveOwnPorts plan) (k : ℕ) (line : LinePlan) (read : slice_get (lines_of plan) k ≡ Some line) where
  number : ℕ
  number = length plan.nodes

  outlet-at : (count bytes : ℕ) → line.from_port < count → (outlet : Outlet) × (outlet_at (ports_of plan line.from count bytes) line.from_port ≡ Some outlet)
  outlet-at count bytes lt =
      let (ahead, found) = has-ahead line.from line.from_port (length plan.nodes) (lines_of plan) k line read refl refl in
      (outlet_of bytes ahead, ahead-outlet plan line.from count bytes line.from_port ahead lt found)

  within-ports : line.from_port < GREATEST_PORTS
  within-ports = (line-within plan k line accepted read).from_port

  pub within-two : is_end_system plan.nodes line.from ≡ true → line.from_port < 2
  unfolding HasFewPorts
  within-two = read-item (HasFewPorts plan.nodes) (lines_of plan) k line (All-from_recursion (HasFewPorts plan.nodes) (lines_of plan) (few-ports plan.nodes [] plan.links)) read

  by-kind : (node : NodePlan) (which : NodeKind) → slice_get plan.nodes line.from ≡ Some node → node.kind ≡ which → (outlet : Outlet) × (outlet_in (node_opening plan line.from node.port_bytes which) line.from_port ≡ Some outlet)
  by-kind node kind.EndSystem there is = outlet-at 2 node.port_bytes (within-two (ap (passes (λ (node : NodePlan). is_end_kind node.kind)) there ∙ ap is_end_kind is))
  by-kind node (kind.Switch net latency_ns) there is = outlet-at GREATEST_PORTS node.port_bytes within-ports

  by-node : (o : Option NodePlan) → slice_get plan.nodes line.from ≡ o → (outlet : Outlet) × (outlet_in (equipment_opening plan line.from o) line.from_port ≡ Some outlet)
  by-node None e = absurd (none-beyond plan.nodes line.from (line-read plan k line accepted read).0 e)
  by-node (Some node) e = by-kind node node.kind e refl

  its-outlet : (outlet : Outlet) × (outlet_in (opening plan line.from).equipment line.from_port ≡ Some outlet)
  its-outlet = by-node (slice_get plan.nodes line.from) refl

  -- a port that leads into the line is this one
  leads-here : (n i : ℕ) (outlet : Outlet) (leads : LeadsInto plan n i outlet) → outlet.ahead.line ≡ line_process plan k → leads.k ≡ k
  leads-here n i outlet leads e = let at : outlet.ahead.line ≡ line_process plan leads.k = ap (λ (a : LineAhead). a.line) leads.ahead in omega (arith, at, e)

  only-port : (n i : ℕ) (outlet : Outlet) → outlet_in (opening plan n).equipment i ≡ Some outlet → outlet.ahead.line ≡ line_process plan k → (n ≡ line.from) × (i ≡ line.from_port)
  only-port n i outlet there e =
      let leads = all-lead plan n i outlet there in
      let same : leads.line ≡ line = same-read (lines_of plan) leads.k k leads.line line leads.read read (leads-here n i outlet leads e) in
      (sym leads.from ∙ ap (λ (l : LinePlan). l.from) same, sym leads.from_port ∙ ap (λ (l : LinePlan). l.from_port) same)

  -- the process of the line
  line-is : (opening plan (line_process plan k)).equipment ≡ equipment.Line (line_opening plan k (Some line))
  line-is =
      let past : slice_get plan.nodes (line_process plan k) ≡ None = slice_get_past plan.nodes (line_process plan k) (omega arith) in
      let place : line_process plan k - length plan.nodes ≡ k = omega arith in
      ap (equipment_opening plan (line_process plan k)) past ∙ ap (λ j. equipment.Line (line_opening plan j (slice_get (lines_of plan) j))) place ∙ ap (λ o. equipment.Line (line_opening plan k o)) read

  -- a line that leads to the same port is this one
  to-here : (n : ℕ) (other : LineState) (o : Option LinePlan) → slice_get (lines_of plan) (n - length plan.nodes) ≡ o → n - length plan.nodes < length (lines_of plan) → length plan.nodes ≤ n
      → line_opening plan (n - length plan.nodes) o ≡ other → other.to ≡ line.to → other.to_port ≡ line.to_port → n ≡ line_process plan k
  to-here n other None e lt above is to port = absurd (none-beyond (lines_of plan) (n - length plan.nodes) lt e)
  to-here n other (Some l) e lt above is to port =
      let same : n - length plan.nodes ≡ k = own.into (n - length plan.nodes) k l line e read (ap (λ (s : LineState). s.to) is ∙ to) (ap (λ (s : LineState). s.to_port) is ∙ port) in
      omega (arith, same, above)

  kind-no-line : (n bytes : ℕ) (which : NodeKind) (other : LineState) → node_opening plan n bytes which ≡ equipment.Line other → ⊥
  kind-no-line n bytes kind.EndSystem other e = cc
  kind-no-line n bytes (kind.Switch net latency_ns) other e = cc

  only-line-at : (n : ℕ) (other : LineState) → n < process_count plan → (o : Option NodePlan) → slice_get plan.nodes n ≡ o → equipment_opening plan n o ≡ equipment.Line other → other.to ≡ line.to → other.to_port ≡ line.to_port → n ≡ line_process plan k
  only-line-at n other lt (Some node) there e to port = absurd (kind-no-line n node.port_bytes node.kind other e)
  only-line-at n other lt None there e to port =
      let above = none-past plan.nodes n there in
      let is : line_opening plan (n - length plan.nodes) (slice_get (lines_of plan) (n - length plan.nodes)) ≡ other = cc in
      to-here n other (slice_get (lines_of plan) (n - length plan.nodes)) refl (omega (arith, above, length-lines plan.nodes [] plan.links)) above is to port

  pub line-way : IsLineWay plan k line
  line-way =
      let (outlet, there) = its-outlet in
      let leads = all-lead plan line.from line.from_port outlet there in
      let same : leads.k ≡ k = own.out leads.k k leads.line line leads.read read leads.from leads.from_port in
      let line_same : leads.line ≡ line = same-read (lines_of plan) leads.k k leads.line line leads.read read same in
      let ends = line-read plan k line accepted read in
      let within = slice_get_within (lines_of plan) k line read in
      let many = length-lines plan.nodes [] plan.links in
      record {
        outlet = outlet;
        way = record {
          port = there;
          empty = leads.empty;
          into = ap (λ (a : LineAhead). a.line) leads.ahead ∙ ap (line_process plan) same;
          line_is = line-is;
          to = refl;
          to_port = refl;
          only_port = λ n i other lt there e. only-port n i other there e;
          only_line = λ n other lt e to port. only-line-at n other lt (slice_get plan.nodes n) refl e to port;
        };
        byte_ns = ap (λ (a : LineAhead). a.byte_ns) leads.ahead ∙ ap (λ (l : LinePlan). l.byte_ns) line_same;
        from_below = omega (arith, ends.0);
        line_below = omega (arith, within, many);
        to_below = omega (arith, ends.1);
      }
