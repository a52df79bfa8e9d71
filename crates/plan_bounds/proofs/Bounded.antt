-- Each bound of a network holds in its one-thread run, where its regulators hold frames no longer than they may.
use Rattle.std.proofs.Common.{Contains, List, length, Ok, ◌≤◌, ◌≡◌, ℕ, ◌+◌, ◌*◌, ◌<◌, ◌==◌, ◌&&◌, ◌||◌, ◌⊎◌, not, Bool, true, false, cond, min, nat_le, nat_lt, ltb-true, get_or, Option, Some, None, All, IfSome, inl, inr, refl, ap, sym, ◌∙◌, subst, arith, slice_get, option_and_then, eqb-true, leb-true}
use Rattle.std.specs.List.{list_any}
use Rattle.std.proofs.lemmas.Bool.{cases_lt, false≢true}
use Rattle.std.proofs.lemmas.Option.{slice_get-get_or}
use Rattle.std.proofs.lemmas.List.Elements.{All-contains, All-weaker}
use Rattle.virtual_time.specs.Law.{Laws}
use Rattle.reverse.specs.Rules.{rules_of}
use Rattle.reverse.specs.Setting.{simulation_of}
use Rattle.port_bounds.specs.Port.{idle}
use Rattle.element_bounds.specs.PortTrace.{IsSamePort}
use Rattle.network.specs.declared.wiring.LinePlan.{LinePlan}
use Rattle.network.specs.Words.{IsAccepted, lines_of, Plan, VlPlan, destinations_of, process_count}
use Rattle.network.proofs.SourceLemmas.{HasSource, all-have, end-system-below}
use Rattle.network_faults.proofs.MemberLemmas.{has-from_contains}
use Rattle.nodes.specs.declared.equipment.Equipment.{Equipment}
use Rattle.nodes.specs.declared.equipment.Equipment.TheVariants as equipment
use Rattle.nodes.specs.declared.ports.Outlet.{Outlet}
use Rattle.nodes.specs.rules.Opening.{opening}
use Rattle.nodes.specs.rules.Ports.{PortsState}
use Rattle.nodes.specs.undoing.Node.{node}
use Rattle.port_turns.specs.Nodes.{IsOfNodes, is_offer}
use Rattle.port_turns.specs.PortEvents.{outlet_in}
use Rattle.seqsim.specs.Networks.{setting_of}
use Rattle.plan_bounds.proofs.Sizes.{offers-sized, sizes-are, sizes_of}
use Rattle.plan_bounds.proofs.Counted.{AreSized}
use Rattle.plan_ports.specs.Links.{LeavesBy}
use Rattle.traffic.specs.Offers.{offers_of}
use Rattle.vlink.specs.declared.message.Message.{Message}
use Rattle.vlink.specs.declared.message.Body.{Body}
use Rattle.vlink.specs.declared.message.Body.TheVariants as body
use Rattle.network_bounds.specs.declared.sizes.LinkSizes.{LinkSizes}
use Rattle.network_bounds.specs.Sizes.{sizes_in}
use Rattle.plan_ports.proofs.Linked.{all-empty}
use Rattle.plan_ports.proofs.Offered.{all-offered}
use Rattle.plan_ports.proofs.Ways.{all-lead, line-way}
use Rattle.network_bounds.specs.Ages.{age_to, is_steady, late_in, steady_wait, wait_of}
use Rattle.network_bounds.specs.Curves.{bag_of}
use Rattle.frame_ages.specs.Latencies.{IsHeldWithin}
use Rattle.frame_ages.specs.Sizes.{HaveEmptyRegulators, HaveIdlePorts, IsSized, OpensEmpty, Sizes}
use Rattle.plan_waits.specs.Held.{AreListsHeld, ArePeriodsHeld, IsSent, IsSteady}
use Rattle.network_bounds.specs.declared.delays.PortBound.{PortBound}
use Rattle.network_bounds.specs.Delays.{AreBounds}
use Rattle.frame_ages.specs.Ports.{IsWaitingBound}
use Rattle.frame_ages.specs.Rooms.{AreFramesKept, HasRoomAt}
use Rattle.least_ages.specs.Deliveries.{AreDeliveriesTimely}
use Rattle.least_ages.specs.Ports.{AreBytesBounded, ArePortsRoomy, TakesAll, asked_in, waiting_in}
use Rattle.network_bounds.specs.Least.{least_to}
use Rattle.plan_ports.proofs.OwnPorts.{own-ports}
use Rattle.plan_bounds.specs.Columns.{IsBefore}
use Rattle.nodes.specs.declared.ports.LineAhead.{LineAhead}
use Rattle.plan_ports.specs.Outlets.{LeadsInto, port_bytes_at}
use Rattle.plan_bounds.specs.Rooms.{DropsNoneFull, Holds}
use Rattle.plan_bounds.proofs.Routes.{bound-at}
use Rattle.plan_bounds.proofs.Waiting.{waiting-bound}
use Rattle.plan_bounds.specs.Latencies.{AreTimely, IsLatencyBound}
use Rattle.plan_bounds.proofs.Destinations.{arriving, comes-in-time, sent}
use Rattle.plan_bounds.proofs.Sources.{destination-end}

both-true : (a b : Bool) → (a && b) ≡ true → (a ≡ true) × (b ≡ true)
both-true true b h = (refl, h)
both-true false b h = absurd (false≢true h)

either-true : (a b : Bool) → (a || b) ≡ true → (a ≡ true) ⊎ (b ≡ true)
either-true true b h = inl refl
either-true false b h = inr h

not-true : (b : Bool) → not b ≡ true → b ≡ false
not-true true h = absurd (false≢true h)
not-true false h = refl

-- ---- how a run begins

module _ (plan : Plan) (accepted : IsAccepted plan) where
  empty-at : (p : ℕ) (e : Equipment) → (opening plan p).equipment ≡ e → HaveEmptyRegulators e
  empty-at p (equipment.EndSystem s) is = all-empty plan accepted p s is
  empty-at p (equipment.Switch s) is = tt
  empty-at p (equipment.Line s) is = tt

  all-idle : (p : ℕ) (ports : PortsState) → ((q : ℕ) (outlet : Outlet) → slice_get ports q ≡ Some (Some outlet) → IsSamePort outlet.port idle) → All (λ slot. IfSome slot (λ outlet. IsSamePort outlet.port idle)) ports
  all-idle p ports each i d lt = go (get_or ports i d) (slice_get-get_or ports i d lt)
    where
      go : (o : Option Outlet) → slice_get ports i ≡ Some o → IfSome o (λ outlet. IsSamePort outlet.port idle)
      go None at = tt
      go (Some outlet) at = each i outlet at

  idle-at : (p : ℕ) (e : Equipment) → (opening plan p).equipment ≡ e → HaveIdlePorts e
  idle-at p (equipment.EndSystem s) is = all-idle p s.ports (λ q outlet at. (all-lead plan p q outlet (ap (λ e. outlet_in e q) is ∙ ap (λ o. option_and_then (λ outlet. outlet) o) at)).empty)
  idle-at p (equipment.Switch s) is = all-idle p s.ports (λ q outlet at. (all-lead plan p q outlet (ap (λ e. outlet_in e q) is ∙ ap (λ o. option_and_then (λ outlet. outlet) o) at)).empty)
  idle-at p (equipment.Line s) is = tt

  opens-empty : OpensEmpty (setting_of plan) (sizes_of plan)
  opens-empty = record {
    regulators = λ p lt. empty-at p (opening plan p).equipment refl;
    ports = λ p lt. idle-at p (opening plan p).equipment refl;
    offers = offers-sized plan accepted;
  }

  -- the sizes of frames, where no fewer bytes count than are sent
  abbrev pub counted : (ℕ → LinkSizes) → ℕ → Sizes
  counted known v = record { least = min (known v).sent.least (sizes_of plan v).least; greatest = (sizes_of plan v).greatest }

  wider : (known : ℕ → LinkSizes) (b : Body) → IsSized (sizes_of plan) b → IsSized (counted known) b
  wider known (body.Offer vl bytes sub) h = let low = h.0 in (omega (arith, low), h.1)
  wider known (body.Arrive p frame) h = let low = h.0 in (omega (arith, low), h.1)
  wider known (body.Enqueue p frame) h = let low = h.0 in (omega (arith, low), h.1)
  wider known (body.Carry frame) h = let low = h.0 in (omega (arith, low), h.1)
  wider known _ h = tt

  opens-counted : (known : ℕ → LinkSizes) → OpensEmpty (setting_of plan) (counted known)
  opens-counted known = record {
    regulators = opens-empty.regulators;
    ports = opens-empty.ports;
    offers = All-weaker (λ (m : Message). IsSized (sizes_of plan) m.body) (λ (m : Message). IsSized (counted known) m.body) (λ m h. wider known m.body h) (offers_of plan) opens-empty.offers;
  }

  of-nodes : IsOfNodes (setting_of plan)
  of-nodes = record { number = λ p lt. refl; until = λ p lt. refl; offered = all-offered plan (λ m. is_offer m.body ≡ true) (λ s n of. refl) }

  -- ---- how long a regulator holds frames

  module _ (laws : Laws (simulation_of (rules_of node) (setting_of plan))) (deliveries : AreDeliveriesTimely) (lists : AreListsHeld plan) (periods : ArePeriodsHeld plan) where
    held : (p : ℕ) (vl : VlPlan) → IsSent plan p vl → IsHeldWithin (setting_of plan) p vl.link.id.0 (wait_of plan vl.link)
    held p vl simple = go (is_steady plan vl.link) refl
      where
        by_list : IsHeldWithin (setting_of plan) p vl.link.id.0 (vl.link.depth * vl.link.sub * bag_of vl.link)
        by_list = lists laws of-nodes (sizes_of plan) opens-empty p vl simple

        lesser : (a b : ℕ) → IsHeldWithin (setting_of plan) p vl.link.id.0 a → IsHeldWithin (setting_of plan) p vl.link.id.0 b → IsHeldWithin (setting_of plan) p vl.link.id.0 (min a b)
        lesser a b h k = elim (cases_lt a b) [
          | inl lt ↦ (let same : a ≡ min a b = omega (arith, lt) in subst (IsHeldWithin (setting_of plan) p vl.link.id.0) same h)
          | inr ge ↦ (let same : b ≡ min a b = omega (arith, ge) in subst (IsHeldWithin (setting_of plan) p vl.link.id.0) same k)
        ]

        steady : is_steady plan vl.link ≡ true → IsSteady plan vl (late_in vl.link.own)
        steady e =
            let single = (vl.link.own.frames == 1) && nat_lt (late_in vl.link.own) vl.link.own.period_ns in
            let (one, fits) = both-true (((vl.link.sub == 1) || single) && not (list_any (λ s. s.vl.0 == vl.link.id.0) plan.streams)) _ e in
            let (waits, alone) = both-true ((vl.link.sub == 1) || single) _ one in
            let (time, order) = both-true (nat_le (vl.link.own.frames * bag_of vl.link) vl.link.own.period_ns) _ fits in
            record {
              one_waits = elim (either-true (vl.link.sub == 1) single waits) [
                | inl list ↦ inl (eqb-true vl.link.sub 1 list)
                | inr frame ↦ (let (count, before) = both-true (vl.link.own.frames == 1) _ frame in inr (eqb-true vl.link.own.frames 1 count, ltb-true _ _ before))
              ];
              alone = not-true _ alone;
              in_time = leb-true _ _ time;
              late_is = refl;
              in_order = leb-true _ _ order;
            }

        go : (b : Bool) → is_steady plan vl.link ≡ b → IsHeldWithin (setting_of plan) p vl.link.id.0 (cond b (min (vl.link.depth * vl.link.sub * bag_of vl.link) (steady_wait vl.link)) (vl.link.depth * vl.link.sub * bag_of vl.link))
        go false e = by_list
        go true e = lesser (vl.link.depth * vl.link.sub * bag_of vl.link) (steady_wait vl.link) by_list (periods laws of-nodes (sizes_of plan) opens-empty p vl simple (late_in vl.link.own) (steady e))

    -- by bounds for these sizes each frame that is delivered was held and took no longer, and no less than the least
    pub timely : (known : ℕ → LinkSizes) (bounds : List PortBound) → AreBounds known plan (lines_of plan) bounds → (vl : VlPlan) → Contains plan.vls vl → ((p q : ℕ) → LeavesBy plan p q vl → AreSized plan known (counted known) p) →
        (known vl.link.id.0).sent.least ≤ (sizes_in plan vl.link).least → (n : ℕ) → Contains (destinations_of vl) n → (network_ns : ℕ) → age_to plan bounds vl.link (known vl.link.id.0).sent.least n ≡ Ok network_ns →
        AreTimely plan vl n (wait_of plan vl.link) network_ns (least_to plan vl.link (known vl.link.id.0).sent.least n)
    timely known bounds are vl is_vl all shorter n there network_ns e =
        let has = All-contains (HasSource plan.nodes) plan.vls vl (all-have plan accepted) is_vl in
        let least = (known vl.link.id.0).sent.least in
        let own : (sizes_of plan vl.link.id.0).least ≡ (sizes_in plan vl.link).least = ap (λ (z : Sizes). z.least) (sizes-are plan accepted vl is_vl) in
        let least_is : min least (sizes_of plan vl.link.id.0).least ≡ least = omega (arith, own, shorter) in
        let arrival = arriving plan accepted vl is_vl known (counted known) all least least_is bounds are has.node has.is n network_ns e in
        let end = destination-end plan accepted vl is_vl n (has-from_contains (destinations_of vl) n there) in
        let (line, age, soonest, c) = sent plan accepted vl is_vl known (counted known) all least least_is bounds are has.node has.is n network_ns arrival in
        let source_below : has.node < process_count plan = (let lt = end-system-below plan.nodes has.node has.end_system in omega (arith, lt)) in
        let below : n < process_count plan = (let lt = end-system-below plan.nodes n end in omega (arith, lt)) in
        let simple : IsSent plan has.node vl = record {
          inside = source_below;
          is_vl = is_vl;
          port = c.source_port;
          leaves = c.leaves;
          end_system = c.end_system.state;
          is = c.end_system.is;
        } in
        λ events row found place latency note.
        deliveries (setting_of plan) laws of-nodes (counted known) (opens-counted known) vl.link.id.0 has.node n (wait_of plan vl.link) network_ns (least_to plan vl.link least n) below (held has.node vl simple)
        (comes-in-time plan accepted vl is_vl known (counted known) all least least_is bounds are has.node has.is n network_ns end arrival) events row found place vl.link.id latency refl note

    -- so the age that they give is a bound
    pub bounded : (known : ℕ → LinkSizes) (bounds : List PortBound) → AreBounds known plan (lines_of plan) bounds → (vl : VlPlan) → Contains plan.vls vl → ((p q : ℕ) → LeavesBy plan p q vl → AreSized plan known (counted known) p) →
        (known vl.link.id.0).sent.least ≤ (sizes_in plan vl.link).least → (n : ℕ) → Contains (destinations_of vl) n → (network_ns : ℕ) → age_to plan bounds vl.link (known vl.link.id.0).sent.least n ≡ Ok network_ns →
        IsLatencyBound plan vl n (network_ns + wait_of plan vl.link)
    bounded known bounds are vl is_vl all shorter n there network_ns e events row found place latency note =
        let t = timely known bounds are vl is_vl all shorter n there network_ns e events row found place latency note in
        let since = t.since in let held = t.held in let late = t.no_later in
        omega arith

  -- ---- ports that have room

  -- the bytes of a line are a bound of what waits before it
  waiting-at : (known : ℕ → LinkSizes) (bounds : List PortBound) → AreBounds known plan (lines_of plan) bounds → (p q : ℕ) → AreSized plan known (counted known) p → (outlet : Outlet) (leads : LeadsInto plan p q outlet) (bound : PortBound) →
      slice_get bounds leads.k ≡ Some bound → (bytes : ℕ) → bound.waiting ≡ Ok bytes → IsWaitingBound (setting_of plan) (counted known) p q outlet bytes
  waiting-at known bounds are p q all outlet leads bound read bytes waiting =
      let (w, is) = bound-at known plan (lines_of plan) bounds are leads.k leads.line bound leads.read read in
      let byte : outlet.ahead.byte_ns ≡ leads.line.byte_ns = ap (λ (a : LineAhead). a.byte_ns) leads.ahead in
      let found = waiting-bound known (counted known) plan accepted leads.k leads.line leads.read (subst (AreSized plan known (counted known)) (sym leads.from) all) w outlet byte bytes (ap (λ (b : PortBound). b.waiting) (sym is) ∙ waiting) in
      subst (λ n. IsWaitingBound (setting_of plan) (counted known) n q outlet bytes) leads.from (subst (λ j. IsWaitingBound (setting_of plan) (counted known) leads.line.from j outlet bytes) leads.from_port found)

  room-at : (known : ℕ → LinkSizes) (bounds : List PortBound) → AreBounds known plan (lines_of plan) bounds → (p q : ℕ) → AreSized plan known (counted known) p → (outlet : Outlet) (leads : LeadsInto plan p q outlet) → Holds plan bounds p leads.k →
      HasRoomAt (setting_of plan) (counted known) p q outlet
  room-at known bounds are p q all outlet leads holds = record {
    bytes = holds.bytes;
    bound = waiting-at known bounds are p q all outlet leads holds.bound holds.read holds.bytes holds.waiting;
    room = subst (λ n. holds.bytes ≤ n) (sym leads.room) holds.room;
  }

  -- a line's own port
  module _ (laws : Laws (simulation_of (rules_of node) (setting_of plan))) (bytes_law : AreBytesBounded) (ports_roomy : ArePortsRoomy) (known : ℕ → LinkSizes) (bounds : List PortBound) (are : AreBounds known plan (lines_of plan) bounds)
      (k : ℕ) (bound : PortBound) (at : slice_get bounds k ≡ Some bound) (waiting : ℕ) (is : bound.waiting ≡ Ok waiting) (line : LinePlan) (outlet : Outlet) (before : IsBefore plan k line outlet)
      (all : AreSized plan known (counted known) line.from) where
    leads : LeadsInto plan line.from line.from_port outlet
    leads = all-lead plan line.from line.from_port outlet before.there

    own-bound : slice_get bounds leads.k ≡ Some bound
    own-bound = ap (slice_get bounds) ((own-ports plan accepted).out leads.k k leads.line line leads.read before.read leads.from leads.from_port) ∙ at

    inside : line.from < process_count plan
    inside = (line-way plan accepted (own-ports plan accepted) k line before.read).from_below

    pub few-wait : (events : ℕ) → waiting_in (setting_of plan) line.from line.from_port outlet events ≤ waiting
    few-wait events = bytes_law (setting_of plan) laws of-nodes (counted known) (opens-counted known) line.from line.from_port outlet inside before.there waiting
        (waiting-at known bounds are line.from line.from_port all outlet leads bound own-bound waiting is) events

    pub takes-all : waiting ≤ port_bytes_at plan line.from → (events : ℕ) → TakesAll outlet.port (asked_in (setting_of plan) line.from line.from_port events)
    takes-all room events = ports_roomy (setting_of plan) laws of-nodes (counted known) (opens-counted known) line.from line.from_port outlet inside before.there
        (room-at known bounds are line.from line.from_port all outlet leads (record { bound = bound; read = own-bound; bytes = waiting; waiting = is; room = room })) events

  module _ (laws : Laws (simulation_of (rules_of node) (setting_of plan))) (kept : AreFramesKept) where
    pub roomy : (known : ℕ → LinkSizes) (bounds : List PortBound) → AreBounds known plan (lines_of plan) bounds → (p : ℕ) → p < length plan.nodes → AreSized plan known (counted known) p →
        ((k : ℕ) (line : LinePlan) → slice_get (lines_of plan) k ≡ Some line → line.from ≡ p → Holds plan bounds p k) → DropsNoneFull plan p
    roomy known bounds are p lt all each =
        let inside : p < process_count plan = omega (arith, lt) in
        λ events row found place vl bytes note.
        kept (setting_of plan) laws of-nodes (counted known) (opens-counted known) p inside
        (λ q outlet there. (let leads = all-lead plan p q outlet there in room-at known bounds are p q all outlet leads (each leads.k leads.line leads.read leads.from))) events row found place vl bytes note
