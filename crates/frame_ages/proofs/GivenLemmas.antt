-- Why a port keeps its bounds: what comes to it is what they say.
use Rattle.std.proofs.Common.{◌≡◌, ℕ, ◌+◌, ◌-◌, ◌*◌, ◌<◌, ◌≤◌, inl, inr, Bool, true, List, [], ◌∷◌, All, Some, None, refl, sym, ap, ◌∙◌, subst, arith, eqb-true}
use Rattle.std.proofs.lemmas.Bool.{cases_lt}
use Rattle.std.proofs.lemmas.Nat.{mul-le}
use Rattle.std.proofs.lemmas.List.Elements.{All-nil, All-weaker}
use Rattle.vlink.specs.Wire.{busy_for}
use Rattle.vlink.specs.declared.frame.Frame.{Frame}
use Rattle.vlink.specs.declared.message.Message.{Message}
use Rattle.vlink.specs.declared.message.Body.{Body}
use Rattle.vlink.specs.declared.message.Body.TheVariants as body
use Rattle.vlink.specs.declared.note.Note.{Note}
use Rattle.frame_ring.specs.Queue.{Queue}
use Rattle.output_port.specs.declared.event.Priority.{Priority}
use Rattle.output_port.specs.declared.event.Priority.TheVariants.{High, Low}
use Rattle.reverse.specs.Rules.{rules_of}
use Rattle.reverse.specs.Setting.{Setting, simulation_of}
use Rattle.virtual_time.specs.Law.{Laws, Simulation, events}
use Rattle.port_bounds.specs.Frames.{IsWithin, PutFrame, link_of}
use Rattle.port_bounds.specs.Sublists.{Every}
use Rattle.port_bounds.specs.Pacing.{IsPaced}
use Rattle.port_bounds.specs.Arrivals.{IsClassWithin, IsEachAtMost, is_by_line, is_of_link, moments_at}
use Rattle.port_bounds.specs.Mixtures.{AreFlowsWithin, AreGroupsWithin, AreKeyed, Flow, Group, IsAmong, groups_burst, groups_rate, lines_of, links_of}
use Rattle.port_bounds.specs.Delays.{AreSentWithin, IsHighInTime, IsLowInTime}
use Rattle.port_bounds.specs.Port.{IsServed, high_starts, idle, low_starts}
use Rattle.port_bounds.proofs.ArrivalLemmas.{paced, serial, spaced}
use Rattle.port_bounds.proofs.HighLemmas as high
use Rattle.port_bounds.proofs.LowLemmas as low
use Rattle.port_bounds.proofs.MixtureLemmas.{mixture}
use Rattle.port_bounds.proofs.StartLemmas.{low-put}
use Rattle.port_bounds.proofs.SublistLemmas.{every-both, every-from-all, every-weaker}
use Rattle.element_bounds.proofs.TraceLemmas.{AllPuts}
use Rattle.nodes.specs.declared.equipment.Equipment.{Equipment}
use Rattle.nodes.specs.declared.equipment.Equipment.TheVariants.{EndSystem, Switch, Line}
use Rattle.nodes.specs.declared.node.NodeRecord.{NodeRecord}
use Rattle.nodes.specs.declared.ports.Outlet.{Outlet}
use Rattle.nodes.specs.declared.source.Source.{Source}
use Rattle.nodes.specs.rules.Node.{NodeState, regulator_in}
use Rattle.nodes.specs.undoing.Node.{node}
use Rattle.port_turns.specs.Nodes.{IsOfNodes}
use Rattle.port_turns.specs.PortEvents.{outlet_in}
use Rattle.port_turns.specs.PortRuns.{AreOwnFrames, BringsAtLeast, puts_with}
use Rattle.port_turns.specs.SwitchPuts.{IsBrought, transit_of}
use Rattle.port_turns.proofs.PortRuns.{are_ports_served}
use Rattle.port_turns.proofs.Releasing.{source-traces-paced}
use Rattle.port_turns.proofs.SerialPuts.{traces-serial}
use Rattle.port_turns.proofs.Traces.{traces-metered, traces-paced}
use Rattle.frame_ages.specs.Ports.{AreApartBy, AreGroups, CostsAtMost, HasAtMost, IsByLine, IsCurve, IsFlow, IsGroup, IsHighBound, IsLowBound, IsMeteredFlow, IsPacedFlow, trace_at}
use Rattle.frame_ages.specs.Ports.IsCurve.{ByBag, ByGap}
use Rattle.frame_ages.specs.Sizes.{HaveEmptyRegulators, IsSized, OpensEmpty, Sizes}
use Rattle.frame_ages.proofs.MeterLemmas.{IsOwnCost, metered}
use Rattle.frame_ages.proofs.PutLemmas.{IsPutFit, puts-fit}
use Rattle.frame_ages.proofs.SizeLemmas.{IsFit, all-fit, idle-at}

-- ---- lists

at-most : (most : ℕ) (test : PutFrame → Bool) (xs : List PutFrame) → Every (λ x. test x ≡ true → x.cost ≤ most) xs → IsEachAtMost most test xs
at-most most test [] h = tt
at-most most test (x ∷ xs) h = (h.0, at-most most test xs h.1)

keyed : (test : PutFrame → Bool) (key : PutFrame → ℕ) (keys : List ℕ) (xs : List PutFrame) → Every (λ x. test x ≡ true → IsAmong (key x) keys) xs → AreKeyed test key keys xs
keyed test key keys [] h = tt
keyed test key keys (x ∷ xs) h = (h.0, keyed test key keys xs h.1)

-- what holds of each of these virtual links holds of one among them
link-among : (P : ℕ → Type 0) (flows : List Flow) (v : ℕ) → Every (λ flow. P flow.link) flows → IsAmong v (links_of flows) → P v
link-among P [] v h i = absurd i
link-among P (flow ∷ flows) v h (inl e) = subst P (sym e) h.0
link-among P (flow ∷ flows) v h (inr k) = link-among P flows v h.1 k

pub own-frames : (e : Equipment) → HaveEmptyRegulators e → AreOwnFrames e
own-frames (EndSystem s) h = All-weaker (λ source. All (λ (list : Queue). list.frames ≡ []) source.regulator.lists) (λ (source : Source). All (λ (list : Queue). All (λ (frame : Frame). frame.vl.0 ≡ source.end.vl.0) list.frames) source.regulator.lists)
    (λ source k. All-weaker (λ (list : Queue). list.frames ≡ []) (λ (list : Queue). All (λ (frame : Frame). frame.vl.0 ≡ source.end.vl.0) list.frames)
    (λ list e. subst (All (λ (frame : Frame). frame.vl.0 ≡ source.end.vl.0)) (sym e) (All-nil (λ (frame : Frame). frame.vl.0 ≡ source.end.vl.0))) source.regulator.lists k) s.sources h
own-frames _ h = tt

-- ---- numbers: what is below so many units and one more ns is no more ns

pub below : (u a b : ℕ) → u * a < u * (b + 1) → a ≤ b
below u a b h = elim (cases_lt b a) [ inl more ↦ absurd (let k : u * (b + 1) ≤ u * a = mul-le u (b + 1) u a (omega arith) (omega arith) in omega arith) | inr less ↦ less ]

sent-by : (u burst delay sent at : ℕ) → u * sent ≤ u * at + burst → burst < u * (delay + 1) → sent ≤ at + delay
sent-by u burst delay sent at h k = below u sent (at + delay) (omega arith)

-- a frame that costs more than the least starts so much earlier
started-by : (u r w burst delay least more start at : ℕ) → u ≡ w + r → u * (start + (least + more)) + r * at ≤ u * at + (r * start + burst) → burst < w * (delay + 1) + u * least → start + more ≤ at + delay
started-by u r w burst delay least more start at e h k =
    let us : u * start ≡ (w + r) * start = ap (λ (n : ℕ). n * start) e in
    let ua : u * at ≡ (w + r) * at = ap (λ (n : ℕ). n * at) e in
    let um : u * more ≡ (w + r) * more = ap (λ (n : ℕ). n * more) e in
    let b : w * (start + more) < w * ((at + delay) + 1) = omega arith in
    below w (start + more) (at + delay) b

start-by : (u r burst delay least cost start at : ℕ) → r < u → u * (start + cost) + r * at ≤ u * at + (r * start + burst) → burst < (u - r) * (delay + 1) + u * least → least ≤ cost → start + cost ≤ (at + delay) + least
start-by u r burst delay least cost start at some h k l =
    let sum : least + (cost - least) ≡ cost = omega arith in
    let started : start + (cost - least) ≤ at + delay = started-by u r (u - r) burst delay least (cost - least) start at (omega arith) (rw sum h) k in
    omega arith

-- ---- a port

module _ (x : Setting NodeState) (L : Laws (simulation_of (rules_of node) x)) (N : IsOfNodes x) (size : ℕ → Sizes) (O : OpensEmpty x size) (p q : ℕ) (outlet : Outlet) (inside : p < x.processes) (n : ℕ) where
  abbrev f : Simulation Message NodeState NodeRecord Note
  f = simulation_of (rules_of node) x

  abbrev byte_ns : ℕ
  byte_ns = outlet.ahead.byte_ns

  abbrev pub puts : Priority → List PutFrame
  puts r = puts_with r (trace_at x p q outlet n)

  abbrev pub Fit : Priority → PutFrame → Type 0
  Fit r put = IsPutFit x L N size O p q inside byte_ns r put

  pub all-puts : AllPuts (IsPutFit x L N size O p q inside byte_ns) byte_ns (trace_at x p q outlet n)
  all-puts = puts-fit x L N size O p q inside byte_ns outlet.port n

  pub fits : (r : Priority) → Every (Fit r) (puts r)
  fits High = all-puts.high
  fits Low = all-puts.low

  busier : (a b : ℕ) → a ≤ b → busy_for a byte_ns ≤ busy_for b byte_ns
  busier a b h = mul-le (a + 20) byte_ns (b + 20) byte_ns (omega arith) (omega arith)

  -- it has no more bytes than its streams offer, or its account lets pass
  pub cost-at-most : (r : Priority) (put : PutFrame) → Fit r put → (bytes : ℕ) → HasAtMost (x.opening p).equipment size (link_of put) bytes → put.cost ≤ busy_for bytes byte_ns
  cost-at-most r put h bytes most =
      let small : put.frame.size ≤ bytes = elim most [
        | inl offered ↦ (let k = h.sized.1 in omega (arith, k, offered))
        | inr passed ↦ (let k = h.passed passed.0 passed.1 in let le = passed.2 in omega (arith, k, le))
      ] in
      let busy = busier put.frame.size bytes small in
      let cost = h.cost in
      omega (arith, busy, cost)

  pub costs-within : (r : Priority) (put : PutFrame) → Fit r put → (most : ℕ) → CostsAtMost (x.opening p).equipment size byte_ns (link_of put) most → put.cost ≤ most
  costs-within r put h most c = let all = cost-at-most r put h c.greatest c.at_most in let le = c.cost in omega (arith, all, le)

  pub cost-at-least : (r : Priority) (put : PutFrame) → Fit r put → busy_for (size (link_of put)).least byte_ns ≤ put.cost
  cost-at-least r put h = let least = busier (size (link_of put)).least put.frame.size h.sized.0 in let cost = h.cost in omega arith

  brings : (v : ℕ) (m : Message) → IsFit x L N size O m → BringsAtLeast v (size v).least m
  brings v m h bytes brought = go m.body h.0 brought
    where
      go : (b : Body) → IsSized size b → IsBrought v bytes b → (size v).least ≤ bytes
      go (body.Arrive k frame) s i = let e : (size v).least ≡ (size frame.vl.0).least = ap (λ z. (size z).least) (sym i.0) in let least = s.0 in let same = i.1 in omega arith
      go _ s i = absurd i

  module _ (r : Priority) where
    -- frames of a virtual link are so far apart
    link-paced : (v bag slack : ℕ) (e : Equipment) → (x.opening p).equipment ≡ e → HaveEmptyRegulators e → AreApartBy e v (size v).least bag slack → IsPaced bag slack (moments_at (is_of_link v) (puts r))
    link-paced v bag slack (EndSystem s) is empty h =
        subst (λ k. IsPaced k slack (moments_at (is_of_link v) (puts r))) h.2 (subst (λ k. IsPaced h.0.bag k (moments_at (is_of_link v) (puts r))) (sym h.3)
        (source-traces-paced q v (x.opening p) h.0 (events f n p) (ap (λ z. regulator_in z (record { 0 = v })) is ∙ h.1) (own-frames (x.opening p).equipment (O.regulators p inside)) byte_ns outlet.port r))
    link-paced v bag slack (Switch s) is empty h =
        subst (λ k. IsPaced k slack (moments_at (is_of_link v) (puts r))) h.3 (subst (λ k. IsPaced h.0.account.bag k (moments_at (is_of_link v) (puts r))) h.4
        (traces-paced byte_ns q v x L N p inside h.0 (ap (λ z. transit_of z v) is ∙ h.1) (size v).least h.2 outlet.port r n
        (every-weaker (IsFit x L N size O) (BringsAtLeast v (size v).least) (brings v) (events f n p) (every-from-all (IsFit x L N size O) (events f n p) (all-fit x L N size O n p)))))
    link-paced v bag slack (Line s) is empty h = absurd h

    module _ (scale whole : ℕ) where
      paced-within : (flow : Flow) → IsPacedFlow (x.opening p).equipment size byte_ns scale flow → IsClassWithin scale flow.burst flow.rate (is_of_link flow.link) (puts r)
      paced-within flow h = by h.curve
        where
          pace : IsPaced h.bag h.slack (moments_at (is_of_link flow.link) (puts r))
          pace = link-paced flow.link h.bag h.slack (x.opening p).equipment refl (O.regulators p inside) h.apart

          one : (put : PutFrame) → Fit r put → is_of_link flow.link put ≡ true → put.cost ≤ busy_for h.greatest byte_ns
          one put k e = cost-at-most r put k h.greatest (subst (λ z. HasAtMost (x.opening p).equipment size z h.greatest) (sym (eqb-true (link_of put) flow.link e)) h.at_most)

          few : IsEachAtMost (busy_for h.greatest byte_ns) (is_of_link flow.link) (puts r)
          few = at-most (busy_for h.greatest byte_ns) (is_of_link flow.link) (puts r)
              (every-weaker (Fit r) (λ put. is_of_link flow.link put ≡ true → put.cost ≤ busy_for h.greatest byte_ns) (λ put k e. one put k e) (puts r) (fits r))

          by : IsCurve h.parts h.bag h.slack scale (busy_for h.greatest byte_ns) flow → IsClassWithin scale flow.burst flow.rate (is_of_link flow.link) (puts r)
          by (ByBag burst rate) =
              subst (λ k. IsClassWithin k flow.burst flow.rate (is_of_link flow.link) (puts r)) h.units
              (subst (λ k. IsClassWithin (h.parts * h.bag) k flow.rate (is_of_link flow.link) (puts r)) (sym burst)
              (subst (λ k. IsClassWithin (h.parts * h.bag) ((h.parts * busy_for h.greatest byte_ns) * (h.bag + h.slack)) k (is_of_link flow.link) (puts r)) (sym rate)
              (paced h.parts h.bag h.slack (busy_for h.greatest byte_ns) (is_of_link flow.link) (puts r) pace few)))
          by (ByGap burst rate) =
              subst (λ k. IsClassWithin scale k flow.rate (is_of_link flow.link) (puts r)) (sym burst)
              (spaced scale flow.rate h.bag h.slack (busy_for h.greatest byte_ns) (is_of_link flow.link) (puts r) pace few rate)

      metered-within : (flow : Flow) → IsMeteredFlow (x.opening p).equipment size byte_ns scale flow → IsClassWithin scale flow.burst flow.rate (is_of_link flow.link) (puts r)
      metered-within flow h =
          let bag = h.transit.account.bag in
          let jitter = h.transit.account.jitter in
          subst (λ k. IsClassWithin k flow.burst flow.rate (is_of_link flow.link) (puts r)) h.units
          (subst (λ k. IsClassWithin (h.parts * bag) k flow.rate (is_of_link flow.link) (puts r)) (sym h.burst)
          (subst (λ k. IsClassWithin (h.parts * bag) ((h.parts * h.cost) * (bag + jitter)) k (is_of_link flow.link) (puts r)) (sym h.rate)
          (metered flow.link h.least byte_ns h.parts h.transit.account.smax bag jitter h.cost (puts r) h.some
          (traces-metered byte_ns q flow.link x L N p inside h.transit h.is h.bytes outlet.port r n)
          (every-weaker (Fit r) (IsOwnCost flow.link h.least byte_ns) (λ put k e. (k.cost, own put k e)) (puts r) (fits r)) h.enough)))
        where
          own : (put : PutFrame) → Fit r put → link_of put ≡ flow.link → h.least ≤ put.frame.size
          own put k e = let long : (size flow.link).least ≤ put.frame.size = subst (λ z. (size z).least ≤ put.frame.size) e k.sized.0 in let least = h.shorter in omega (arith, long, least)

      flow-within : (flow : Flow) → IsFlow (x.opening p).equipment size byte_ns scale flow → IsClassWithin scale flow.burst flow.rate (is_of_link flow.link) (puts r)
      flow-within flow (inl h) = paced-within flow h
      flow-within flow (inr h) = metered-within flow h

      flows-within : (flows : List Flow) → Every (IsFlow (x.opening p).equipment size byte_ns scale) flows → AreFlowsWithin scale flows (puts r)
      flows-within [] h = tt
      flows-within (flow ∷ flows) h = (flow-within flow h.0, flows-within flows h.1)

      -- only virtual links of the group come by its line
      abbrev HaveLinks : Group → Type 0
      HaveLinks g = Every (λ put. put.line ≡ g.line → IsAmong (link_of put) (links_of g.flows)) (puts r)

      line-within : (g : Group) → HaveLinks g → IsByLine x p size byte_ns scale g → IsClassWithin scale g.burst g.rate (is_by_line g.line) (puts r)
      line-within g links h =
          subst (λ k. IsClassWithin scale k g.rate (is_by_line g.line) (puts r)) (sym h.burst)
          (subst (λ k. IsClassWithin scale (scale * h.most) k (is_by_line g.line) (puts r)) (sym h.rate)
          (serial scale h.most None (is_by_line g.line) (puts r)
          (traces-serial x L h.from h.from_port h.by p g.line h.from_inside h.by_inside inside N h.outlet h.line h.way h.switch h.is_switch q byte_ns h.slower outlet.port r n)
          (at-most h.most (is_by_line g.line) (puts r) (both (puts r) (fits r) links))))
        where
          one : (put : PutFrame) → Fit r put → (put.line ≡ g.line → IsAmong (link_of put) (links_of g.flows)) → is_by_line g.line put ≡ true → put.cost ≤ h.most
          one put k i e =
              costs-within r put k h.most (link-among (λ v. CostsAtMost (x.opening p).equipment size byte_ns v h.most) g.flows (link_of put) h.costs (i (eqb-true put.line g.line e)))

          both : (xs : List PutFrame) → Every (Fit r) xs → Every (λ put. put.line ≡ g.line → IsAmong (link_of put) (links_of g.flows)) xs → Every (λ put. is_by_line g.line put ≡ true → put.cost ≤ h.most) xs
          both [] a b = tt
          both (put ∷ xs) a b = (one put a.0 b.0, both xs a.1 b.1)

      groups-within : (groups : List Group) → Every (IsGroup x p size byte_ns scale whole) groups → Every HaveLinks groups → AreGroupsWithin scale whole groups (puts r)
      groups-within [] h links = tt
      groups-within (g ∷ groups) h links = (
        h.0.weight,
        λ some. line-within g links.0 (h.0.by_line some),
        flows-within g.flows h.0.flows,
        keyed (is_by_line g.line) link_of (links_of g.flows) (puts r) (every-weaker (λ put. put.line ≡ g.line → IsAmong (link_of put) (links_of g.flows)) (λ put. is_by_line g.line put ≡ true → IsAmong (link_of put) (links_of g.flows))
            (λ put k e. k (eqb-true put.line g.line e)) (puts r) links.0),
        groups-within groups h.1 links.1,
      )

      -- of each frame each group has the virtual link, if it has the line; so each group has those of all frames
      turned : (groups : List Group) (xs : List PutFrame) → Every (λ put. Every (λ g. put.line ≡ g.line → IsAmong (link_of put) (links_of g.flows)) groups) xs →
          Every (λ g. Every (λ put. put.line ≡ g.line → IsAmong (link_of put) (links_of g.flows)) xs) groups
      turned [] xs h = tt
      turned (g ∷ groups) xs h = (
        every-weaker (λ put. Every (λ g. put.line ≡ g.line → IsAmong (link_of put) (links_of g.flows)) (g ∷ groups)) (λ put. put.line ≡ g.line → IsAmong (link_of put) (links_of g.flows)) (λ put k. k.0) xs h,
        turned groups xs (every-weaker (λ put. Every (λ g. put.line ≡ g.line → IsAmong (link_of put) (links_of g.flows)) (g ∷ groups)) (λ put. Every (λ g. put.line ≡ g.line → IsAmong (link_of put) (links_of g.flows)) groups) (λ put k. k.1) xs h),
      )

      -- all frames of the priority together
      pub all-within : (groups : List Group) → AreGroups x size p q outlet scale whole r groups → IsWithin (whole * scale) (groups_burst whole groups) (groups_rate whole groups) (puts r)
      all-within groups h = mixture scale whole groups (puts r)
          (groups-within groups h.each (turned groups (puts r) (every-weaker (Fit r) (λ put. Every (λ g. put.line ≡ g.line → IsAmong (link_of put) (links_of g.flows)) groups)
          (λ put k. (h.listed (link_of put) put.line k.through).link_in) (puts r) (fits r))))
          (keyed (λ put. true) (λ put. put.line) (lines_of groups) (puts r) (every-weaker (Fit r) (λ put. true ≡ true → IsAmong put.line (lines_of groups))
          (λ put k e. (h.listed (link_of put) put.line k.through).line_in) (puts r) (fits r)))

module _ (x : Setting NodeState) (L : Laws (simulation_of (rules_of node) x)) (N : IsOfNodes x) (size : ℕ → Sizes) (O : OpensEmpty x size) (p q : ℕ) (outlet : Outlet) (inside : p < x.processes) (is : outlet_in (x.opening p).equipment q ≡ Some outlet) (n : ℕ) where
  served : IsServed idle 0 (trace_at x p q outlet n)
  served = are_ports_served x p q L inside N outlet is (idle-at (x.opening p).equipment q outlet (O.ports p inside) is) n

  pub highs-in-time : (delay : ℕ) → IsHighBound x size p q outlet delay → AreSentWithin delay (high_starts idle (trace_at x p q outlet n))
  highs-in-time delay h =
      every-weaker (IsHighInTime (h.whole * h.scale) (groups_burst h.whole h.high + (h.whole * h.scale) * h.most)) (λ s. s.at + s.put.cost ≤ s.put.at + delay)
      (λ s k. sent-by (h.whole * h.scale) (groups_burst h.whole h.high + (h.whole * h.scale) * h.most) delay (s.at + s.put.cost) s.put.at k h.within)
      (high_starts idle (trace_at x p q outlet n))
      (high.bounded (h.whole * h.scale) (groups_burst h.whole h.high) (groups_rate h.whole h.high) h.most (trace_at x p q outlet n) h.rate served (all-within x L N size O p q outlet inside n High h.scale h.whole h.high h.high_are)
      (every-weaker (Fit x L N size O p q outlet inside n Low) (λ put. put.cost ≤ h.most) (λ put k. costs-within x L N size O p q outlet inside n Low put k h.most (h.low_costs (link_of put) put.line k.through)) (puts x L N size O p q outlet inside n Low) (fits x L N size O p q outlet inside n Low)))

  pub lows-in-time : (v delay : ℕ) → IsLowBound x size p q outlet v delay → Every (λ s. link_of s.put ≡ v → s.at + s.put.cost ≤ (s.put.at + delay) + busy_for (size v).least outlet.ahead.byte_ns) (low_starts idle (trace_at x p q outlet n))
  lows-in-time v delay h =
      every-weaker (λ s. Fit x L N size O p q outlet inside n Low s.put × IsLowInTime (h.whole * h.scale) (groups_burst h.whole h.high + groups_burst h.whole h.low) (groups_rate h.whole h.high) s) (λ s. link_of s.put ≡ v → s.at + s.put.cost ≤ (s.put.at + delay) + busy_for (size v).least outlet.ahead.byte_ns)
      (λ s k e. start-by (h.whole * h.scale) (groups_rate h.whole h.high) (groups_burst h.whole h.high + groups_burst h.whole h.low) delay (busy_for (size v).least outlet.ahead.byte_ns) s.put.cost s.at s.put.at h.some k.1 h.within
      (subst (λ z. busy_for (size z).least outlet.ahead.byte_ns ≤ s.put.cost) e (cost-at-least x L N size O p q outlet inside n Low s.put k.0)))
      (low_starts idle (trace_at x p q outlet n))
      (every-both (λ s. Fit x L N size O p q outlet inside n Low s.put) (IsLowInTime (h.whole * h.scale) (groups_burst h.whole h.high + groups_burst h.whole h.low) (groups_rate h.whole h.high)) (low_starts idle (trace_at x p q outlet n))
      (low-put (Fit x L N size O p q outlet inside n Low) (trace_at x p q outlet n) (fits x L N size O p q outlet inside n Low))
      (low.bounded (h.whole * h.scale) (groups_burst h.whole h.high) (groups_rate h.whole h.high) (groups_burst h.whole h.low) (groups_rate h.whole h.low) (trace_at x p q outlet n) h.rates served
      (all-within x L N size O p q outlet inside n High h.scale h.whole h.high h.high_are) (all-within x L N size O p q outlet inside n Low h.scale h.whole h.low h.low_are)))
