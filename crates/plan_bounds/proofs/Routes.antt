-- The age that the bounds of a network give a frame behind a line is the time of its way there.
use Rattle.std.proofs.Common.{◌≡◌, ℕ, zero, suc, ◌+◌, ◌-◌, ◌^◌, ◌<◌, ◌≤◌, Bool, true, false, cond, List, [], ◌∷◌, Option, Some, None, inl, inr, Result, Ok, Err, refl, ap, sym, ◌∙◌, subst, arith, slice_get, Contains}
use Rattle.std.specs.Option.{option_map_or}
use Rattle.std.proofs.lemmas.Option.{none-some, same_Some}
use Rattle.row_types.specs.declared.rows.Priority as row
use Rattle.row_types.specs.declared.rows.Priority.TheVariants as rows
use Rattle.row_types.specs.declared.rows.VirtualLink.{VirtualLink}
use Rattle.output_port.specs.declared.event.Priority.{Priority}
use Rattle.output_port.specs.declared.event.Priority.TheVariants.{High, Low}
use Rattle.network.specs.declared.wiring.LinePlan.{LinePlan}
use Rattle.network.specs.Words.{IsAccepted, Plan, VlPlan, is_end_system, lines_of, source_of as begins_at}
use Rattle.network.proofs.BuildLemmas.{line-read}
use Rattle.network_faults.proofs.MemberLemmas.{has-from_contains}
use Rattle.nodes.specs.declared.opening.meeting.Side.TheVariants.{In}
use Rattle.nodes.specs.rules.Meeting.{first_port, ways_at}
use Rattle.nodes.specs.rules.Opening as opened
use Rattle.nodes.specs.rules.Opening.{line_opening, port_priority}
use Rattle.port_turns.specs.SwitchPuts.{transit_of}
use Rattle.seqsim.specs.Networks.{setting_of}
use Rattle.plan_ports.specs.Links.{LeavesBy}
use Rattle.plan_bounds.proofs.Counted.{AreSized}
use Rattle.frame_ages.specs.Sizes.{Sizes}
use Rattle.network_bounds.specs.declared.sizes.LinkSizes.{LinkSizes}
use Rattle.plan_ports.specs.Outlets.{IsLineWay, line_process}
use Rattle.plan_ports.proofs.Linked.{have-transits}
use Rattle.plan_ports.proofs.OwnPorts.{own-ports}
use Rattle.plan_ports.proofs.Ways.{line-way}
use Rattle.network_bounds.specs.declared.delays.PortBound.{PortBound}
use Rattle.network_bounds.specs.declared.delays.Weights.{Weights}
use Rattle.network_bounds.specs.declared.reason.Reason.{Reason}
use Rattle.network_bounds.specs.declared.reason.Reason.TheVariants as reason
use Rattle.network_bounds.specs.Ages.{age_after, age_over, latency_of, plus, sent_over}
use Rattle.network_bounds.specs.Curves.{is_first, is_high}
use Rattle.network_bounds.specs.Least.{least_after, least_at, sent_at_once}
use Rattle.least_ages.specs.Ages.{way_least}
use Rattle.vlink.specs.Wire.{last_bit_after}
use Rattle.network_bounds.specs.Delays.{AreBounds, IsBound, after, bound_by, delay_of, later_delay}
use Rattle.network_bounds.specs.Mixing.{line_into, port_before}
use Rattle.network_bounds.specs.Numbers.{capped}
use Rattle.network_bounds.specs.Passing.{input_of}
use Rattle.frame_ages.specs.Ways.{Hop, IsHop, IsInTime, IsRoute, source_of, way_time}
use Rattle.plan_bounds.proofs.InTime.{err-ok, high-bound, same-ok}
use Rattle.plan_bounds.proofs.Lines.{line-into-there}
use Rattle.plan_bounds.proofs.LowTimes.{low-bound}
use Rattle.plan_bounds.proofs.NodeKinds.{IsEndAt, IsSwitchAt, node-kind}
use Rattle.plan_bounds.proofs.Over.{IsOver, IsOverIn, comes-over, over-leaves}
use Rattle.plan_bounds.proofs.Passed.{input-is}
use Rattle.plan_bounds.proofs.Sources.{leaves-source}

-- a bound is that of its port
pub bound-at : (known : ℕ → LinkSizes) (plan : Plan) (lines : List LinePlan) (bounds : List PortBound) → AreBounds known plan lines bounds → (k : ℕ) (line : LinePlan) (bound : PortBound) → slice_get lines k ≡ Some line → slice_get bounds k ≡ Some bound → IsBound (port_before known plan line) bound
bound-at known plan [] bounds are k line bound at by = absurd (none-some line at)
bound-at known plan (first ∷ lines) [] are k line bound at by = absurd are
bound-at known plan (first ∷ lines) (one ∷ bounds) are zero line bound at by =
    subst (λ (l : LinePlan). IsBound (port_before known plan l) bound) (same_Some first line at) (subst (IsBound (port_before known plan first)) (same_Some one bound by) are.0)
bound-at known plan (first ∷ lines) (one ∷ bounds) are (suc k) line bound at by = bound-at known plan lines bounds are.1 k line bound at by

-- ---- what an age is made of

record IsSent (is_end : Bool) (line : LinePlan) (bound : PortBound) (link : VirtualLink) (least : ℕ) (before : Result ℕ Reason) (age : ℕ) : Type 0 where
  came : ℕ
  came_is : before ≡ Ok came
  delay : ℕ
  delay_is : delay_of is_end line.byte_ns bound link least ≡ Ok delay
  is : age ≡ capped (capped (came + delay) + line.propagation_ns)

sent-over : (is_end : Bool) (line : LinePlan) (bound : PortBound) (link : VirtualLink) (least : ℕ) (before : Result ℕ Reason) (age : ℕ) → sent_over is_end line bound link least before ≡ Ok age → IsSent is_end line bound link least before age
sent-over is_end line bound link least (Err why) age e = absurd (err-ok why age e)
sent-over is_end line bound link least (Ok came) age e = go (delay_of is_end line.byte_ns bound link least) refl e
  where
    go : (o : Result ℕ Reason) → delay_of is_end line.byte_ns bound link least ≡ o → after o (λ delay. Ok (capped (capped (came + delay) + line.propagation_ns))) ≡ Ok age → IsSent is_end line bound link least (Ok came) age
    go (Err why) is e = absurd (err-ok why age e)
    go (Ok delay) is e = record { came = came; came_is = refl; delay = delay; delay_is = is; is = sym (same-ok (capped (capped (came + delay) + line.propagation_ns)) age e) }

sum-is : (age came delay propagation : ℕ) → age ≡ capped (capped (came + delay) + propagation) → age < 2 ^ 128 - 1 → (age ≡ (came + delay) + propagation) × (delay < 2 ^ 128 - 1) × (came < 2 ^ 128 - 1)
sum-is age came delay propagation is lt = (omega (arith, is, lt), omega (arith, is, lt), omega (arith, is, lt))

plus-is : (came age latency : ℕ) → came ≡ capped (age + latency) → came < 2 ^ 128 - 1 → (came ≡ age + latency) × (age < 2 ^ 128 - 1)
plus-is came age latency is lt = (omega (arith, is, lt), omega (arith, is, lt))

-- what is put to a port with a priority
abbrev put_with : Bool → Priority
put_with true = High
put_with false = Low

same-put : (priority : row.Priority) → put_with (is_high priority) ≡ port_priority priority
same-put rows.High = refl
same-put rows.Low = refl

-- virtual link vl comes out of the line over a way that takes so long at most, and so long at least
pub record IsComing (size : ℕ → Sizes) (plan : Plan) (vl : VlPlan) (source : ℕ) (line : LinePlan) (age soonest : ℕ) : Type 0 where
  pub hop : Hop
  pub earlier : List Hop
  pub route : IsRoute (setting_of plan) size vl.link.id.0 (hop ∷ earlier)
  pub from_source : source_of (hop ∷ earlier) ≡ source
  pub to_there : hop.to ≡ line.to
  pub to_port : hop.port ≡ line.to_port
  pub within : way_time (hop ∷ earlier) ≡ age
  pub no_sooner : soonest ≤ way_least (size vl.link.id.0).least (hop ∷ earlier)
  pub source_port : ℕ
  pub leaves : LeavesBy plan source source_port vl
  pub end_system : IsEndAt plan source

module _ (known : ℕ → LinkSizes) (size : ℕ → Sizes) (plan : Plan) (accepted : IsAccepted plan) (bounds : List PortBound) (are : AreBounds known plan (lines_of plan) bounds) (vl : VlPlan) (is_vl : Contains plan.vls vl) (source : ℕ) (from_source : begins_at vl ≡ Some source)
    (all : (p q : ℕ) → LeavesBy plan p q vl → AreSized plan known size p) (least : ℕ) (least_is : (size vl.link.id.0).least ≡ least) where
  in-time : (k : ℕ) (line : LinePlan) → slice_get (lines_of plan) k ≡ Some line → (bound : PortBound) → slice_get bounds k ≡ Some bound → (way : IsLineWay plan k line) → AreSized plan known size line.from → (delay : ℕ) → delay < 2 ^ 128 - 1
      → (is_end : Bool) → delay_of is_end line.byte_ns bound vl.link least ≡ Ok delay → IsInTime (setting_of plan) size vl.link.id.0 line.from line.from_port way.outlet (put_with (is_first is_end vl.link)) delay
  in-time k line read bound at way here delay lt is_end e = let (w, is) = bound-at known plan (lines_of plan) bounds are k line bound read at in go w is (is_first is_end vl.link) e
    where
      go : (w : Weights) → bound ≡ bound_by (port_before known plan line) w → (first : Bool) → cond first bound.first (after bound.later (later_delay line.byte_ns least)) ≡ Ok delay
          → IsInTime (setting_of plan) size vl.link.id.0 line.from line.from_port way.outlet (put_with first) delay
      go w is true e = high-bound known size plan accepted k line read here w vl.link.id.0 way.outlet way.byte_ns delay (ap (λ (b : PortBound). b.first) (sym is) ∙ e)
      go w is false e = low-bound known size plan accepted k line read here w vl.link.id.0 least least_is way.outlet way.byte_ns delay lt (ap (λ (b : PortBound). after b.later (later_delay line.byte_ns least)) (sym is) ∙ e)

  hop-of : (k : ℕ) (line : LinePlan) → IsLineWay plan k line → ℕ → Bool → ℕ → Hop
  hop-of k line way before is_end delay = record {
    from = line.from;
    from_port = line.from_port;
    by = line_process plan k;
    to = line.to;
    port = line.to_port;
    outlet = way.outlet;
    line = line_opening plan k (Some line);
    before = before;
    priority = put_with (is_first is_end vl.link);
    delay = delay;
  }

  is-hop : (k : ℕ) (line : LinePlan) (way : IsLineWay plan k line) (before : ℕ) (is_end : Bool) (delay : ℕ)
      → IsInTime (setting_of plan) size vl.link.id.0 line.from line.from_port way.outlet (put_with (is_first is_end vl.link)) delay
      → IsHop (setting_of plan) size vl.link.id.0 (hop-of k line way before is_end delay)
  unfolding hop-of
  is-hop k line way before is_end delay timely = record { from_inside = way.from_below; by_inside = way.line_below; to_inside = way.to_below; way = way.way; in_time = timely }

  -- the least frame takes as long on the line as the tables say
  bits-at : (k : ℕ) (line : LinePlan) (way : IsLineWay plan k line) → last_bit_after (size vl.link.id.0).least way.outlet.ahead.byte_ns ≡ last_bit_after least line.byte_ns
  bits-at k line way = λ i. last_bit_after (least_is i) (way.byte_ns i)

  -- from the source
  from-end : (k : ℕ) (line : LinePlan) → slice_get (lines_of plan) k ≡ Some line → IsOver plan vl k → (bound : PortBound) → slice_get bounds k ≡ Some bound → (node : IsEndAt plan line.from) → (age : ℕ) → age < 2 ^ 128 - 1
      → sent_over true line bound vl.link least (Ok 0) ≡ Ok age → IsComing size plan vl source line age (sent_at_once line least 0)
  unfolding hop-of
  from-end k line read over bound at node age lt e =
      let sent = sent-over true line bound vl.link least (Ok 0) age e in
      let none : sent.came ≡ 0 = sym (same-ok 0 sent.came sent.came_is) in
      let sum = sum-is age sent.came sent.delay line.propagation_ns sent.is lt in
      let way = line-way plan accepted (own-ports plan accepted) k line read in
      let leaves = over-leaves plan vl (has-from_contains plan.vls vl is_vl) k line read over in
      let begins = leaves-source plan accepted vl is_vl line.from line.from_port leaves node.end in
      record {
        hop = hop-of k line way 0 true sent.delay;
        earlier = [];
        route = (
          is-hop k line way 0 true sent.delay (in-time k line read bound at way (all line.from line.from_port leaves) sent.delay sum.1 true sent.delay_is),
          record { end_system = node.state; is = node.is; at_once = refl; low = refl },
        );
        from_source = same_Some line.from source (sym begins ∙ from_source);
        to_there = refl;
        to_port = refl;
        within = (let total = sum.0 in omega (arith, total, none));
        no_sooner = (let bits = bits-at k line way in omega arith);
        source_port = line.from_port;
        leaves = subst (λ n. LeavesBy plan n line.from_port vl) (same_Some line.from source (sym begins ∙ from_source)) leaves;
        end_system = subst (IsEndAt plan) (same_Some line.from source (sym begins ∙ from_source)) node;
      }

  -- through a switch
  through-switch : (k : ℕ) (line : LinePlan) → slice_get (lines_of plan) k ≡ Some line → IsOver plan vl k → (bound : PortBound) → slice_get bounds k ≡ Some bound → (node : IsSwitchAt plan line.from) → (age : ℕ) → age < 2 ^ 128 - 1
      → (entry : IsOverIn plan vl line.from (first_port (ways_at plan line.from In vl))) → (came soonest : ℕ) → sent_over false line bound vl.link least (Ok (capped (came + latency_of plan line.from))) ≡ Ok age
      → (came < 2 ^ 128 - 1 → IsComing size plan vl source entry.leads.line came soonest) → IsComing size plan vl source line age (sent_at_once line least (capped (soonest + latency_of plan line.from)))
  unfolding hop-of
  through-switch k line read over bound at node age lt entry came soonest e coming =
      let sent = sent-over false line bound vl.link least (Ok (capped (came + latency_of plan line.from))) age e in
      let sum = sum-is age sent.came sent.delay line.propagation_ns sent.is lt in
      let added = plus-is sent.came came (latency_of plan line.from) (sym (same-ok (capped (came + latency_of plan line.from)) sent.came sent.came_is)) sum.2 in
      let way = line-way plan accepted (own-ports plan accepted) k line read in
      let leaves = over-leaves plan vl (has-from_contains plan.vls vl is_vl) k line read over in
      let first = coming added.1 in
      record {
        hop = hop-of k line way (latency_of plan line.from) false sent.delay;
        earlier = first.hop ∷ first.earlier;
        route = (
          is-hop k line way (latency_of plan line.from) false sent.delay (in-time k line read bound at way (all line.from line.from_port leaves) sent.delay sum.1 false sent.delay_is),
          record {
            switch = node.state;
            is = node.is;
            from_there = sym (first.to_there ∙ entry.leads.to);
            delay = sym node.latency;
            transit = opened.transit_of plan line.from vl;
            goes = ap (λ e. transit_of e vl.link.id.0) (sym node.is) ∙ have-transits plan accepted line.from line.from_port vl leaves node.state node.is;
            comes_in = sym (first.to_port ∙ entry.leads.to_port);
            priority = same-put vl.link.priority;
          },
          first.route,
        );
        from_source = first.from_source;
        to_there = refl;
        to_port = refl;
        within = (let total = sum.0 in let more = added.0 in let before = first.within in omega (arith, total, more, before));
        no_sooner = (let bits = bits-at k line way in let before = first.no_sooner in omega (arith, before));
        source_port = first.source_port;
        leaves = first.leaves;
        end_system = first.end_system;
      }

  -- as it comes to a switch by the line to port j, and then through the switch
  abbrev came_by : ℕ → ℕ → ℕ → Result ℕ Reason
  came_by lines n j = option_map_or (λ k. plus (age_after plan bounds vl.link least lines k) (latency_of plan n)) (line_into plan n j) (Err reason.Way)

  -- the same of the least
  abbrev soonest_by : ℕ → ℕ → ℕ → ℕ
  soonest_by lines n j = option_map_or (λ k. capped (least_after plan vl.link least lines k + latency_of plan n)) (line_into plan n j) 0

  -- it comes over so many lines at most
  abbrev ComesOver : ℕ → Type 0
  ComesOver lines = (k : ℕ) (line : LinePlan) → slice_get (lines_of plan) k ≡ Some line → IsOver plan vl k → (age : ℕ) → age < 2 ^ 128 - 1 → age_after plan bounds vl.link least lines k ≡ Ok age
      → IsComing size plan vl source line age (least_after plan vl.link least lines k)

  pub coming : (lines : ℕ) → ComesOver lines
  coming zero k line read over age lt e = absurd (err-ok reason.Way age e)
  coming (suc lines) k line read over age lt e =
      let here : option_map_or (age_over plan vl.link least (age_after plan bounds vl.link least lines) line) (slice_get bounds k) (Err reason.Way) ≡ Ok age =
      ap (λ o. option_map_or (λ line. option_map_or (age_over plan vl.link least (age_after plan bounds vl.link least lines) line) (slice_get bounds k) (Err reason.Way)) o (Err reason.Way)) (sym read) ∙ e in
      subst (IsComing size plan vl source line age) (sym (ap (λ o. option_map_or (λ line. sent_at_once line least (least_at plan vl.link line.from (least_after plan vl.link least lines))) o 0) read))
      (go (slice_get bounds k) refl here (λ k line read over age lt e. coming lines k line read over age lt e))
    where
      at-switch : (bound : PortBound) → slice_get bounds k ≡ Some bound → (node : IsSwitchAt plan line.from) → (entry : IsOverIn plan vl line.from (first_port (ways_at plan line.from In vl))) → (o : Result ℕ Reason) → age_after plan bounds vl.link least lines entry.k ≡ o
          → sent_over false line bound vl.link least (plus o (latency_of plan line.from)) ≡ Ok age
          → ComesOver lines → IsComing size plan vl source line age (sent_at_once line least (capped (least_after plan vl.link least lines entry.k + latency_of plan line.from)))
      at-switch bound at node entry (Err why) is e before = absurd (err-ok why age e)
      at-switch bound at node entry (Ok came) is e before =
          through-switch k line read over bound at node age lt entry came (least_after plan vl.link least lines entry.k) e (λ small. before entry.k entry.leads.line entry.leads.read entry.over came small is)

      go : (o : Option PortBound) → slice_get bounds k ≡ o → option_map_or (age_over plan vl.link least (age_after plan bounds vl.link least lines) line) o (Err reason.Way) ≡ Ok age
          → ComesOver lines → IsComing size plan vl source line age (sent_at_once line least (least_at plan vl.link line.from (least_after plan vl.link least lines)))
      go None at e before = absurd (err-ok reason.Way age e)
      go (Some bound) at e before = elim (node-kind plan line.from (line-read plan k line accepted read).0) [
        | inl node ↦
            (let soon : cond (is_end_system plan.nodes line.from) 0 (soonest_by lines line.from (input_of plan line.from vl.link.id.0)) ≡ 0 = ap (λ b. cond b 0 (soonest_by lines line.from (input_of plan line.from vl.link.id.0))) node.end in
            subst (λ z. IsComing size plan vl source line age (sent_at_once line least z)) (sym soon)
            (from-end k line read over bound at node age lt
            (subst (λ b. sent_over b line bound vl.link least (cond b (Ok 0) (came_by lines line.from (input_of plan line.from vl.link.id.0))) ≡ Ok age) node.end e)))
        | inr node ↦
            (let entry = comes-over plan accepted line.from line.from_port vl (over-leaves plan vl (has-from_contains plan.vls vl is_vl) k line read over) node.no_end in
            let input = input-is plan accepted line.from vl (has-from_contains plan.vls vl is_vl) node.no_end in
            let into = line-into-there plan accepted line.from (first_port (ways_at plan line.from In vl)) entry.k entry.leads in
            let is : came_by lines line.from (input_of plan line.from vl.link.id.0) ≡ plus (age_after plan bounds vl.link least lines entry.k) (latency_of plan line.from) =
            ap (came_by lines line.from) input ∙ ap (λ o. option_map_or (λ k. plus (age_after plan bounds vl.link least lines k) (latency_of plan line.from)) o (Err reason.Way)) into in
            let soon : cond (is_end_system plan.nodes line.from) 0 (soonest_by lines line.from (input_of plan line.from vl.link.id.0)) ≡ capped (least_after plan vl.link least lines entry.k + latency_of plan line.from) =
            ap (λ b. cond b 0 (soonest_by lines line.from (input_of plan line.from vl.link.id.0))) node.no_end
            ∙ ap (soonest_by lines line.from) input ∙ ap (λ o. option_map_or (λ k. capped (least_after plan vl.link least lines k + latency_of plan line.from)) o 0) into in
            subst (λ z. IsComing size plan vl source line age (sent_at_once line least z)) (sym soon)
            (at-switch bound at node entry (age_after plan bounds vl.link least lines entry.k) refl
            (ap (sent_over false line bound vl.link least) (sym is) ∙ subst (λ b. sent_over b line bound vl.link least (cond b (Ok 0) (came_by lines line.from (input_of plan line.from vl.link.id.0))) ≡ Ok age) node.no_end e) before))
      ]
