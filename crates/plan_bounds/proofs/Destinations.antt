-- At a destination a virtual link comes by each port within the bound of the network, or it does not come there.
use Rattle.std.proofs.Common.{◌≡◌, ℕ, zero, suc, ◌-◌, ◌^◌, ◌<◌, ◌≤◌, ◌==◌, ◌&&◌, ◌||◌, ◌⊎◌, Bool, true, false, cond, max, nat_lt, List, length, Some, inl, inr, Result, Ok, Err, refl, ap, sym, ◌∙◌, subst, arith, slice_get, Contains, eqb-true, eq-eqb}
use Rattle.std.specs.Option.{option_map_or}
use Rattle.std.proofs.lemmas.Bool.{false≢true}
use Rattle.output_port.specs.declared.event.Priority.{Priority}
use Rattle.network.specs.declared.wiring.LinePlan.{LinePlan}
use Rattle.network.specs.declared.wiring.Way.{Way}
use Rattle.network.specs.Words.{IsAccepted, Plan, VlPlan, arrivals_of, comes_in, is_end_system, lines_of, source_of as begins_at}
use Rattle.network.proofs.BuildLemmas.{line-read}
use Rattle.network.proofs.EachLemmas.{list_any-contains}
use Rattle.network_faults.proofs.MemberLemmas.{Has, contains-from_has, flat_map-has, has-flat_map, has-from_contains}
use Rattle.nodes.specs.declared.opening.meeting.Side.TheVariants.{In}
use Rattle.nodes.specs.declared.ports.Outlet.{Outlet}
use Rattle.nodes.specs.rules.Meeting.{ways_at}
use Rattle.nodes.specs.rules.Opening.{line_opening, opening}
use Rattle.nodes.proofs.WayLemmas.{ways-own}
use Rattle.port_turns.specs.Arrivals.{IsWay}
use Rattle.port_turns.specs.PortEvents.{outlet_in}
use Rattle.seqsim.specs.Networks.{setting_of}
use Rattle.plan_ports.specs.Links.{LeavesBy}
use Rattle.plan_bounds.proofs.Counted.{AreSized}
use Rattle.frame_ages.specs.Sizes.{Sizes}
use Rattle.plan_ports.specs.Outlets.{line_process}
use Rattle.plan_ports.proofs.Linked.{has-passed, one-vl, own-all, own-way}
use Rattle.plan_ports.proofs.OwnPorts.{own-ports}
use Rattle.plan_ports.proofs.Ways.{all-lead, line-way, within-two}
use Rattle.network_bounds.specs.declared.delays.PortBound.{PortBound}
use Rattle.network_bounds.specs.declared.reason.Reason.{Reason}
use Rattle.network_bounds.specs.declared.reason.Reason.TheVariants as reason
use Rattle.network_bounds.specs.Ages.{age_after, age_by, age_to, ends_by}
use Rattle.network_bounds.specs.declared.sizes.LinkSizes.{LinkSizes}
use Rattle.network_bounds.specs.Delays.{AreBounds, after}
use Rattle.network_bounds.specs.Mixing.{line_into}
use Rattle.network_bounds.specs.Numbers.{within}
use Rattle.frame_ages.specs.Ports.{IsThrough}
use Rattle.frame_ages.specs.Ways.{ComesNot}
use Rattle.least_ages.specs.Deliveries.{ComesBetween, ComesInTime}
use Rattle.network_bounds.specs.Least.{least_after, least_by, least_to}
use Rattle.plan_bounds.proofs.Groups.{counted}
use Rattle.plan_bounds.proofs.InTime.{err-ok, lt-true, same-ok}
use Rattle.plan_bounds.proofs.Lines.{HasLine, line-back, line-into-there}
use Rattle.plan_bounds.proofs.Over.{IsOver, IsOverIn, in-over, out-over, over-in}
use Rattle.plan_bounds.proofs.Routes.{IsComing, coming}

both : (a b : Bool) → (a && b) ≡ true → (a ≡ true) × (b ≡ true)
both true b h = (refl, h)
both false b h = absurd (false≢true h)

module _ (plan : Plan) (accepted : IsAccepted plan) (vl : VlPlan) (is_vl : Contains plan.vls vl) where
  -- it comes in where it ends by a port, and it ends by the port behind each line that it goes over
  pub ends-over : (n q : ℕ) → ends_by plan n vl.link.id.0 q ≡ true → IsOverIn plan vl n q
  ends-over n q h =
      let (way, there, passes) = has-passed (λ (way : Way). (way.vl.0 == vl.link.id.0) && (way.port == q)) (arrivals_of plan n) h in
      let ends = both (way.vl.0 == vl.link.id.0) (way.port == q) passes in
      let (other, is_other, comes) = flat_map-has (comes_in n (lines_of plan) plan.links) plan.vls way there in
      let id : other.link.id.0 ≡ vl.link.id.0 = sym (own-all other.link.id.0 (ways_at plan n In other) way (ways-own plan n In other) comes) ∙ eqb-true way.vl.0 vl.link.id.0 ends.0 in
      let same = one-vl plan accepted vl other (has-from_contains plan.vls vl is_vl) is_other id in
      subst (IsOverIn plan vl n) (eqb-true way.port q ends.1) (in-over plan vl n way (subst (λ (v : VlPlan). Has (ways_at plan n In v) way) same comes))

  over-ends : (k : ℕ) (line : LinePlan) → slice_get (lines_of plan) k ≡ Some line → IsOver plan vl k → ends_by plan line.to vl.link.id.0 line.to_port ≡ true
  over-ends k line read over =
      let way : Way = record { vl = vl.link.id; port = line.to_port } in
      let there = has-flat_map (comes_in line.to (lines_of plan) plan.links) plan.vls vl way (has-from_contains plan.vls vl is_vl) (over-in plan vl k line read over) in
      let id : (vl.link.id.0 == vl.link.id.0) ≡ true = eq-eqb _ _ refl in
      let port : (line.to_port == line.to_port) ≡ true = eq-eqb _ _ refl in
      list_any-contains (λ (way : Way). (way.vl.0 == vl.link.id.0) && (way.port == line.to_port)) (arrivals_of plan line.to) way (contains-from_has (arrivals_of plan line.to) way there) (rw (id, port) refl)

  -- where it does not end by a port, the node before the line there does not send it
  pub comes-not : (n q : ℕ) (outlet : Outlet) → outlet_in (opening plan n).equipment q ≡ Some outlet → ends_by plan n vl.link.id.0 q ≡ false → ComesNot (setting_of plan) vl.link.id.0 n q
  comes-not n q outlet there not_here =
      let leads = all-lead plan n q outlet there in
      at (subst (λ j. HasLine plan n j) leads.from_port (subst (λ m. HasLine plan m leads.line.from_port) leads.from (line-back plan leads.k leads.line leads.read)))
    where
      at : HasLine plan n q → ComesNot (setting_of plan) vl.link.id.0 n q
      at h =
          let way = line-way plan accepted (own-ports plan accepted) h.k h.leads.line h.leads.read in
          let here : IsWay (setting_of plan) h.leads.line.from h.leads.line.from_port (line_process plan h.k) n q way.outlet (line_opening plan h.k (Some h.leads.line)) =
          subst (λ j. IsWay (setting_of plan) h.leads.line.from h.leads.line.from_port (line_process plan h.k) n j way.outlet (line_opening plan h.k (Some h.leads.line))) h.leads.to_port
          (subst (λ m. IsWay (setting_of plan) h.leads.line.from h.leads.line.from_port (line_process plan h.k) m h.leads.line.to_port way.outlet (line_opening plan h.k (Some h.leads.line))) h.leads.to way.way) in
          record {
            from = h.leads.line.from;
            from_port = h.leads.line.from_port;
            by = line_process plan h.k;
            outlet = way.outlet;
            line = line_opening plan h.k (Some h.leads.line);
            from_inside = way.from_below;
            by_inside = way.line_below;
            way = here;
            barred = λ input priority through. barred h input priority through;
          }
        where
          barred : (h : HasLine plan n q) (input : ℕ) (priority : Priority) → IsThrough (opening plan h.leads.line.from).equipment h.leads.line.from_port vl.link.id.0 input priority → ⊥
          barred h input priority through =
              let c = counted plan accepted h.leads.line.from h.leads.line.from_port vl.link.id.0 input priority (line-read plan h.k h.leads.line accepted h.leads.read).0 through in
              let same = one-vl plan accepted vl c.vl (has-from_contains plan.vls vl is_vl) (has-from_contains plan.vls c.vl c.leaves.is_vl) c.id in
              let leaves = subst (λ (v : VlPlan). LeavesBy plan h.leads.line.from h.leads.line.from_port v) same c.leaves in
              let out = out-over plan vl h.leads.line.from _ (own-way plan accepted h.leads.line.from h.leads.line.from_port vl leaves) in
              let one : out.k ≡ h.k = (own-ports plan accepted).out out.k h.k out.line h.leads.line out.read h.leads.read out.from out.from_port in
              let ends = over-ends h.k h.leads.line h.leads.read (subst (IsOver plan vl) one out.over) in
              false≢true (sym not_here ∙ ap (λ m. ends_by plan m vl.link.id.0 q) (sym h.leads.to) ∙ ap (ends_by plan h.leads.line.to vl.link.id.0) (sym h.leads.to_port) ∙ ends)

  -- ---- at a destination

  module _ (known : ℕ → LinkSizes) (size : ℕ → Sizes) (all : (p q : ℕ) → LeavesBy plan p q vl → AreSized plan known size p) (least : ℕ) (least_is : (size vl.link.id.0).least ≡ least) (bounds : List PortBound) (are : AreBounds known plan (lines_of plan) bounds)
      (source : ℕ) (from_source : begins_at vl ≡ Some source) where
    comes-by : (n q : ℕ) → ends_by plan n vl.link.id.0 q ≡ true → (age : ℕ) → age < 2 ^ 128 - 1 → age_by plan bounds vl.link least n q ≡ Ok age
        → (entry : IsOverIn plan vl n q) × IsComing size plan vl source entry.leads.line age (least_by plan vl.link least n q)
    comes-by n q h age lt e =
        let entry = ends-over n q h in
        let into = line-into-there plan accepted n q entry.k entry.leads in
        let here : option_map_or (age_after plan bounds vl.link least (length (lines_of plan))) (line_into plan n q) (Err reason.Way) ≡ Ok age =
        subst (λ b. cond b (option_map_or (age_after plan bounds vl.link least (length (lines_of plan))) (line_into plan n q) (Err reason.Way)) (Ok 0) ≡ Ok age) h e in
        let out : age_after plan bounds vl.link least (length (lines_of plan)) entry.k ≡ Ok age = ap (λ o. option_map_or (age_after plan bounds vl.link least (length (lines_of plan))) o (Err reason.Way)) (sym into) ∙ here in
        let soonest : least_by plan vl.link least n q ≡ least_after plan vl.link least (length (lines_of plan)) entry.k =
        ap (λ b. cond b (option_map_or (least_after plan vl.link least (length (lines_of plan))) (line_into plan n q) 0) (2 ^ 128 - 1)) h ∙ ap (λ o. option_map_or (least_after plan vl.link least (length (lines_of plan))) o 0) into in (
          entry,
          subst (IsComing size plan vl source entry.leads.line age) (sym soonest)
              (coming known size plan accepted bounds are vl is_vl source from_source all least least_is (length (lines_of plan)) entry.k entry.leads.line entry.leads.read entry.over age lt out),
        )

    -- over a way that is no longer than this, and no shorter
    as-way : (n q age most soonest : ℕ) (entry : IsOverIn plan vl n q) → IsComing size plan vl source entry.leads.line age soonest → age ≤ most → least_to plan vl.link least n ≤ soonest
        → ComesBetween (setting_of plan) size vl.link.id.0 source n q most (least_to plan vl.link least n)
    as-way n q age most soonest entry c le ge = record {
      hop = c.hop;
      earlier = c.earlier;
      route = c.route;
      from_source = c.from_source;
      to_there = c.to_there ∙ entry.leads.to;
      to_port = c.to_port ∙ entry.leads.to_port;
      no_later = (let time = c.within in omega (arith, time, le));
      no_sooner = (let soon = c.no_sooner in omega (arith, soon, ge));
    }

    by-port : (n q age most : ℕ) → age < 2 ^ 128 - 1 → age ≤ most → least_to plan vl.link least n ≤ least_by plan vl.link least n q → age_by plan bounds vl.link least n q ≡ Ok age
        → (outlet : Outlet) → outlet_in (opening plan n).equipment q ≡ Some outlet → ComesBetween (setting_of plan) size vl.link.id.0 source n q most (least_to plan vl.link least n) ⊎ ComesNot (setting_of plan) vl.link.id.0 n q
    by-port n q age most lt le ge e outlet there = go (ends_by plan n vl.link.id.0 q) refl
      where
        go : (b : Bool) → ends_by plan n vl.link.id.0 q ≡ b → ComesBetween (setting_of plan) size vl.link.id.0 source n q most (least_to plan vl.link least n) ⊎ ComesNot (setting_of plan) vl.link.id.0 n q
        go true h = let (entry, c) = comes-by n q h age lt e in inl (as-way n q age most (least_by plan vl.link least n q) entry c le ge)
        go false h = inr (comes-not n q outlet there h)

    -- the ages by both ports
    pub record IsArriving (n most : ℕ) : Type 0 where
      pub a : ℕ
      pub b : ℕ
      pub a_is : age_by plan bounds vl.link least n 0 ≡ Ok a
      pub b_is : age_by plan bounds vl.link least n 1 ≡ Ok b
      pub some : (ends_by plan n vl.link.id.0 0 || ends_by plan n vl.link.id.0 1) ≡ true
      pub held : max a b < 2 ^ 128 - 1
      pub is : most ≡ max a b

    pub arriving : (n most : ℕ) → age_to plan bounds vl.link least n ≡ Ok most → IsArriving n most
    arriving n most e = go (ends_by plan n vl.link.id.0 0 || ends_by plan n vl.link.id.0 1) refl e
      where
        last : (some : (ends_by plan n vl.link.id.0 0 || ends_by plan n vl.link.id.0 1) ≡ true) (a b : ℕ) → age_by plan bounds vl.link least n 0 ≡ Ok a → age_by plan bounds vl.link least n 1 ≡ Ok b → (held : Bool) → nat_lt (max a b) (2 ^ 128 - 1) ≡ held
            → cond held (Ok (max a b)) (Err reason.Number) ≡ Ok most → IsArriving n most
        last some a b a_is b_is true h e = record { a = a; b = b; a_is = a_is; b_is = b_is; some = some; held = lt-true _ _ h; is = sym (same-ok (max a b) most e) }
        last some a b a_is b_is false h e = absurd (err-ok reason.Number most e)

        by-b : (some : (ends_by plan n vl.link.id.0 0 || ends_by plan n vl.link.id.0 1) ≡ true) (a : ℕ) → age_by plan bounds vl.link least n 0 ≡ Ok a → (o : Result ℕ Reason) → age_by plan bounds vl.link least n 1 ≡ o → after o (λ b. within (max a b)) ≡ Ok most → IsArriving n most
        by-b some a a_is (Err why) b_is e = absurd (err-ok why most e)
        by-b some a a_is (Ok b) b_is e = last some a b a_is b_is (nat_lt (max a b) (2 ^ 128 - 1)) refl e

        by-a : (some : (ends_by plan n vl.link.id.0 0 || ends_by plan n vl.link.id.0 1) ≡ true) (o : Result ℕ Reason) → age_by plan bounds vl.link least n 0 ≡ o → after o (λ a. after (age_by plan bounds vl.link least n 1) (λ b. within (max a b))) ≡ Ok most → IsArriving n most
        by-a some (Err why) a_is e = absurd (err-ok why most e)
        by-a some (Ok a) a_is e = by-b some a a_is (age_by plan bounds vl.link least n 1) refl e

        go : (some : Bool) → (ends_by plan n vl.link.id.0 0 || ends_by plan n vl.link.id.0 1) ≡ some
            → cond some (after (age_by plan bounds vl.link least n 0) (λ a. after (age_by plan bounds vl.link least n 1) (λ b. within (max a b)))) (Err reason.Way) ≡ Ok most → IsArriving n most
        go false some e = absurd (err-ok reason.Way most e)
        go true some e = by-a some (age_by plan bounds vl.link least n 0) refl e

    pub comes-in-time : (n most : ℕ) → is_end_system plan.nodes n ≡ true → IsArriving n most → ComesInTime (setting_of plan) size vl.link.id.0 source n most (least_to plan vl.link least n)
    comes-in-time n most end h port outlet there = at port outlet there (two port outlet there)
      where
        two : (q : ℕ) (outlet : Outlet) → outlet_in (opening plan n).equipment q ≡ Some outlet → q < 2
        two q outlet there =
            let leads = all-lead plan n q outlet there in
            subst (λ j. j < 2) leads.from_port (within-two plan accepted (own-ports plan accepted) leads.k leads.line leads.read (subst (λ m. is_end_system plan.nodes m ≡ true) (sym leads.from) end))

        at : (q : ℕ) (outlet : Outlet) → outlet_in (opening plan n).equipment q ≡ Some outlet → q < 2
            → ComesBetween (setting_of plan) size vl.link.id.0 source n q most (least_to plan vl.link least n) ⊎ ComesNot (setting_of plan) vl.link.id.0 n q
        at zero outlet there lt = by-port n 0 h.a most (let held = h.held in omega (arith, held)) (let is = h.is in omega (arith, is)) (omega arith) h.a_is outlet there
        at (suc zero) outlet there lt = by-port n 1 h.b most (let held = h.held in omega (arith, held)) (let is = h.is in omega (arith, is)) (omega arith) h.b_is outlet there
        at (suc (suc q)) outlet there lt = absurd (omega (arith, lt))

    -- one of them leaves the source
    pub sent : (n most : ℕ) → IsArriving n most → (line : LinePlan) × (age : ℕ) × (soonest : ℕ) × IsComing size plan vl source line age soonest
    sent n most h = go (ends_by plan n vl.link.id.0 0) refl h.some
      where
        go : (b : Bool) → ends_by plan n vl.link.id.0 0 ≡ b → (b || ends_by plan n vl.link.id.0 1) ≡ true → (line : LinePlan) × (age : ℕ) × (soonest : ℕ) × IsComing size plan vl source line age soonest
        go true e some = let (entry, c) = comes-by n 0 e h.a (let held = h.held in omega (arith, held)) h.a_is in (entry.leads.line, h.a, least_by plan vl.link least n 0, c)
        go false e some = let (entry, c) = comes-by n 1 some h.b (let held = h.held in omega (arith, held)) h.b_is in (entry.leads.line, h.b, least_by plan vl.link least n 1, c)
