-- What can be put to a port, by lines and virtual links, is what the bounds of the network count there.
use Rattle.std.proofs.Common.{◌≡◌, ℕ, ◌+◌, ◌-◌, ◌*◌, ◌/◌, ◌<◌, ◌≤◌, ◌&&◌, ◌⊎◌, Bool, true, false, cond, max, nat_lt, List, [], ◌∷◌, length, inl, inr, refl, ap, sym, ◌∙◌, subst, arith}
use Rattle.std.proofs.Math.Nat.{lt-mul-div-succ}
use Rattle.std.proofs.lemmas.Bool.{false≢true}
use Rattle.vlink.specs.Wire.{busy_for}
use Rattle.row_types.specs.declared.rows.Policing.{Policing}
use Rattle.row_types.specs.declared.rows.Policing.TheVariants as policing
use Rattle.row_types.specs.declared.rows.Priority as row
use Rattle.row_types.specs.declared.rows.Priority.TheVariants as rows
use Rattle.output_port.specs.declared.event.Priority.{Priority}
use Rattle.output_port.specs.declared.event.Priority.TheVariants.{High, Low}
use Rattle.network.specs.Words.{IsAccepted, Plan, VlPlan, is_end_system}
use Rattle.network_faults.proofs.MemberLemmas.{Has, has-from_contains}
use Rattle.nodes.specs.declared.transit.Transit.{Transit}
use Rattle.nodes.specs.rules.Opening as opened
use Rattle.nodes.specs.rules.Opening.{opening, port_priority, regulator_of}
use Rattle.port_turns.specs.SwitchPuts.{transit_of}
use Rattle.plan_ports.specs.Links.{LeavesBy}
use Rattle.frame_ages.specs.Sizes.{Sizes}
use Rattle.plan_bounds.proofs.Counted.{AreSized, IsSized}
use Rattle.plan_ports.proofs.Linked.{are-bags, are-positive, are-sources, are-transits, have-sources, have-transits}
use Rattle.network_bounds.specs.declared.passing.Passing.{Passing}
use Rattle.network_bounds.specs.Curves.{bag_of, cost_of, counts_bytes, flow_of, gap_of, is_first, is_high, is_metered, metered_cost, parts_of, slack_of}
use Rattle.policer.specs.declared.account.Measure.TheVariants as measure
use Rattle.nodes.specs.rules.Node.{regulator_in}
use Rattle.std.proofs.lemmas.Bool.Decides.{nat_tests}
use Rattle.network_bounds.specs.Mixing.{flows_by, greatest_by}
use Rattle.network_bounds.specs.Numbers.{SCALE}
use Rattle.network_bounds.specs.Passing.{input_of, passings}
use Rattle.port_bounds.specs.Mixtures.{Flow, IsAmong, links_of}
use Rattle.port_bounds.specs.Sublists.{Every}
use Rattle.frame_ages.specs.Ports.IsCurve.{ByBag, ByGap}
use Rattle.frame_ages.specs.Ports.{AreApartBy, CostsAtMost, HasAtMost, IsCurve, IsFlow, IsMeteredFlow, IsSentBy, IsThrough, IsThroughSwitch}
use Rattle.plan_bounds.proofs.NodeKinds.{IsEndAt, IsSwitchAt, node-kind}
use Rattle.plan_bounds.proofs.Passed.{input-is, passed, passed-leaves}
use Rattle.network_bounds.specs.declared.sizes.LinkSizes.{LinkSizes}

abbrev pub is_high_put : Priority → Bool
is_high_put High = true
is_high_put Low = false

same-priority : (priority : row.Priority) → is_high priority ≡ is_high_put (port_priority priority)
same-priority rows.High = refl
same-priority rows.Low = refl

-- what can be put to port q of node p is counted among what passes there
pub record IsCounted (plan : Plan) (p q v input : ℕ) (priority : Priority) : Type 0 where
  pub vl : VlPlan
  pub leaves : LeavesBy plan p q vl
  pub id : vl.link.id.0 ≡ v
  pub comes_in : input ≡ input_of plan p vl.link.id.0
  pub first : is_first (is_end_system plan.nodes p) vl.link ≡ is_high_put priority

module _ (plan : Plan) (accepted : IsAccepted plan) where
  sent-counted : (p q v input : ℕ) (priority : Priority) (node : IsEndAt plan p) → IsSentBy node.state q v input priority → IsCounted plan p q v input priority
  sent-counted p q v input priority node sent =
      let source = are-sources plan accepted p v node.state node.is sent.found sent.is in
      let leaves : LeavesBy plan p q source.vl = elim sent.on [
        | inl a ↦ subst (λ n. LeavesBy plan p n source.vl) (sym a.0) (source.on_a a.1)
        | inr b ↦ subst (λ n. LeavesBy plan p n source.vl) (sym b.0) (source.on_b b.1)
      ] in
      record {
        vl = source.vl;
        leaves = leaves;
        id = source.id;
        comes_in = sent.line_is ∙ rw node.end refl;
        first = rw (node.end, sent.low) refl;
      }

  through-counted : (p q v input : ℕ) (priority : Priority) (node : IsSwitchAt plan p) → IsThroughSwitch node.state q v input priority → IsCounted plan p q v input priority
  through-counted p q v input priority node through =
      let transit = are-transits plan accepted p v through.transit (ap (λ e. transit_of e v) node.is ∙ through.is) in
      record {
        vl = transit.vl;
        leaves = transit.leaves q through.out;
        id = transit.id;
        comes_in = through.line_is ∙ ap (λ (t : Transit). t.input) transit.is ∙ sym (input-is plan accepted p transit.vl (has-from_contains plan.vls transit.vl transit.is_vl) node.no_end);
        first = rw node.no_end (same-priority transit.vl.link.priority ∙ ap is_high_put (sym (through.priority_is ∙ ap (λ (t : Transit). t.priority) transit.is)));
      }

  pub counted : (p q v input : ℕ) (priority : Priority) → p < length plan.nodes → IsThrough (opening plan p).equipment q v input priority → IsCounted plan p q v input priority
  counted p q v input priority lt through = elim (node-kind plan p lt) [
    | inl node ↦ sent-counted p q v input priority node (subst (λ e. IsThrough e q v input priority) node.is through)
    | inr node ↦ through-counted p q v input priority node (subst (λ e. IsThrough e q v input priority) node.is through)
  ]

  -- ---- the curve of a virtual link

  module _ (known : ℕ → LinkSizes) (size : ℕ → Sizes) (p : ℕ) (lt : p < length plan.nodes) where
    abbrev is_end : Bool
    is_end = is_end_system plan.nodes p

    counts : (passing : Passing) (least : ℕ) → passing.sizes.least ≤ least → is_metered false passing ≡ false → (opened.measure_of passing.link.policing ≡ measure.Frames) ⊎ (passing.link.smax ≤ least)
    counts passing least shorter tight = go passing.link.policing refl tight
      where
        go : (p : Policing) → passing.link.policing ≡ p → (counts_bytes p && nat_lt passing.sizes.least passing.link.smax) ≡ false → (opened.measure_of p ≡ measure.Frames) ⊎ (passing.link.smax ≤ least)
        go policing.Frames e h = inl refl
        go policing.Bytes e h = inr (let short = shorter in grind (arith, nat_tests))

    apart : (q : ℕ) (vl : VlPlan) → LeavesBy plan p q vl → IsSized plan size p vl (passed known plan p vl).sizes → is_metered is_end (passed known plan p vl) ≡ false
        → AreApartBy (opening plan p).equipment vl.link.id.0 (size vl.link.id.0).least (bag_of vl.link) (slack_of is_end vl.link)
    apart q vl leaves sized tight = elim (node-kind plan p lt) [
      | inl node ↦ subst (λ e. AreApartBy e vl.link.id.0 (size vl.link.id.0).least (bag_of vl.link) (slack_of is_end vl.link)) (sym node.is)
          (regulator_of vl.link, ap (λ e. regulator_in e vl.link.id) (sym node.is) ∙ have-sources plan accepted p q vl leaves node.state node.is, refl, rw node.end refl)
      | inr node ↦ subst (λ e. AreApartBy e vl.link.id.0 (size vl.link.id.0).least (bag_of vl.link) (slack_of is_end vl.link)) (sym node.is) (
        opened.transit_of plan p vl,
        ap (λ e. transit_of e vl.link.id.0) (sym node.is) ∙ have-transits plan accepted p q vl leaves node.state node.is,
        record {
          positive = (are-positive plan accepted vl leaves.is_vl).0;
          counts = counts (passed known plan p vl) (size vl.link.id.0).least (sized.shorter node.no_end) (ap (λ b. is_metered b (passed known plan p vl)) (sym node.no_end) ∙ tight);
        },
        refl,
        rw node.no_end refl,
      )
    ]

    -- what it gives, by bytes or by frames
    abbrev flow_as : Bool → Bool → ℕ → Passing → Bool → Flow
    flow_as end by_gap byte_ns passing metered = record {
      link = passing.link.id.0;
      burst = cond (cond metered false (by_gap && nat_lt 0 (gap_of end passing.link))) (SCALE * cost_of byte_ns passing) ((parts_of passing.link * cond metered (metered_cost byte_ns passing) (cost_of byte_ns passing)) * (bag_of passing.link + slack_of end passing.link));
      rate = cond (cond metered false (by_gap && nat_lt 0 (gap_of end passing.link))) (SCALE * cost_of byte_ns passing / gap_of end passing.link + 1) (parts_of passing.link * cond metered (metered_cost byte_ns passing) (cost_of byte_ns passing));
    }

    curve-is : (end by_gap : Bool) (byte_ns : ℕ) (passing : Passing)
        → IsCurve (parts_of passing.link) (bag_of passing.link) (slack_of end passing.link) SCALE (cost_of byte_ns passing) (flow_as end by_gap byte_ns passing false)
    curve-is end by_gap byte_ns passing = go (by_gap && nat_lt 0 (gap_of end passing.link)) refl
      where
        gap : by_gap && nat_lt 0 (gap_of end passing.link) ≡ true → 0 < gap_of end passing.link
        gap h = grind (arith, nat_tests)

        go : (b : Bool) → by_gap && nat_lt 0 (gap_of end passing.link) ≡ b → IsCurve (parts_of passing.link) (bag_of passing.link) (slack_of end passing.link) SCALE (cost_of byte_ns passing) (record {
          link = passing.link.id.0;
          burst = cond b (SCALE * cost_of byte_ns passing) ((parts_of passing.link * cost_of byte_ns passing) * (bag_of passing.link + slack_of end passing.link));
          rate = cond b (SCALE * cost_of byte_ns passing / gap_of end passing.link + 1) (parts_of passing.link * cost_of byte_ns passing);
        })
        go true h = ByGap refl (let lt = lt-mul-div-succ (SCALE * cost_of byte_ns passing) {b = gap_of end passing.link} (gap h) in omega (arith, lt))
        go false h = ByBag refl refl

    -- rounded up, it is no less than its parts
    up : (all least : ℕ) → 1 ≤ least → all ≤ ((all + (least - 1)) / least) * least
    up all least some = let lt = lt-mul-div-succ (all + (least - 1)) {b = least} some in omega (arith, lt, some)

    by-bytes : (p : Policing) (few : Bool) → counts_bytes p && few ≡ true → opened.measure_of p ≡ measure.Bytes
    by-bytes policing.Bytes few h = refl
    by-bytes policing.Frames few h = absurd (false≢true h)

    metered-is : (q byte_ns : ℕ) (by_gap : Bool) (vl : VlPlan) → LeavesBy plan p q vl → IsSized plan size p vl (passed known plan p vl).sizes → is_metered is_end (passed known plan p vl) ≡ true
        → IsMeteredFlow (opening plan p).equipment size byte_ns SCALE (flow_as is_end by_gap byte_ns (passed known plan p vl) true)
    metered-is q byte_ns by_gap vl leaves sized loose = elim (node-kind plan p lt) [
      | inl node ↦ absurd (false≢true (ap (λ b. is_metered b (passed known plan p vl)) (sym node.end) ∙ loose))
      | inr node ↦ (let passing = passed known plan p vl in
          let switch : is_metered false passing ≡ true = ap (λ b. is_metered b passing) (sym node.no_end) ∙ loose in record {
            parts = parts_of vl.link;
            transit = opened.transit_of plan p vl;
            is = have-transits plan accepted p q vl leaves node.state node.is;
            bytes = by-bytes vl.link.policing (nat_lt passing.sizes.least vl.link.smax) switch;
            units = are-bags plan accepted vl leaves.is_vl;
            least = passing.sizes.least;
            some = sized.some;
            shorter = sized.shorter node.no_end;
            cost = metered_cost byte_ns passing;
            enough = up (vl.link.smax * busy_for passing.sizes.least byte_ns) passing.sizes.least sized.some;
            burst = ap (λ b. (parts_of vl.link * metered_cost byte_ns passing) * (bag_of vl.link + slack_of b vl.link)) node.no_end;
            rate = refl;
          })
    ]

    flow-is : (q byte_ns : ℕ) (by_gap : Bool) (vl : VlPlan) → LeavesBy plan p q vl → IsSized plan size p vl (passed known plan p vl).sizes
        → IsFlow (opening plan p).equipment size byte_ns SCALE (flow_of is_end by_gap byte_ns (passed known plan p vl))
    flow-is q byte_ns by_gap vl leaves sized = go (is_metered is_end (passed known plan p vl)) refl
      where
        go : (b : Bool) → is_metered is_end (passed known plan p vl) ≡ b → IsFlow (opening plan p).equipment size byte_ns SCALE (flow_as is_end by_gap byte_ns (passed known plan p vl) b)
        go true e = inr (metered-is q byte_ns by_gap vl leaves sized e)
        go false e = inl (record {
          parts = parts_of vl.link;
          bag = bag_of vl.link;
          slack = slack_of is_end vl.link;
          apart = apart q vl leaves sized e;
          units = are-bags plan accepted vl leaves.is_vl;
          greatest = (passed known plan p vl).sizes.greatest;
          at_most = sized.most;
          curve = curve-is is_end by_gap byte_ns (passed known plan p vl);
        })

    -- ---- all that comes by a port with one priority

    module _ (all : AreSized plan known size p) where
      pub flows-are : (q byte_ns : ℕ) (by_gap : Bool) (test : Passing → Bool) → (ps : List Passing) → ((passing : Passing) → Has ps passing → Has (passings known plan p q) passing)
          → Every (IsFlow (opening plan p).equipment size byte_ns SCALE) (flows_by test (flow_of is_end by_gap byte_ns) ps)
      flows-are q byte_ns by_gap test [] there = tt
      flows-are q byte_ns by_gap test (passing ∷ ps) there = go (test passing) (flows-are q byte_ns by_gap test ps (λ x h. there x (inr h)))
        where
          go : (b : Bool) → Every (IsFlow (opening plan p).equipment size byte_ns SCALE) (flows_by test (flow_of is_end by_gap byte_ns) ps)
              → Every (IsFlow (opening plan p).equipment size byte_ns SCALE) (cond b (flow_of is_end by_gap byte_ns passing ∷ flows_by test (flow_of is_end by_gap byte_ns) ps) (flows_by test (flow_of is_end by_gap byte_ns) ps))
          go true later =
              let is = passed-leaves plan accepted known p q passing (there passing (inl refl)) in
              (subst (λ (x : Passing). IsFlow (opening plan p).equipment size byte_ns SCALE (flow_of is_end by_gap byte_ns x)) (sym is.is) (flow-is q byte_ns by_gap is.vl is.leaves (all q is.vl is.leaves)), later)
          go false later = later

      -- what one of them costs
      pub cost-is : (q byte_ns : ℕ) (passing : Passing) → Has (passings known plan p q) passing → (most : ℕ) → cost_of byte_ns passing ≤ most → CostsAtMost (opening plan p).equipment size byte_ns passing.link.id.0 most
      cost-is q byte_ns passing there most le =
          let is = passed-leaves plan accepted known p q passing there in
          record {
            greatest = passing.sizes.greatest;
            at_most = subst (λ (x : Passing). HasAtMost (opening plan p).equipment size x.link.id.0 x.sizes.greatest) (sym is.is) (all q is.vl is.leaves).most;
            cost = le;
          }

      -- their costs are no more than the greatest
      pub costs-are : (byte_ns q : ℕ) (by_gap : Bool) (test : Passing → Bool) (end : Bool) → (ps : List Passing) → ((passing : Passing) → Has ps passing → Has (passings known plan p q) passing) → (most : ℕ) → greatest_by test (cost_of byte_ns) ps ≤ most
          → Every (λ flow. CostsAtMost (opening plan p).equipment size byte_ns flow.link most) (flows_by test (flow_of end by_gap byte_ns) ps)
      costs-are byte_ns q by_gap test end [] there most below = tt
      costs-are byte_ns q by_gap test end (passing ∷ ps) there most below = go (test passing) below (costs-are byte_ns q by_gap test end ps (λ x h. there x (inr h)) most)
        where
          go : (b : Bool) → cond b (max (cost_of byte_ns passing) (greatest_by test (cost_of byte_ns) ps)) (greatest_by test (cost_of byte_ns) ps) ≤ most
              → (greatest_by test (cost_of byte_ns) ps ≤ most → Every (λ flow. CostsAtMost (opening plan p).equipment size byte_ns flow.link most) (flows_by test (flow_of end by_gap byte_ns) ps))
              → Every (λ flow. CostsAtMost (opening plan p).equipment size byte_ns flow.link most) (cond b (flow_of end by_gap byte_ns passing ∷ flows_by test (flow_of end by_gap byte_ns) ps) (flows_by test (flow_of end by_gap byte_ns) ps))
          go true h later = (cost-is q byte_ns passing (there passing (inl refl)) most (omega (arith, h)), later (omega (arith, h)))
          go false h later = later h

  -- each that passes the test is among them
  pub flow-among : (byte_ns : ℕ) (by_gap : Bool) (test : Passing → Bool) (end : Bool) (ps : List Passing) (passing : Passing) → Has ps passing → test passing ≡ true → IsAmong passing.link.id.0 (links_of (flows_by test (flow_of end by_gap byte_ns) ps))
  flow-among byte_ns by_gap test end [] passing there passes = absurd there
  flow-among byte_ns by_gap test end (first ∷ ps) passing (inl same) passes =
      rw (ap test same ∙ passes) (inl (ap (λ (x : Passing). x.link.id.0) (sym same)))
  flow-among byte_ns by_gap test end (first ∷ ps) passing (inr there) passes = go (test first) (flow-among byte_ns by_gap test end ps passing there passes)
    where
      go : (b : Bool) → IsAmong passing.link.id.0 (links_of (flows_by test (flow_of end by_gap byte_ns) ps)) → IsAmong passing.link.id.0 (links_of (cond b (flow_of end by_gap byte_ns first ∷ flows_by test (flow_of end by_gap byte_ns) ps) (flows_by test (flow_of end by_gap byte_ns) ps)))
      go true later = inr later
      go false later = later
