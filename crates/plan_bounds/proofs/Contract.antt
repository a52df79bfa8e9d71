-- The bounds of a network hold in the runs of those that agree with it: where they offer frames of the same sizes, or by contract whatever other end systems offer.
use Rattle.std.proofs.Common.{◌<◌, ◌≤◌, ◌≡◌, ℕ, ◌+◌, List, true, Contains, Ok, Some, length, ap, sym, ◌∙◌, subst, arith, slice_get}
use Rattle.std.proofs.lemmas.Option.{same_Some}
use Rattle.virtual_time.specs.Law.{Laws}
use Rattle.reverse.specs.Rules.{rules_of}
use Rattle.reverse.specs.Setting.{simulation_of}
use Rattle.nodes.specs.undoing.Node.{node}
use Rattle.network.specs.declared.wiring.LinePlan.{LinePlan}
use Rattle.network.specs.Words.{IsAccepted, Plan, VlPlan, destinations_of, is_end_system, lines_of, source_of}
use Rattle.seqsim.specs.Networks.{setting_of}
use Rattle.plan_ports.specs.Links.{LeavesBy}
use Rattle.plan_ports.specs.Outlets.{port_bytes_at}
use Rattle.plan_waits.specs.Held.{AreListsHeld, ArePeriodsHeld}
use Rattle.least_ages.specs.Deliveries.{AreDeliveriesTimely}
use Rattle.frame_ages.specs.Rooms.{AreFramesKept}
use Rattle.network_bounds.specs.declared.delays.PortBound.{PortBound}
use Rattle.network_bounds.specs.declared.sizes.FrameSizes.{FrameSizes}
use Rattle.network_bounds.specs.declared.sizes.Senders.{Senders}
use Rattle.network_bounds.specs.declared.sizes.Senders.TheVariants.{AsStated, ByContract}
use Rattle.network_bounds.specs.Ages.{age_to, network_ns_of, wait_of}
use Rattle.network_bounds.specs.Delays.{AreBounds}
use Rattle.network_bounds.specs.Sizes.{known_sizes, sizes_in}
use Rattle.plan_bounds.specs.Contract.{KeepsItsSizes, agreed_of}
use Rattle.plan_bounds.specs.Latencies.{IsLatencyBound}
use Rattle.plan_bounds.specs.Rooms.{DropsNoneFull, Holds}
use Rattle.plan_bounds.proofs.Bounded.{bounded, counted, roomy}
use Rattle.plan_bounds.proofs.Counted.{AreSized}
use Rattle.plan_bounds.proofs.Kept.{kept, least-of, leaves-there, same-age, stated, theirs}
use Rattle.plan_bounds.proofs.Sources.{leaves-source}

module _ (shape plan : Plan) (known_accepted : IsAccepted shape) (accepted : IsAccepted plan) (same : agreed_of plan ≡ agreed_of shape) where
  abbrev SameSizes : Type 0
  SameSizes = (vl : VlPlan) → Contains plan.vls vl → (known : VlPlan) → Contains shape.vls known → vl.link.id ≡ known.link.id → sizes_in plan vl.link ≡ sizes_in shape known.link

  -- the rooms of the one are those of the other
  their-holds : (bounds : List PortBound) (p : ℕ) → ((k : ℕ) (line : LinePlan) → slice_get (lines_of shape) k ≡ Some line → line.from ≡ p → Holds shape bounds p k) →
      (k : ℕ) (line : LinePlan) → slice_get (lines_of plan) k ≡ Some line → line.from ≡ p → Holds plan bounds p k
  their-holds bounds p each k line read from =
      let h = each k line (sym (ap (λ (s : Plan). slice_get (lines_of s) k) same) ∙ read) from in
      record { bound = h.bound; read = h.read; bytes = h.bytes; waiting = h.waiting; room = subst (λ (s : Plan). h.bytes ≤ port_bytes_at s p) (sym same) h.room }

  module _ (laws : Laws (simulation_of (rules_of node) (setting_of plan))) (deliveries : AreDeliveriesTimely) (lists : AreListsHeld plan) (periods : ArePeriodsHeld plan) where
    -- by these sizes, where they are those of frames
    by-sizes : (senders : Senders) (bounds : List PortBound) → AreBounds (known_sizes senders shape) shape (lines_of shape) bounds → (known : VlPlan) → Contains shape.vls known → (vl : VlPlan) → Contains plan.vls vl → vl.link.id ≡ known.link.id →
        ((p q : ℕ) → LeavesBy plan p q vl → AreSized plan (known_sizes senders shape) (counted plan accepted (known_sizes senders shape)) p) → (sizes_in shape known.link).least ≤ (sizes_in plan vl.link).least →
        (n : ℕ) → Contains (destinations_of vl) n → (network_ns : ℕ) → network_ns_of shape bounds known.link n ≡ Ok network_ns → IsLatencyBound plan vl n (network_ns + wait_of plan vl.link)
    by-sizes senders bounds are known is_known vl is_vl id all shorter n there network_ns e =
        let least = least-of shape plan known_accepted accepted same senders known vl is_known id in
        bounded plan accepted laws deliveries lists periods (known_sizes senders shape) bounds (theirs shape plan known_accepted accepted same (known_sizes senders shape) bounds are) vl is_vl all
        (subst (λ k. k ≤ (sizes_in plan vl.link).least) (sym least) shorter) n there network_ns
        (ap (λ k. age_to plan bounds vl.link k n) least ∙ same-age shape plan known_accepted accepted same known vl is_known is_vl id senders bounds (sizes_in shape known.link).least n ∙ e)

    pub stated-bounds : SameSizes → (bounds : List PortBound) → AreBounds (known_sizes AsStated shape) shape (lines_of shape) bounds → (known : VlPlan) → Contains shape.vls known → (vl : VlPlan) → Contains plan.vls vl → vl.link.id ≡ known.link.id →
        (n : ℕ) → Contains (destinations_of vl) n → (network_ns : ℕ) → network_ns_of shape bounds known.link n ≡ Ok network_ns → IsLatencyBound plan vl n (network_ns + wait_of plan vl.link)
    stated-bounds agree bounds are known is_known vl is_vl id n there network_ns e =
        by-sizes AsStated bounds are known is_known vl is_vl id (λ p q leaves. stated shape plan known_accepted accepted same p (leaves-there shape plan known_accepted accepted same p q vl leaves) agree)
        (let is = ap (λ (z : FrameSizes). z.least) (agree vl is_vl known is_known id) in omega (arith, is)) n there network_ns e

    pub contract-bounds : (bounds : List PortBound) → AreBounds (known_sizes ByContract shape) shape (lines_of shape) bounds → (known : VlPlan) → Contains shape.vls known → (vl : VlPlan) → Contains plan.vls vl → vl.link.id ≡ known.link.id →
        (source : ℕ) → source_of vl ≡ Some source → KeepsItsSizes shape plan source → (sizes_in shape known.link).least ≤ (sizes_in plan vl.link).least →
        (n : ℕ) → Contains (destinations_of vl) n → (network_ns : ℕ) → network_ns_of shape bounds known.link n ≡ Ok network_ns → IsLatencyBound plan vl n (network_ns + wait_of plan vl.link)
    contract-bounds bounds are known is_known vl is_vl id source from keeps shorter n there network_ns e =
        by-sizes ByContract bounds are known is_known vl is_vl id
        (λ p q leaves. kept shape plan known_accepted accepted same p (leaves-there shape plan known_accepted accepted same p q vl leaves)
        (λ end. subst (KeepsItsSizes shape plan) (same_Some source p (sym from ∙ leaves-source plan accepted vl is_vl p q leaves end)) keeps)) shorter n there network_ns e

  module _ (laws : Laws (simulation_of (rules_of node) (setting_of plan))) (frames : AreFramesKept) where
    pub stated-rooms : SameSizes → (bounds : List PortBound) → AreBounds (known_sizes AsStated shape) shape (lines_of shape) bounds → (p : ℕ) → p < length shape.nodes →
        ((k : ℕ) (line : LinePlan) → slice_get (lines_of shape) k ≡ Some line → line.from ≡ p → Holds shape bounds p k) → DropsNoneFull plan p
    stated-rooms agree bounds are p lt each =
        let inside : p < length plan.nodes = subst (λ (s : Plan). p < length s.nodes) (sym same) lt in
        roomy plan accepted laws frames (known_sizes AsStated shape) bounds (theirs shape plan known_accepted accepted same (known_sizes AsStated shape) bounds are) p inside (stated shape plan known_accepted accepted same p inside agree) (their-holds bounds p each)

    pub contract-rooms : (bounds : List PortBound) → AreBounds (known_sizes ByContract shape) shape (lines_of shape) bounds → (p : ℕ) → p < length shape.nodes → (is_end_system shape.nodes p ≡ true → KeepsItsSizes shape plan p) →
        ((k : ℕ) (line : LinePlan) → slice_get (lines_of shape) k ≡ Some line → line.from ≡ p → Holds shape bounds p k) → DropsNoneFull plan p
    contract-rooms bounds are p lt keeps each =
        let inside : p < length plan.nodes = subst (λ (s : Plan). p < length s.nodes) (sym same) lt in
        roomy plan accepted laws frames (known_sizes ByContract shape) bounds (theirs shape plan known_accepted accepted same (known_sizes ByContract shape) bounds are) p inside
        (kept shape plan known_accepted accepted same p inside (λ end. keeps (sym (ap (λ (s : Plan). is_end_system s.nodes p) same) ∙ end))) (their-holds bounds p each)
