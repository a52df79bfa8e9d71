-- What each line of a text of bounds says holds in the run of each network of its shape.
use Rattle.std.proofs.Common.{◌≡◌, ◌≤◌, ◌<◌, ℕ, suc, ◌+◌, ◌-◌, ◌^◌, Bool, true, false, cond, nat_le, nat_lt, List, [], ◌∷◌, flat_map, length, All, Option, Some, None, Result, Ok, Err, inl, inr, refl, ap, sym, ◌∙◌, subst, arith, slice_get, Contains, leb-true}
use Rattle.std.specs.Option.{option_map_or}
use Rattle.std.proofs.lemmas.Option.{same_Some}
use Rattle.std.proofs.lemmas.List.Elements.{All-append, All-cons, All-nil}
use Rattle.virtual_time.specs.Law.{Laws, one}
use Rattle.reverse.specs.Rules.{rules_of}
use Rattle.reverse.specs.Setting.{simulation_of}
use Rattle.vlink.specs.declared.frame.VlId.{VlId}
use Rattle.vlink.specs.declared.note.Note.TheVariants.{Delivered}
use Rattle.vlink.specs.Letters.{Row}
use Rattle.network.specs.declared.wiring.LinePlan.{LinePlan}
use Rattle.network.proofs.BuildLemmas.{line-read}
use Rattle.network.specs.Words.{IsAccepted, Plan, VlPlan, destinations_of, is_end_system, lines_of}
use Rattle.nodes.specs.declared.ports.Outlet.{Outlet}
use Rattle.plan_ports.specs.Links.{LeavesBy}
use Rattle.network_faults.proofs.MemberLemmas.{Has, contains-from_has}
use Rattle.nodes.specs.undoing.Node.{node}
use Rattle.seqsim.specs.Networks.{setting_of}
use Rattle.plan_ports.specs.Outlets.{port_bytes_at}
use Rattle.plan_waits.proofs.HeldLemmas.{held-lists, held-periods}
use Rattle.least_ages.specs.Deliveries.{AreDeliveriesTimely, IsTimely}
use Rattle.least_ages.specs.Ports.{AreBytesBounded, ArePortsRoomy}
use Rattle.network_bounds.specs.declared.ages.Span.{Span}
use Rattle.network_bounds.specs.declared.delays.PortBound.{PortBound}
use Rattle.network_bounds.specs.declared.reason.Reason.{Reason}
use Rattle.network_bounds.specs.declared.reason.Reason.TheVariants.{Number, Size}
use Rattle.network_bounds.specs.Ages.{age_to, network_ns_of, wait_of}
use Rattle.network_bounds.specs.Delays.{AreBounds}
use Rattle.network_bounds.specs.Least.{if_held, least_ns_of, least_to, span_of, with_least}
use Rattle.network_bounds.specs.Numbers.{capped}
use Rattle.network_bounds.specs.Said.{LinkBound, Said}
use Rattle.network_bounds.specs.Said.Said.{NoBound, NoRoom}
use Rattle.network_bounds.specs.Sizes.{known_sizes, sizes_in}
use Rattle.network_bounds.specs.declared.sizes.FrameSizes.{FrameSizes}
use Rattle.network_bounds.specs.declared.sizes.LinkSizes.{LinkSizes}
use Rattle.network_bounds.specs.declared.sizes.Senders.{Senders}
use Rattle.network_bounds.specs.declared.sizes.Senders.TheVariants.{AsStated, ByContract}
use Rattle.network_bounds.specs.Text.{destination_said, destination_saids, link_saids, port_bytes_of, port_said, port_saids, ports_said_from, saids_of}
use Rattle.network_bounds.proofs.SaidLemmas.{said}
use Rattle.plan_bounds.specs.Columns.{AreContractTextsTrue, AreTextsTrue, HoldsByContract, HoldsOf, HoldsOfLink, HoldsOfPort, IsBefore, IsDeliveredSo, IsDelivery}
use Rattle.plan_bounds.specs.Contract.{KeepsItsSizes, agreed_of, agreed_of_vl}
use Rattle.plan_bounds.proofs.Bounded.{counted, few-wait, takes-all, timely}
use Rattle.plan_bounds.proofs.Counted.{AreSized}
use Rattle.plan_bounds.proofs.InTime.{lt-true}
use Rattle.plan_bounds.proofs.Kept.{has-map, kept, least-of, leaves-there, map-has, same-age, same-soonest, stated, theirs}
use Rattle.plan_bounds.proofs.Shapes.{agree, same-sizes}
use Rattle.plan_bounds.proofs.Sources.{leaves-source}

-- what holds of all that is made of each of these holds of all that is made of them
all-flat : {X Y : Type 0} (P : Y → Type 0) (f : X → List Y) (xs : List X) → ((x : X) → Has xs x → All P (f x)) → All P (flat_map f xs)
all-flat P f [] each = All-nil P
all-flat P f (x ∷ xs) each = All-append P (f x) (flat_map f xs) (each x (inl refl)) (all-flat P f xs (λ y there. each y (inr there)))

-- what the ages that are printed are made of
record IsSpan (shape : Plan) (bounds : List PortBound) (vl : VlPlan) (n : ℕ) (span : Span) : Type 0 where
  most : network_ns_of shape bounds vl.link n ≡ Ok span.most
  least : span.least ≡ least_ns_of shape vl.link n
  held : capped (span.most + wait_of shape vl.link) < 2 ^ 128 - 1

not-err : {A B : Type 0} {a : A} {b : B} → Err b ≡ Ok a → ⊥
not-err h = let z : ⊥ = cc in z

spanned : (shape : Plan) (bounds : List PortBound) (vl : VlPlan) (n : ℕ) (span : Span) → span_of shape bounds vl.link n ≡ Ok span → IsSpan shape bounds vl n span
spanned shape bounds vl n span e = go (network_ns_of shape bounds vl.link n) refl (passed (nat_le (sizes_in shape vl.link).least vl.link.smax) e)
  where
    passed : (b : Bool) → cond b (if_held (wait_of shape vl.link) (with_least (network_ns_of shape bounds vl.link n) (least_ns_of shape vl.link n))) (Err Size) ≡ Ok span →
        if_held (wait_of shape vl.link) (with_least (network_ns_of shape bounds vl.link n) (least_ns_of shape vl.link n)) ≡ Ok span
    passed true e = e
    passed false e = absurd (not-err e)

    go : (r : Result ℕ Reason) → network_ns_of shape bounds vl.link n ≡ r → if_held (wait_of shape vl.link) (with_least r (least_ns_of shape vl.link n)) ≡ Ok span → IsSpan shape bounds vl n span
    go (Err why) is h = absurd (not-err h)
    go (Ok most) is h = by (nat_lt (capped (most + wait_of shape vl.link)) (2 ^ 128 - 1)) refl h
      where
        by : (b : Bool) → nat_lt (capped (most + wait_of shape vl.link)) (2 ^ 128 - 1) ≡ b → cond b (Ok (record { most = most; least = least_ns_of shape vl.link n })) (Err Number) ≡ Ok span → IsSpan shape bounds vl n span
        by false l h = absurd (not-err h)
        by true l h =
            let found : Span = record { most = most; least = least_ns_of shape vl.link n } in
            let same : found ≡ span = cc in
            let top : most ≡ span.most = ap (λ (s : Span). s.most) same in
            record {
              most = is ∙ ap Ok top;
              least = sym (ap (λ (s : Span). s.least) same);
              held = subst (λ m. capped (m + wait_of shape vl.link) < 2 ^ 128 - 1) top (lt-true _ _ l);
            }

module _ (shape plan : Plan) (known_accepted : IsAccepted shape) (accepted : IsAccepted plan) (same : agreed_of plan ≡ agreed_of shape) (laws : Laws (simulation_of (rules_of node) (setting_of plan))) (deliveries : AreDeliveriesTimely)
    (bytes_law : AreBytesBounded) (ports_roomy : ArePortsRoomy) (senders : Senders) (bounds : List PortBound) (are : AreBounds (known_sizes senders shape) shape (lines_of shape) bounds) where
  abbrev sizes : ℕ → LinkSizes
  sizes = known_sizes senders shape

  abbrev AreSizedAt : ℕ → Type 0
  AreSizedAt p = AreSized plan sizes (counted plan accepted sizes) p

  -- ---- a virtual link at a destination

  module _ (known : VlPlan) (there : Has shape.vls known) (n : ℕ) (ends : Has (destinations_of known) n) (span : Span) (made : IsSpan shape bounds known n span) where
    other : (vl : VlPlan) × Has plan.vls vl × (agreed_of_vl vl ≡ agreed_of_vl known)
    other = map-has agreed_of_vl plan.vls (agreed_of_vl known) (subst (λ (s : Plan). Has s.vls (agreed_of_vl known)) (sym same) (has-map agreed_of_vl shape.vls known there))

    is_known : Contains shape.vls known
    is_known = contains-from_has shape.vls known there

    is_other : Contains plan.vls other.0
    is_other = contains-from_has plan.vls other.0 other.1

    id : other.0.link.id ≡ known.link.id
    id = ap (λ (v : VlPlan). v.link.id) other.2

    ends-there : Contains (destinations_of other.0) n
    ends-there = contains-from_has (destinations_of other.0) n (subst (λ (ns : List ℕ). Has ns n) (sym (ap destinations_of other.2)) ends)

    least : (sizes other.0.link.id.0).sent.least ≡ (sizes_in shape known.link).least
    least = least-of shape plan known_accepted accepted same senders known other.0 is_known id

    abbrev line : LinkBound
    line = record {
      link = known.link.id.0;
      place = n;
      network_ns = span.most;
      wait_ns = wait_of shape known.link;
      bound_ns = capped (span.most + wait_of shape known.link);
      least_ns = span.least;
      jitter_ns = capped (span.most + wait_of shape known.link) - span.least;
    }

    module _ (all : (p q : ℕ) → LeavesBy plan p q other.0 → AreSizedAt p) (shorter : (sizes_in shape known.link).least ≤ (sizes_in plan other.0.link).least) where
      in-time : (events : ℕ) (row : Row) → Contains (one (simulation_of (rules_of node) (setting_of plan)) events).rows row → (latency : ℕ) → IsDelivery row known.link.id.0 n latency →
          IsTimely row latency (wait_of plan other.0.link) span.most span.least
      in-time events row found latency d =
          let link : d.vl ≡ other.0.link.id = λ i. record { 0 = (d.link ∙ sym (ap (λ (z : VlId). z.0) id)) i } in
          subst (IsTimely row latency (wait_of plan other.0.link) span.most)
          (ap (λ k. least_to plan other.0.link k n) least ∙ same-soonest shape plan known_accepted accepted same known other.0 is_known is_other id senders bounds (sizes_in shape known.link).least n ∙ sym made.least)
          (timely plan accepted laws deliveries (held-lists plan accepted) (held-periods plan accepted) sizes bounds (theirs shape plan known_accepted accepted same sizes bounds are) other.0 is_other all
          (subst (λ k. k ≤ (sizes_in plan other.0.link).least) (sym least) shorter) n ends-there span.most
          (ap (λ k. age_to plan bounds other.0.link k n) least ∙ same-age shape plan known_accepted accepted same known other.0 is_known is_other id senders bounds (sizes_in shape known.link).least n ∙ made.most)
          events row found d.place latency (d.note ∙ ap (λ (z : VlId). Delivered z latency) link))

      so : (row : Row) (latency : ℕ) → IsTimely row latency (wait_of plan other.0.link) span.most span.least → IsDeliveredSo plan line row latency
      so row latency t =
          let number : other.0.link.id.0 ≡ known.link.id.0 = ap (λ (z : VlId). z.0) id in
          let since = t.since in let released = t.released in let held = t.held in let late = t.no_later in let soon = t.no_sooner in let fits = made.held in
          record {
            port = t.port;
            frame = t.frame;
            came = t.came;
            since = since;
            released = released;
            network_ns = late;
            wait_ns = λ h. (let most = h other.0 is_other number in omega (arith, held, most));
            bound_ns = λ h. (let most = h other.0 is_other number in omega (arith, since, held, late, most, fits));
            least_ns = omega (arith, since, released, soon);
          }

      link-holds : HoldsOfLink plan line
      link-holds = record {
        delivered = λ events row found latency d. so row latency (in-time events row found latency d);
        jitter_ns = λ h events row another found also latency soonest d e.
            (let most = (so row latency (in-time events row found latency d)).bound_ns h in
            let soon = (so another soonest (in-time events another also soonest e)).least_ns in
            omega (arith, most, soon));
      }

  -- ---- the port before a line

  port-holds : (k : ℕ) (bound : PortBound) → slice_get bounds k ≡ Some bound → (ahead : LinePlan) → slice_get (lines_of shape) k ≡ Some ahead → AreSizedAt ahead.from → (waiting : ℕ) → bound.waiting ≡ Ok waiting →
      HoldsOfPort plan (record { line = k; bytes = waiting; holds = nat_le waiting (port_bytes_of shape ahead.from) })
  port-holds k bound at ahead read all waiting is = record {
    bytes = λ line outlet before events. few-wait plan accepted laws bytes_law ports_roomy sizes bounds (theirs shape plan known_accepted accepted same sizes bounds are) k bound at waiting is line outlet before (sized line outlet before) events;
    holds = λ yes line outlet before events.
        (let room : port_bytes_of shape ahead.from ≡ port_bytes_at plan line.from = ap (λ (l : LinePlan). port_bytes_at shape l.from) (ours line outlet before) ∙ sym (ap (λ (s : Plan). port_bytes_at s line.from) same) in
        takes-all plan accepted laws bytes_law ports_roomy sizes bounds (theirs shape plan known_accepted accepted same sizes bounds are) k bound at waiting is line outlet before (sized line outlet before)
        (subst (λ m. waiting ≤ m) room (leb-true _ _ yes)) events);
  }
    where
      ours : (line : LinePlan) (outlet : Outlet) → IsBefore plan k line outlet → ahead ≡ line
      ours line outlet before = same_Some ahead line (sym read ∙ sym (ap (λ (s : Plan). slice_get (lines_of s) k) same) ∙ before.read)

      sized : (line : LinePlan) (outlet : Outlet) → IsBefore plan k line outlet → AreSizedAt line.from
      sized line outlet before = subst (λ (l : LinePlan). AreSizedAt l.from) (ours line outlet before) all

  -- ---- all lines, where what a line needs gives the sizes that count

  module _ (H : Said → Type 0) (of-link : (known : VlPlan) (there : Has shape.vls known) (n : ℕ) (ends : Has (destinations_of known) n) (span : Span) → IsSpan shape bounds known n span → H (destination_said shape known.link n (Ok span)))
      (of-port : (k : ℕ) (bound : PortBound) → slice_get bounds k ≡ Some bound → (ahead : LinePlan) → slice_get (lines_of shape) k ≡ Some ahead → (waiting : ℕ) → bound.waiting ≡ Ok waiting → H (port_said k (port_bytes_of shape ahead.from) (Ok waiting)))
      (no-bound : (link place : ℕ) (why : Reason) → H (NoBound link place why)) (no-room : (k : ℕ) (why : Reason) → H (NoRoom k why)) where
    destination-holds : (known : VlPlan) → Has shape.vls known → (n : ℕ) → Has (destinations_of known) n → All H (destination_saids shape bounds known.link n)
    destination-holds known there n ends = go (nat_lt n (length shape.nodes))
      where
        by : (r : Result Span Reason) → span_of shape bounds known.link n ≡ r → H (destination_said shape known.link n r)
        by (Ok span) is = of-link known there n ends span (spanned shape bounds known n span is)
        by (Err why) is = no-bound known.link.id.0 n why

        go : (b : Bool) → All H (cond b (destination_said shape known.link n (span_of shape bounds known.link n) ∷ []) [])
        go true = All-cons H (destination_said shape known.link n (span_of shape bounds known.link n)) [] (by (span_of shape bounds known.link n) refl) (All-nil H)
        go false = All-nil H

    port-at : (k : ℕ) (bound : PortBound) → slice_get bounds k ≡ Some bound → (ahead : LinePlan) → slice_get (lines_of shape) k ≡ Some ahead → H (port_said k (port_bytes_of shape ahead.from) bound.waiting)
    port-at k bound at ahead read = go bound.waiting refl
      where
        go : (r : Result ℕ Reason) → bound.waiting ≡ r → H (port_said k (port_bytes_of shape ahead.from) r)
        go (Ok waiting) is = of-port k bound at ahead read waiting is
        go (Err why) is = no-room k why

    ports-hold : (k : ℕ) (rest : List PortBound) → ((j : ℕ) (bound : PortBound) → slice_get rest j ≡ Some bound → slice_get bounds (k + j) ≡ Some bound) → All H (ports_said_from shape k rest)
    ports-hold k [] all = All-nil H
    ports-hold k (bound ∷ rest) all =
        All-append H (port_saids shape k bound) (ports_said_from shape (k + 1) rest) (here (slice_get (lines_of shape) k) refl)
        (ports-hold (k + 1) rest (λ j b e. (let next : k + suc j ≡ (k + 1) + j = omega arith in subst (λ m. slice_get bounds m ≡ Some b) next (all (suc j) b e))))
      where
        at : slice_get bounds k ≡ Some bound
        at = let first : k + 0 ≡ k = omega arith in subst (λ m. slice_get bounds m ≡ Some bound) first (all 0 bound refl)

        here : (o : Option LinePlan) → slice_get (lines_of shape) k ≡ o → All H (option_map_or (λ ahead. port_said k (port_bytes_of shape ahead.from) bound.waiting ∷ []) o [])
        here None read = All-nil H
        here (Some ahead) read = All-cons H (port_said k (port_bytes_of shape ahead.from) bound.waiting) [] (port-at k bound at ahead read) (All-nil H)

    all-hold : All H (saids_of shape bounds)
    all-hold = All-append H (flat_map (link_saids shape bounds) shape.vls) (ports_said_from shape 0 bounds)
        (all-flat H (link_saids shape bounds) shape.vls (λ known there. all-flat H (destination_saids shape bounds known.link) (destinations_of known) (destination-holds known there)))
        (ports-hold 0 bounds (λ j bound e. (let same : j ≡ 0 + j = omega arith in subst (λ m. slice_get bounds m ≡ Some bound) same e)))

-- the node of a line is there
line-node : (plan : Plan) → IsAccepted plan → (k : ℕ) (line : LinePlan) → slice_get (lines_of plan) k ≡ Some line → line.from < length plan.nodes
line-node plan accepted k line read = (line-read plan k line accepted read).0

module _ (shape : Plan) (known_accepted : IsAccepted shape) (deliveries : AreDeliveriesTimely) (bytes_law : AreBytesBounded) (ports_roomy : ArePortsRoomy) where
  pub texts-true : AreTextsTrue shape
  texts-true text t plan accepted laws shapes = record {
    saids = saids_of shape t.0;
    lines = t.2 ∙ said shape t.0;
    hold = all-hold shape plan known_accepted accepted same laws deliveries bytes_law ports_roomy AsStated t.0 t.1 (HoldsOf plan) of-link of-port (λ link place why. tt) (λ k why. tt);
  }
    where
      same : agreed_of plan ≡ agreed_of shape
      same = agree shape plan shapes

      all-sized : (p : ℕ) → p < length plan.nodes → AreSized plan (known_sizes AsStated shape) (counted plan accepted (known_sizes AsStated shape)) p
      all-sized p lt = stated shape plan known_accepted accepted same p lt (same-sizes shape plan accepted shapes)

      of-link : (known : VlPlan) (there : Has shape.vls known) (n : ℕ) (ends : Has (destinations_of known) n) (span : Span) → IsSpan shape t.0 known n span → HoldsOf plan (destination_said shape known.link n (Ok span))
      of-link known there n ends span made =
          let vl = other shape plan known_accepted accepted same laws deliveries bytes_law ports_roomy AsStated t.0 t.1 known there n ends span made in
          let sizes = same-sizes shape plan accepted shapes vl.0 (contains-from_has plan.vls vl.0 vl.1) known (contains-from_has shape.vls known there) (ap (λ (v : VlPlan). v.link.id) vl.2) in
          link-holds shape plan known_accepted accepted same laws deliveries bytes_law ports_roomy AsStated t.0 t.1 known there n ends span made
          (λ p q leaves. all-sized p (leaves-there shape plan known_accepted accepted same p q vl.0 leaves)) (let least = ap (λ (z : FrameSizes). z.least) sizes in omega (arith, least))

      of-port : (k : ℕ) (bound : PortBound) → slice_get t.0 k ≡ Some bound → (ahead : LinePlan) → slice_get (lines_of shape) k ≡ Some ahead → (waiting : ℕ) → bound.waiting ≡ Ok waiting → HoldsOf plan (port_said k (port_bytes_of shape ahead.from) (Ok waiting))
      of-port k bound at ahead read waiting is =
          port-holds shape plan known_accepted accepted same laws deliveries bytes_law ports_roomy AsStated t.0 t.1 k bound at ahead read
          (all-sized ahead.from (subst (λ (s : Plan). ahead.from < length s.nodes) (sym same) (line-node shape known_accepted k ahead read))) waiting is

  pub contract-texts-true : AreContractTextsTrue shape
  contract-texts-true text t plan accepted laws same = record {
    saids = saids_of shape t.0;
    lines = t.2 ∙ said shape t.0;
    hold = all-hold shape plan known_accepted accepted same laws deliveries bytes_law ports_roomy ByContract t.0 t.1 (HoldsByContract shape plan) of-link of-port (λ link place why. tt) (λ k why. tt);
  }
    where
      of-link : (known : VlPlan) (there : Has shape.vls known) (n : ℕ) (ends : Has (destinations_of known) n) (span : Span) → IsSpan shape t.0 known n span → HoldsByContract shape plan (destination_said shape known.link n (Ok span))
      of-link known there n ends span made keeps =
          let vl = other shape plan known_accepted accepted same laws deliveries bytes_law ports_roomy ByContract t.0 t.1 known there n ends span made in
          let is_vl = contains-from_has plan.vls vl.0 vl.1 in
          let k = keeps known (contains-from_has shape.vls known there) refl vl.0 is_vl (ap (λ (v : VlPlan). v.link.id) vl.2) in
          link-holds shape plan known_accepted accepted same laws deliveries bytes_law ports_roomy ByContract t.0 t.1 known there n ends span made
          (λ p q leaves. kept shape plan known_accepted accepted same p (leaves-there shape plan known_accepted accepted same p q vl.0 leaves)
          (λ end. subst (KeepsItsSizes shape plan) (same_Some k.0.0 p (sym k.0.1 ∙ leaves-source plan accepted vl.0 is_vl p q leaves end)) k.0.2)) k.1

      of-port : (k : ℕ) (bound : PortBound) → slice_get t.0 k ≡ Some bound → (ahead : LinePlan) → slice_get (lines_of shape) k ≡ Some ahead → (waiting : ℕ) → bound.waiting ≡ Ok waiting →
          HoldsByContract shape plan (port_said k (port_bytes_of shape ahead.from) (Ok waiting))
      of-port k bound at ahead read waiting is keeps =
          port-holds shape plan known_accepted accepted same laws deliveries bytes_law ports_roomy ByContract t.0 t.1 k bound at ahead read
          (kept shape plan known_accepted accepted same ahead.from (subst (λ (s : Plan). ahead.from < length s.nodes) (sym same) (line-node shape known_accepted k ahead read))
          (λ end. keeps ahead read (sym (ap (λ (s : Plan). is_end_system s.nodes ahead.from) same) ∙ end))) waiting is
