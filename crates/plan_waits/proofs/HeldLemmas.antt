-- Why regulators of a network hold frames no longer: their offers come by their periods.
use Rattle.std.proofs.Common.{◌≡◌, ℕ, ◌+◌, ◌-◌, ◌*◌, ◌/◌, ◌%◌, ◌<◌, ◌≤◌, ◌==◌, true, cond, get_or, max, Some, All, inl, inr, refl, sym, ap, ◌∙◌, subst, arith, eqb-true, eq-eqb, mod-lt, add-one, option_map}
use Rattle.std.specs.Prelude.{unwrap_or}
use Rattle.std.proofs.Math.Nat.{mul-le-mul}
use Rattle.std.proofs.lemmas.Bool.{false≢true}
use Rattle.std.proofs.lemmas.List.Elements.{All-contains}
use Rattle.std.proofs.lemmas.Option.{slice_get-get_or}
use Rattle.row_types.specs.declared.rows.Timing.{Timing}
use Rattle.row_types.specs.declared.rows.Timing.TheVariants.{Periodic, Sporadic}
use Rattle.vlink.specs.declared.frame.VlId.{VlId}
use Rattle.vlink.specs.declared.message.Message.{Message}
use Rattle.bag_regulator.specs.Regulator as regulators
use Rattle.reverse.specs.Rules.{rules_of}
use Rattle.reverse.specs.Setting.{simulation_of}
use Rattle.virtual_time.specs.Law.{Laws}
use Rattle.network.specs.declared.plan.VlStream.{VlStream}
use Rattle.network.specs.Words.{IsAccepted, IsLinkInLimits, Plan, VlPlan, source_of}
use Rattle.network.proofs.EachLemmas.{list_any-contains}
use Rattle.network.proofs.LimitLemmas.{link-read}
use Rattle.network_faults.proofs.MemberLemmas.{contains-from_has, has-from_contains}
use Rattle.traffic.specs.declared.stream.OfferedStream.{OfferedStream}
use Rattle.traffic.specs.Offers.{drawn_at, drawn_before, due_of, late_by, moment_of, offer_of, own_of, sender_of, word_of}
use Rattle.traffic.specs.Plain.{is_periodic}
use Rattle.nodes.specs.rules.Node.{regulator_in}
use Rattle.nodes.specs.rules.Opening.{bag_ns, opening}
use Rattle.nodes.specs.undoing.Node.{node}
use Rattle.seqsim.specs.Networks.{setting_of}
use Rattle.port_turns.specs.Nodes.{IsOfNodes, is_offer_of}
use Rattle.frame_ages.specs.Latencies.{IsHeldWithin}
use Rattle.frame_ages.specs.Sizes.{OpensEmpty, Sizes}
use Rattle.frame_ages.specs.Waits.{IsOfferedBy}
use Rattle.frame_ages.proofs.HeldLemmas.{lists-held, periods-held}
use Rattle.sub_waits.proofs.SubLemmas.{subs-held}
use Rattle.plan_ports.proofs.Linked.{have-sources, one-vl}
use Rattle.plan_ports.proofs.Offered.{IsStreamOf, all-offered}
use Rattle.plan_waits.specs.Held.{IsSent, IsSteady}
use Rattle.plan_waits.proofs.BurstLemmas.{next}

module _ (plan : Plan) (accepted : IsAccepted plan) (L : Laws (simulation_of (rules_of node) (setting_of plan))) (N : IsOfNodes (setting_of plan)) (size : ℕ → Sizes) (O : OpensEmpty (setting_of plan) size) (p : ℕ) (vl : VlPlan) (S : IsSent plan p vl) where
  regulator : regulator_in (opening plan p).equipment (record { 0 = vl.link.id.0 }) ≡ Some (regulators.opening (bag_ns vl.link) vl.link.depth vl.link.sub)
  regulator = have-sources plan accepted p S.port vl S.leaves S.end_system S.is

  limits : IsLinkInLimits vl.link
  limits =
      All-contains (λ (v : VlPlan). IsLinkInLimits v.link) plan.vls vl
      (λ i d lt. link-read plan i (get_or plan.vls i d).link accepted (ap (option_map (λ (v : VlPlan). v.link)) (slice_get-get_or plan.vls i d lt))) S.is_vl

  least-bag : 1 ≤ bag_ns vl.link
  least-bag = let some = limits.least_bag in omega (arith, some)

  abbrev own : OfferedStream
  own = own_of vl.link (unwrap_or (source_of vl) 0)

  abbrev offer : ℕ → Message
  offer n = offer_of plan.seed own n

  -- when burst k comes
  abbrev moment : ℕ → ℕ
  moment k = moment_of plan.seed own k

  jitter-at-most : (word jitter : ℕ) → word % (jitter + 1) ≤ jitter
  jitter-at-most word jitter = let below : word % (jitter + 1) < jitter + 1 = mod-lt word (omega arith) in omega arith

  pub held-lists : IsHeldWithin (setting_of plan) p vl.link.id.0 ((vl.link.depth * vl.link.sub) * bag_ns vl.link)
  held-lists = lists-held (setting_of plan) size O p vl.link.id.0 (bag_ns vl.link) vl.link.depth vl.link.sub S.inside regulator L N

  -- ---- bursts come no earlier than these moments, at most so late, and the moments are a period apart

  record IsBase (late : ℕ) : Type 0 where
    base : ℕ → ℕ
    apart : (k : ℕ) → base k + vl.link.own.period_ns ≤ base (k + 1)
    not_before : (k : ℕ) → base k ≤ moment k
    not_after : (k : ℕ) → moment k ≤ base k + late

  -- each is late by its own delay
  periodic : vl.link.own.timing ≡ Periodic → IsBase vl.link.own.jitter_ns
  periodic timing = record {
    base = due_of vl.link.own;
    apart = λ k. omega arith;
    not_before = λ k. (let at = is k in omega (arith, at));
    not_after = λ k. (let at = is k in let late = jitter-at-most (word_of plan.seed vl.link.id.0 k) vl.link.own.jitter_ns in omega (arith, at, late));
  }
    where
      is : (k : ℕ) → moment k ≡ due_of vl.link.own k + drawn_at plan.seed own k
      is k = ap (λ t. due_of vl.link.own k + late_by t (drawn_before plan.seed own k) (drawn_at plan.seed own k)) timing

  -- each is due a period after the one before comes
  sporadic : vl.link.own.timing ≡ Sporadic → IsBase 0
  sporadic timing = record {
    base = moment;
    apart = λ k. (let at = is k in let then = is (k + 1) in let more = added k in omega (arith, at, then, more));
    not_before = λ k. omega arith;
    not_after = λ k. omega arith;
  }
    where
      is : (k : ℕ) → moment k ≡ due_of vl.link.own k + (drawn_before plan.seed own k + drawn_at plan.seed own k)
      is k = ap (λ t. due_of vl.link.own k + late_by t (drawn_before plan.seed own k) (drawn_at plan.seed own k)) timing

      added : (k : ℕ) → drawn_before plan.seed own (k + 1) ≡ drawn_before plan.seed own k + drawn_at plan.seed own k
      added k = ap (drawn_before plan.seed own) (add-one k)

  based : IsBase (cond (is_periodic vl.link.own.timing) vl.link.own.jitter_ns 0)
  based = go vl.link.own.timing refl
    where
      go : (t : Timing) → vl.link.own.timing ≡ t → IsBase (cond (is_periodic t) vl.link.own.jitter_ns 0)
      go Periodic e = periodic e
      go Sporadic e = sporadic e

  -- ---- all offers of the virtual link are of its own stream

  module _ (late : ℕ) (steady : IsSteady plan vl late) (b : IsBase late) where
    of-link : (s : OfferedStream) (n : ℕ) → IsStreamOf plan s → is_offer_of vl.link.id.0 (offer_of plan.seed s n).body ≡ true → offer_of plan.seed s n ≡ offer n
    of-link s n of e = ap (λ (o : OfferedStream). offer_of plan.seed o n) is
      where
        number : of.vl.link.id.0 ≡ vl.link.id.0
        number =
            let id : s.vl ≡ of.vl.link.id = elim of.kind [ inl own ↦ ap (λ (o : OfferedStream). o.vl) own | inr row ↦ ap (λ (o : OfferedStream). o.vl) row.is ] in
            ap (λ (v : VlId). v.0) (sym id) ∙ eqb-true s.vl.0 vl.link.id.0 e

        sole : s ≡ own_of of.vl.link s.source
        sole = elim of.kind [
          | inl own ↦ own
          | inr row ↦ absurd (false≢true (sym steady.alone ∙ list_any-contains (λ (r : VlStream). r.vl.0 == vl.link.id.0) plan.streams row.row (contains-from_has plan.streams row.row row.is_row)
              (eq-eqb row.row.vl.0 vl.link.id.0 (row.id ∙ number))))
        ]

        is : s ≡ own
        is =
            let same : of.vl ≡ vl = one-vl plan accepted vl of.vl (has-from_contains plan.vls vl S.is_vl) of.is_vl number in
            let at : s.source ≡ unwrap_or (source_of vl) 0 = ap (λ o. unwrap_or o 0) (sym of.from) ∙ ap (λ (z : VlPlan). unwrap_or (source_of z) 0) same in
            sole ∙ ap (λ (z : VlPlan). own_of z.link s.source) same ∙ ap (own_of vl.link) at

    each-offer : All (λ m. is_offer_of vl.link.id.0 m.body ≡ true → m ≡ offer m.number) (setting_of plan).offers
    each-offer = all-offered plan (λ m. is_offer_of vl.link.id.0 m.body ≡ true → m ≡ offer m.number) (λ s n of e. of-link s n of e)

    in-order : (k : ℕ) → moment k ≤ moment (k + 1)
    in-order k = let one = b.not_after k in let two = b.apart k in let three = b.not_before (k + 1) in let short = steady.in_order in omega (arith, one, two, three, short)

    abbrev f : ℕ
    f = vl.link.own.frames

    abbrev bag : ℕ
    bag = bag_ns vl.link

    -- what those of a burst and its lateness are beyond the period
    abbrev over : ℕ
    over = (late + f * bag) - vl.link.own.period_ns

    -- moments that have room for the BAGs of a burst, and no burst comes later after them than that
    abbrev from : ℕ → ℕ
    from k = max (b.base k) (moment k - over)

    room : (k : ℕ) → from k + f * bag ≤ from (k + 1)
    room k = let one = b.apart k in let two = b.not_after k in let fits = steady.in_time in omega (arith, one, two, fits)

    -- each frame is due a BAG after the one before it in its burst
    abbrev due : ℕ → ℕ
    due n = from (n / f) + (n % f) * bag

    bursts : IsOfferedBy (setting_of plan) vl.link.id.0 bag over (f * bag - bag)
    bursts = record {
      offer = offer;
      each = each-offer;
      sender = sender_of vl.link.id.0;
      sent = λ n. refl;
      due = due;
      apart = apart;
      not_before = not-before;
      not_after = λ n. omega arith;
      rising = rising;
    }
      where
        some : 1 ≤ f
        some = limits.own.least_frames

        apart : (n : ℕ) → due n + bag ≤ due (n + 1)
        apart n = elim (next f n some) [
          | inl same ↦ subst (λ k. due n + bag ≤ from k + ((n + 1) % f) * bag) (sym same.0) (subst (λ i. due n + bag ≤ from (n / f) + i * bag) (sym same.1) (omega arith))
          | inr other ↦
              (let later = room (n / f) in
              let all : (n % f) * bag + bag ≡ f * bag = (let shift : (n % f) * bag + bag ≡ (n % f + 1) * bag = omega arith in shift ∙ ap (λ m. m * bag) other.2) in
              subst (λ k. due n + bag ≤ from k + ((n + 1) % f) * bag) (sym other.0) (subst (λ i. due n + bag ≤ from (n / f + 1) + i * bag) (sym other.1) (omega (arith, later, all))))
        ]

        not-before : (n : ℕ) → due n ≤ (offer n).time + (f * bag - bag)
        not-before n =
            let below : n % f < f = mod-lt n (omega (arith, some)) in
            let less : n % f + 1 ≤ f = omega (arith, below) in
            let product : (n % f + 1) * bag ≤ f * bag = mul-le-mul less (omega arith) in
            let shift : (n % f + 1) * bag ≡ (n % f) * bag + bag = omega arith in
            let not_early = b.not_before (n / f) in
            omega (arith, product, shift, not_early)

        rising : (n : ℕ) → (offer n).time ≤ (offer (n + 1)).time
        rising n = elim (next f n some) [
          | inl same ↦ subst (λ k. moment (n / f) ≤ moment k) (sym same.0) (omega arith)
          | inr other ↦ subst (λ k. moment (n / f) ≤ moment k) (sym other.0) (in-order (n / f))
        ]

    abbrev early : ℕ
    early = f * bag - bag

    one-list : vl.link.sub ≡ 1 → IsHeldWithin (setting_of plan) p vl.link.id.0 (((early + over) + bag) - bag)
    one-list one =
        let opens = regulator ∙ ap (λ k. Some (regulators.opening (bag_ns vl.link) vl.link.depth k)) one in
        periods-held (setting_of plan) L N size O p vl.link.id.0 bag vl.link.depth S.inside opens bag over early bursts (omega arith)

    one-frame : f ≡ 1 → late < vl.link.own.period_ns → IsHeldWithin (setting_of plan) p vl.link.id.0 (((early + over) + bag) - bag)
    one-frame one before =
        let whole : f * bag ≡ 1 * bag = ap (λ n. n * bag) one in
        let some : 1 ≤ bag = least-bag in
        subs-held (setting_of plan) L N size O p vl.link.id.0 bag vl.link.depth vl.link.sub S.inside regulator bag over early bursts (omega arith) (omega (arith, whole, before, some))

    by-bursts : IsHeldWithin (setting_of plan) p vl.link.id.0 ((f * bag - bag) + over)
    by-bursts =
        let none : ((early + over) + bag) - bag ≡ early + over = omega arith in
        subst (IsHeldWithin (setting_of plan) p vl.link.id.0) none (elim steady.one_waits [ inl one ↦ one-list one | inr single ↦ one-frame single.0 single.1 ])

  pub held-periods : (late : ℕ) → IsSteady plan vl late
      → IsHeldWithin (setting_of plan) p vl.link.id.0 ((vl.link.own.frames * bag_ns vl.link - bag_ns vl.link) + ((late + vl.link.own.frames * bag_ns vl.link) - vl.link.own.period_ns))
  held-periods late steady = by-bursts late steady (subst IsBase (sym steady.late_is) based)
