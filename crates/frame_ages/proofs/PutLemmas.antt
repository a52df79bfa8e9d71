-- Each frame that is put to a port is of a virtual link that goes out there, and costs what that virtual link's frames cost.
use Rattle.std.proofs.Common.{◌≡◌, ℕ, ◌<◌, ◌≤◌, ◌==◌, ◌&&◌, inl, inr, Bool, true, false, cond, List, [], ◌∷◌, ◌++◌, All, Option, Some, None, option_map, refl, sym, ap, ◌∙◌, subst, eqb-true}
use Rattle.std.specs.Prelude.{⊤, slice_set}
use Rattle.std.specs.Option.{option_map_or}
use Rattle.std.proofs.lemmas.Bool.{cases_eq}
use Rattle.std.proofs.lemmas.Option.{none-some, same_Some}
use Rattle.std.proofs.lemmas.List.Elements.{All-head, All-tail}
use Rattle.vlink.specs.Wire.{busy_for}
use Rattle.vlink.specs.declared.frame.Frame.{Frame}
use Rattle.vlink.specs.declared.frame.VlId.{VlId}
use Rattle.vlink.specs.declared.frame.Net.TheVariants.{A, B}
use Rattle.vlink.specs.declared.message.Message.{Message}
use Rattle.vlink.specs.declared.message.Body.{Body}
use Rattle.vlink.specs.declared.message.Body.TheVariants as body
use Rattle.vlink.specs.declared.note.Note.{Note}
use Rattle.bag_regulator.specs.Regulator.{regulator}
use Rattle.bag_regulator.specs.declared.event.RegEvent.{RegEvent}
use Rattle.bag_regulator.specs.declared.event.RegEvent.TheVariants.{Offer, Release}
use Rattle.bag_regulator.specs.declared.event.RegAnswer.{RegAnswer}
use Rattle.bag_regulator.specs.declared.event.RegAnswer.TheVariants as answer
use Rattle.output_port.specs.declared.event.Priority.{Priority}
use Rattle.output_port.specs.declared.event.PortEvent.{PortEvent}
use Rattle.output_port.specs.declared.event.PortEvent.TheVariants.{Put, Free}
use Rattle.output_port.specs.Port.{PortState}
use Rattle.reverse.specs.Rules.{rules_of}
use Rattle.reverse.specs.Setting.{Setting, simulation_of}
use Rattle.virtual_time.specs.Law.{Laws, Simulation, events, one}
use Rattle.port_bounds.specs.Frames.{PutFrame, link_of}
use Rattle.port_bounds.specs.Mixtures.{IsAmong}
use Rattle.port_bounds.specs.Sublists.{Every}
use Rattle.element_bounds.specs.PortTrace.{put_at, trace_of}
use Rattle.element_bounds.proofs.TraceLemmas.{AllPuts, OfAsked, trace-puts}
use Rattle.nodes.specs.declared.equipment.Equipment.{Equipment}
use Rattle.nodes.specs.declared.equipment.Equipment.TheVariants.{EndSystem, Switch, Line}
use Rattle.nodes.specs.declared.node.NodeRecord.{NodeRecord}
use Rattle.nodes.specs.declared.source.Source.{Source}
use Rattle.nodes.specs.declared.transit.Transit.{Transit}
use Rattle.nodes.specs.declared.vl_end.VlEnd.{VlEnd}
use Rattle.nodes.specs.rules.EndSystem.{EndSystemState, copy, end_system, is_on, offered_frame, port_of, source_at, source_number}
use Rattle.nodes.specs.rules.Finding.{Found, find}
use Rattle.nodes.specs.rules.Switch.{SwitchState, outputs_of, transit_at}
use Rattle.nodes.specs.rules.Node.{NodeState, after, handled}
use Rattle.nodes.specs.undoing.Node.{node}
use Rattle.nodes.specs.laws.EndSystemSending.{end_system-cases}
use Rattle.port_turns.specs.Nodes.{IsOfNodes}
use Rattle.port_turns.specs.SwitchPuts.{transit_of}
use Rattle.port_turns.specs.PortEvents.{asks, copy_asks, end_system_asks, or_else, regulated_asks, switch_asks}
use Rattle.port_turns.specs.PortRuns.{asked_at, input_of, port_events}
use Rattle.port_turns.proofs.Found.{found-other, found-set}
use Rattle.port_turns.proofs.Rising.{AreTo, events-to}
use Rattle.port_turns.proofs.Sources.{AllWaitIn, IsOfferFit, OfPut, source-keeps, subject}
use Rattle.frame_ages.specs.Ports.{IsSentBy, IsThrough}
use Rattle.frame_ages.specs.Sizes.{HaveEmptyRegulators, IsSized, IsWithin, OpensEmpty, Sizes}
use Rattle.frame_ages.proofs.EndFrames.{OfLink}
use Rattle.frame_ages.proofs.SizeLemmas.{GoesOut, IsFit, IsOut, SameAs, all-fit, none-waits, same-as-first, same-as-stays}
use Rattle.port_turns.proofs.Transits.{AllTransits, transits-stay}

-- ---- at an end system

-- K speaks of a virtual link that the end system sends, and not of its regulator: it stays
module _ (K : ℕ → Source → Type 0) (stays : (v : ℕ) (x y : Source) → y.end ≡ x.end → K v x → K v y) where
  abbrev pub AllSources : EndSystemState → Type 0
  AllSources s = (v : ℕ) (found : Found Source) → find source_number s.sources v ≡ Some found → K v found.entry

  asked-stays : (vl : VlId) (e : RegEvent) (s : EndSystemState) (found : Found Source) → AllSources s → source_at s vl ≡ Some found → (v : ℕ) (new : Found Source) →
      find source_number (slice_set s.sources found.place (record found.entry { regulator = regulator.after found.entry.regulator e })) v ≡ Some new → K v new.entry
  asked-stays vl e s found h is v new here =
      let now : Source = record found.entry { regulator = regulator.after found.entry.regulator e } in
      elim (cases_eq v vl.0) [
        | inl same ↦ (
            let put = subst (λ z. find source_number (slice_set s.sources found.place now) z ≡ Some (record { place = found.place; entry = now })) (sym same) (found-set source_number s.sources vl.0 found is now refl) in
            let entry : now ≡ new.entry = ap (λ (z : Found Source). z.entry) (same_Some (record { place = found.place; entry = now }) new (sym put ∙ here)) in
            stays v found.entry new.entry (ap (λ (z : Source). z.end) (sym entry)) (h v found (subst (λ z. find source_number s.sources z ≡ Some found) (sym same) is))
            )
        | inr d ↦ h v new (sym (found-other source_number s.sources vl.0 found is now refl v d) ∙ here)
      ]

  pub sources-stay : (n t : ℕ) (b : Body) (s : EndSystemState) → AllSources s → AllSources (end_system n t b s).state
  sources-stay n t b s h = end_system-cases (λ o. AllSources o.state) n t s (record {
    quiet = λ r q. h;
    receives = λ frame found is. h;
    frees = λ q. h;
    asks = λ vl e otherwise found at is. asked-stays vl e s found h is;
  }) b

-- the virtual link as the end system sends it at first, but for the regulator
abbrev SameEnd : EndSystemState → ℕ → Source → Type 0
SameEnd w v source = (was : Found Source) × (source_at w (record { 0 = v }) ≡ Some was) × (source.end ≡ was.entry.end)

same-end-stays : (w : EndSystemState) (v : ℕ) (a b : Source) → b.end ≡ a.end → SameEnd w v a → SameEnd w v b
same-end-stays w v a b e h = (h.0, h.1, e ∙ h.2)

module _ (q : ℕ) (w : EndSystemState) where
  -- what an end system is asked to put is of a virtual link that it sends by that port, low
  abbrev IsSent : ℕ → Option PortEvent → Type 0
  IsSent v None = ⊤
  IsSent v (Some Free) = ⊤
  IsSent v (Some (Put frame r)) = IsSentBy w q v 0 r

  copies-sent : (v : ℕ) (end : VlEnd) (was : Found Source) (a : RegAnswer) → source_at w (record { 0 = v }) ≡ Some was → end ≡ was.entry.end →
      IsSent v (or_else (copy_asks q end A a) (copy_asks q end B a))
  copies-sent v end was (answer.Released frame) is same = go (port_of A == q) refl (port_of B == q) refl (is_on end A) refl (is_on end B) refl
    where
      go : (a : Bool) → (port_of A == q) ≡ a → (b : Bool) → (port_of B == q) ≡ b → (c : Bool) → is_on end A ≡ c → (d : Bool) → is_on end B ≡ d →
          IsSent v (or_else (cond (a && c) (Some (copy A frame)) None) (cond (b && d) (Some (copy B frame)) None))
      go true ea b eb true ec d ed = record { found = was; is = is; on = inl (sym (eqb-true (port_of A) q ea), subst (λ z. is_on z A ≡ true) same ec); line_is = refl; low = refl }
      go true ea true eb false ec true ed = record { found = was; is = is; on = inr (sym (eqb-true (port_of B) q eb), subst (λ z. is_on z B ≡ true) same ed); line_is = refl; low = refl }
      go true ea true eb false ec false ed = tt
      go true ea false eb false ec d ed = tt
      go false ea true eb c ec true ed = record { found = was; is = is; on = inr (sym (eqb-true (port_of B) q eb), subst (λ z. is_on z B ≡ true) same ed); line_is = refl; low = refl }
      go false ea true eb c ec false ed = tt
      go false ea false eb c ec d ed = tt
  copies-sent v end was _ is same = tt

  regulated-sent : (vl : VlId) (e : RegEvent) (s : EndSystemState) → AllSources (SameEnd w) (same-end-stays w) s → IsSent vl.0 (regulated_asks q e (source_at s vl))
  regulated-sent vl e s h = go (source_at s vl) refl
    where
      go : (o : Option (Found Source)) → source_at s vl ≡ o → IsSent vl.0 (regulated_asks q e o)
      go None is = tt
      go (Some found) is = let was = h vl.0 found is in copies-sent vl.0 found.entry.end was.0 (regulator.out found.entry.regulator e).answer was.1 was.2

  end-sent : (t : ℕ) (b : Body) (s : EndSystemState) → AllSources (SameEnd w) (same-end-stays w) s → IsSent (subject b) (end_system_asks q t b s)
  end-sent t (body.Offer vl bytes sub) s h = regulated-sent vl (Offer t sub (offered_frame t vl bytes)) s h
  end-sent t (body.Release vl) s h = regulated-sent vl (Release t) s h
  end-sent t (body.PortFree p) s h = go (p == q)
    where
      go : (b : Bool) → IsSent 0 (cond b (Some Free) None)
      go true = tt
      go false = tt
  end-sent t _ s h = tt

-- ---- in the run

module _ (x : Setting NodeState) (L : Laws (simulation_of (rules_of node) x)) (N : IsOfNodes x) (size : ℕ → Sizes) (O : OpensEmpty x size) (p q : ℕ) (inside : p < x.processes) where
  abbrev f : Simulation Message NodeState NodeRecord Note
  f = simulation_of (rules_of node) x

  module _ (byte_ns : ℕ) where
    -- at an end system it is released as it is put
    abbrev pub IsFresh : Equipment → PutFrame → Type 0
    IsFresh (EndSystem s) put = put.frame.released ≡ put.at
    IsFresh _ put = ⊤

    -- the frame put is of a virtual link that goes out there, with its size
    pub record IsPutFit (r : Priority) (put : PutFrame) : Type 0 where
      pub fresh : IsFresh (x.opening p).equipment put
      pub through : IsThrough (x.opening p).equipment q (link_of put) put.line r
      pub sized : IsWithin (size (link_of put)) put.frame.size
      pub passed : (transit : Transit) → transit_of (x.opening p).equipment (link_of put) ≡ Some transit → put.frame.size ≤ transit.smax
      pub cost : put.cost ≡ busy_for put.frame.size byte_ns

    -- and so is what a message asks for
    abbrev AskFits : ℕ → ℕ → Option PortEvent → Type 0
    AskFits t line None = ⊤
    AskFits t line (Some e) = OfAsked IsPutFit byte_ns t line e

    -- what is known of the equipment
    abbrev Known : Equipment → Type 0
    Known (EndSystem s) = AllWaitIn (OfLink size) s × (w : EndSystemState) × ((x.opening p).equipment ≡ EndSystem w) × AllSources (SameEnd w) (same-end-stays w) s
    Known (Switch s) = (w : SwitchState) × ((x.opening p).equipment ≡ Switch w) × AllTransits (SameAs w) (same-as-stays w) s
    Known (Line s) = ⊤

    offer-fit : (t : ℕ) (b : Body) → IsSized size b → IsOfferFit (OfLink size) t b
    offer-fit t (body.Offer vl bytes sub) h = (refl, h)
    offer-fit t _ h = tt

    end-asks : (t v : ℕ) (w : EndSystemState) (o : Option PortEvent) → (x.opening p).equipment ≡ EndSystem w → IsSent q w v o → OfPut (OfLink size) v t o → AskFits t 0 o
    end-asks t v w None is sent put = tt
    end-asks t v w (Some Free) is sent put = tt
    end-asks t v w (Some (Put frame r)) is sent put =
        let link : frame.vl.0 ≡ v = ap (λ (z : Frame). z.vl.0) put.2 ∙ put.1.0 in
        record {
          fresh = subst (λ e. IsFresh e (put_at byte_ns t 0 frame)) (sym is) (ap (λ (z : Frame). z.released) put.2);
          through = subst (λ e. IsThrough e q frame.vl.0 0 r) (sym is) (subst (λ z. IsSentBy w q z 0 r) (sym link) sent);
          sized = subst (λ k. IsWithin (size k) frame.size) (sym link) (subst (IsWithin (size v)) (sym (ap (λ (z : Frame). z.size) put.2)) put.1.1);
          passed = λ transit there. absurd (none-some transit (subst (λ e. transit_of e frame.vl.0 ≡ Some transit) is there));
          cost = refl;
        }

    switch-asks : (t : ℕ) (b : Body) (s w : SwitchState) → (x.opening p).equipment ≡ Switch w → AllTransits (SameAs w) (same-as-stays w) s → IsSized size b →
        ((k : ℕ) (frame : Frame) → b ≡ body.Enqueue k frame → GoesOut (x.opening p).equipment k frame) → AskFits t (input_of b (Switch s)) (switch_asks q b s)
    switch-asks t (body.PortFree k) s w is same sized out = go (k == q)
      where
        go : (b : Bool) → AskFits t 0 (cond b (Some Free) None)
        go true = tt
        go false = tt
    switch-asks t (body.Enqueue k frame) s w is same sized out = go (k == q) refl (transit_at s frame.vl) refl
      where
        go : (b : Bool) → (k == q) ≡ b → (o : Option (Found Transit)) → transit_at s frame.vl ≡ o →
            AskFits t (option_map_or (λ (found : Found Transit). found.entry.input) o 0) (cond b (option_map (λ (found : Found Transit). Put frame found.entry.priority) o) None)
        go true e None here = tt
        go true e (Some found) here =
            let was = same frame.vl found here in
            let goes = subst (λ z. GoesOut z k frame) is (out k frame refl) in
            let one : goes.0 ≡ was.0 = same_Some goes.0 was.0 (sym goes.1 ∙ was.1) in
            record {
              fresh = subst (λ z. IsFresh z (put_at byte_ns t found.entry.input frame)) (sym is) tt;
              through = subst (λ z. IsThrough z q frame.vl.0 found.entry.input found.entry.priority) (sym is) (record {
                transit = was.0;
                is = was.1;
                out = subst (λ z. IsAmong z (outputs_of was.0)) (eqb-true k q e) (subst (λ z. IsAmong k (outputs_of z)) one goes.2);
                line_is = ap (λ (z : Transit). z.input) was.2;
                priority_is = ap (λ (z : Transit). z.priority) was.2;
              });
              sized = sized;
              passed = λ transit there. subst (λ z. frame.size ≤ z.smax) (same_Some goes.0 transit (sym goes.1 ∙ subst (λ z. transit_of z frame.vl.0 ≡ Some transit) is there)) goes.3;
              cost = refl;
            }
        go false e o here = tt
    switch-asks t _ s w is same sized out = tt

    node-asks-fit : (m : Message) (e : Equipment) → m.receiver ≡ p → IsFit x L N size O m → Known e → AskFits m.time (input_of m.body e) (asks q m e)
    node-asks-fit m (EndSystem s) to fit k =
        let keeps = source-keeps (OfLink size) 0 m.time q m.body s (offer-fit m.time m.body fit.0) k.0 in
        end-asks m.time (subject m.body) k.1 (end_system_asks q m.time m.body s) k.2 (end-sent q k.1 m.time m.body s k.3) keeps.put
    node-asks-fit m (Switch s) to fit k = switch-asks m.time m.body s k.0 k.1 k.2 fit.0 (λ i frame e. goes i frame e)
      where
        goes : (i : ℕ) (frame : Frame) → m.body ≡ body.Enqueue i frame → GoesOut (x.opening p).equipment i frame
        goes i frame e = subst (λ z. GoesOut (x.opening z).equipment i frame) to (subst (λ b. IsOut x L N size O m.receiver b) e fit.1)
    node-asks-fit m (Line s) to fit k = tt

    known-stays : (n : ℕ) (m : Message) (e : Equipment) → IsFit x L N size O m → Known e → Known (handled n m e).equipment
    known-stays n m (EndSystem s) fit k = (
      (source-keeps (OfLink size) n m.time q m.body s (offer-fit m.time m.body fit.0) k.0).waiting,
      k.1,
      k.2,
      sources-stay (SameEnd k.1) (same-end-stays k.1) n m.time m.body s k.3,
    )
    known-stays n m (Switch s) fit k = (k.0, k.1, transits-stay (SameAs k.0) (same-as-stays k.0) n m.time m.body s k.2)
    known-stays n m (Line s) fit k = tt

    known-first : (e : Equipment) → (x.opening p).equipment ≡ e → HaveEmptyRegulators e → Known e
    known-first (EndSystem s) is h = (none-waits size s.sources h, s, is, λ v found here. (found, here, refl))
    known-first (Switch s) is h = (s, is, same-as-first s)
    known-first (Line s) is h = tt

    events-fit : (s : NodeState) (ms : List Message) → AreTo p ms → All (IsFit x L N size O) ms → Known s.equipment → Every (λ e. OfAsked IsPutFit byte_ns e.at e.line e.event) (port_events q s ms)
    events-fit s [] to fit k = tt
    events-fit s (m ∷ ms) to fit k =
        go (asks q m s.equipment) (node-asks-fit m s.equipment to.0 (All-head (IsFit x L N size O) m ms fit) k)
        (events-fit (after s m) ms to.1 (All-tail (IsFit x L N size O) m ms fit) (known-stays s.sender.number m s.equipment (All-head (IsFit x L N size O) m ms fit) k))
      where
        go : (o : Option PortEvent) → AskFits m.time (input_of m.body s.equipment) o → Every (λ e. OfAsked IsPutFit byte_ns e.at e.line e.event) (port_events q (after s m) ms) →
            Every (λ e. OfAsked IsPutFit byte_ns e.at e.line e.event) (asked_at m.time (input_of m.body s.equipment) o ++ port_events q (after s m) ms)
        go None h rest = rest
        go (Some e) h rest = (h, rest)

    -- in the trace of the port
    pub puts-fit : (port : PortState) (n : ℕ) → AllPuts IsPutFit byte_ns (trace_of byte_ns port (port_events q (x.opening p) (events f n p)))
    puts-fit port n = trace-puts IsPutFit byte_ns port (port_events q (x.opening p) (events f n p))
        (events-fit (x.opening p) (events f n p) (events-to p (one f n).handled) (all-fit x L N size O n p) (known-first (x.opening p).equipment refl (O.regulators p inside)))
