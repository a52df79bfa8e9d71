-- Lines without outages can run ahead in the simulation of a network.
use Rattle.std.proofs.Common.{◌≡◌, ℕ, ◌+◌, ◌-◌, ◌<◌, ◌==◌, Bool, true, false, cond, inl, inr, List, [], ◌∷◌, filter, length, All, Option, None, Some, slice_get, refl, sym, ap, ◌∙◌, subst, arith, eqb-true, ne_eqb}
use Rattle.std.specs.List.{list_any}
use Rattle.std.specs.Option.{option_map_or}
use Rattle.std.proofs.lemmas.Bool.{cases_Bool}
use Rattle.std.proofs.lemmas.List.Elements.{All-contains, All-cons, All-head, All-nil, All-tail, All-weaker}
use Rattle.std.proofs.lemmas.Option.{slice_get_within}
use Rattle.vlink.specs.declared.message.Message.{Message}
use Rattle.vlink.specs.declared.message.Body.{Body}
use Rattle.vlink.specs.declared.message.Body.TheVariants as body
use Rattle.vlink.specs.declared.note.Note.{Note}
use Rattle.vlink.specs.declared.note.Cause.TheVariants as cause
use Rattle.reverse.specs.Sending.{Wish, loss}
use Rattle.reverse.proofs.Members.{in-all}
use Rattle.virtual_time.specs.Law.{IsAscending, IsIn, IsReached, Laws, Simulation, events}
use Rattle.timers.specs.Channel.{IsChannel}
use Rattle.runs_ahead.specs.Standing.{RunAhead}
use Rattle.row_types.specs.declared.rows.NodeKind.{NodeKind}
use Rattle.row_types.specs.declared.rows.NodeKind.TheVariants as kind
use Rattle.network.specs.declared.wiring.LinePlan.{LinePlan}
use Rattle.network.specs.Words.{Plan, NodePlan, IsAccepted, lines_of, source_of}
use Rattle.network.proofs.BuildLemmas.{line-read}
use Rattle.network.proofs.SourceLemmas.{HasSource, all-have, end-system-below, end-system-is}
use Rattle.traffic.specs.Offers.{offers_of}
use Rattle.nodes.specs.declared.equipment.Equipment.TheVariants.{Line}
use Rattle.nodes.specs.declared.node.NodeRecord.{NodeRecord}
use Rattle.nodes.specs.laws.Sent.{sent-all}
use Rattle.nodes.specs.rules.Line.{LineState, is_within, line}
use Rattle.nodes.specs.rules.Node.{NodeState, handled, sends}
use Rattle.nodes.specs.rules.Opening.{equipment_opening, line_opening, node_opening, opening}
use Rattle.nodes.specs.Words.{simulation_of}
use Rattle.port_turns.specs.Nodes.{IsOfNodes}
use Rattle.port_turns.proofs.Arriving.{carry-channel, line-stays}
use Rattle.port_turns.proofs.Carrying.{is_carry}
use Rattle.port_turns.proofs.SentKinds.{is_to}
use Rattle.plan_ports.specs.Links.{AreOffers, IsOfferOf}
use Rattle.plan_ports.specs.Outlets.{AreWays, IsLineWay}
use Rattle.seqsim.specs.Networks.{setting_of}
use Rattle.actor_run.specs.RunningAhead.{is_marked}
use Rattle.seq_tables.specs.Lines.{AreMarked, IsOpenLine, starts_of}
use Rattle.seq_tables.proofs.Carries.{Apart, all-carried, apart-reached, same-kind, sends-carried}

-- ---- a line without outages

none-noted : (l : LineState) → l.outages ≡ [] → (t : ℕ) (b : Body) → (line t b l).notes ≡ []
none-noted l e t (body.Offer vl size sub) = refl
none-noted l e t (body.Release vl) = refl
none-noted l e t (body.PortFree k) = refl
none-noted l e t (body.Arrive k frame) = refl
none-noted l e t (body.Enqueue k frame) = refl
none-noted l e t (body.Carry frame) = rw e refl

-- what a line sends goes to the node at its end
wishes-on : (l : LineState) (t : ℕ) (b : Body) → All (λ w. w.receiver ≡ l.to) (line t b l).wishes
wishes-on l t (body.Offer vl size sub) = All-nil (λ (w : Wish). w.receiver ≡ l.to)
wishes-on l t (body.Release vl) = All-nil (λ (w : Wish). w.receiver ≡ l.to)
wishes-on l t (body.PortFree k) = All-nil (λ (w : Wish). w.receiver ≡ l.to)
wishes-on l t (body.Arrive k frame) = All-nil (λ (w : Wish). w.receiver ≡ l.to)
wishes-on l t (body.Enqueue k frame) = All-nil (λ (w : Wish). w.receiver ≡ l.to)
wishes-on l t (body.Carry frame) = go (list_any (is_within t) l.outages)
  where
    go : (b : Bool) → All (λ w. w.receiver ≡ l.to) (cond b (loss cause.Outage frame) (record { wishes = record { time = t + l.propagation; receiver = l.to; body = body.Arrive l.to_port frame } ∷ []; notes = [] })).wishes
    go true = All-nil (λ (w : Wish). w.receiver ≡ l.to)
    go false = All-cons (λ (w : Wish). w.receiver ≡ l.to) _ [] refl (All-nil (λ (w : Wish). w.receiver ≡ l.to))

sends-on : (l : LineState) (s : NodeState) → s.equipment ≡ Line l → (m : Message) → All (λ x. x.receiver ≡ l.to) (sends s m)
sends-on l s is m =
    let wishes = subst (λ e. All (λ w. w.receiver ≡ l.to) (handled s.sender.number m e).reply.wishes) (sym is) (wishes-on l m.time m.body) in
    sent-all (λ x. x.receiver ≡ l.to) s.sender (handled s.sender.number m s.equipment).reply.wishes (λ k d i n timely. wishes k _ i)

module _ (plan : Plan) (accepted : IsAccepted plan) (L : Laws (simulation_of plan)) (N : IsOfNodes (setting_of plan)) (W : AreWays plan) (O : AreOffers plan) where
  abbrev f : Simulation Message NodeState NodeRecord Note
  f = simulation_of plan

  -- offers go to nodes
  offers-below : All (λ m. m.receiver < length plan.nodes) (offers_of plan)
  offers-below = All-weaker (IsOfferOf plan) (λ m. m.receiver < length plan.nodes)
      (λ m o. end-system-below plan.nodes m.receiver (end-system-is plan.nodes (source_of o.vl) m.receiver (All-contains (HasSource plan.nodes) plan.vls o.vl (all-have plan accepted) o.is_vl) o.to_source))
      (offers_of plan) O

  module _ (p : ℕ) (o : IsOpenLine plan p) where
    way : IsLineWay plan o.k o.line
    way = W o.k o.line o.read

    abbrev state : LineState
    state = line_opening plan o.k (Some o.line)

    is-line : (opening plan p).equipment ≡ Line state
    is-line = subst (λ q. (opening plan q).equipment ≡ Line state) (sym o.process) way.way.line_is

    starts-are : starts_of plan p ≡ o.line.from
    starts-are =
        let place : p - length plan.nodes ≡ o.k = let e = o.process in omega arith in
        ap (λ k. option_map_or (λ (l : LinePlan). l.from) (slice_get (lines_of plan) k) 0) place ∙ ap (λ l. option_map_or (λ (l : LinePlan). l.from) l 0) o.read

    pub from-below : starts_of plan p < length plan.nodes
    from-below = let a = starts-are in let b = (line-read plan o.k o.line accepted o.read).0 in omega arith

    to-below : o.line.to < length plan.nodes
    to-below = (line-read plan o.k o.line accepted o.read).1

    -- at first each process is a node, which is not the line, or a line to a node
    apart-line : (q : ℕ) (l : Option LinePlan) → slice_get (lines_of plan) q ≡ l → (line_opening plan q l).to ≡ p → ⊥
    apart-line q (Some l) e to = let a = (line-read plan q l accepted e).1 in let b = o.process in omega arith
    apart-line q None e to = let a = from-below in let b = o.process in omega arith

    apart-kind : (q bytes : ℕ) → q < length plan.nodes → (which : NodeKind) → Apart p q (node_opening plan q bytes which)
    apart-kind q bytes below kind.EndSystem = λ e. let b = o.process in omega arith
    apart-kind q bytes below (kind.Switch net latency_ns) = λ e. let b = o.process in omega arith

    apart-node : (q : ℕ) (at : Option NodePlan) → slice_get plan.nodes q ≡ at → Apart p q (equipment_opening plan q at)
    apart-node q (Some node) e = apart-kind q node.port_bytes (slice_get_within plan.nodes q node e) node.kind
    apart-node q None e = apart-line (q - length plan.nodes) (slice_get (lines_of plan) (q - length plan.nodes)) refl

    apart-opening : (q : ℕ) → Apart p q (opening plan q).equipment
    apart-opening q = apart-node q (slice_get plan.nodes q) refl

    -- and so it is later
    apart : (q : ℕ) (s : NodeState) → IsReached f q s → Apart p s.sender.number s.equipment
    apart q s h = subst (λ (z : NodeState). Apart p z.sender.number z.equipment) (sym h.1) (apart-reached p (opening plan q) h.0 (apart-opening q))

    carried : IsChannel f o.line.from p (is_to is_carry p)
    carried = subst (λ q. IsChannel f o.line.from q (is_to is_carry q)) (sym o.process)
        (carry-channel (setting_of plan) L o.line.from o.line.from_port _ o.line.to o.line.to_port way.from_below way.line_below N way.outlet state way.way)

    none-offered : (ms : List Message) → All (λ m. m.receiver < length plan.nodes) ms → filter (λ m. m.receiver == p) ms ≡ []
    none-offered [] h = refl
    none-offered (m ∷ ms) h =
        let apart : (m.receiver == p) ≡ false = ne_eqb m.receiver p (λ e. let a = All-head (λ (m : Message). m.receiver < length plan.nodes) m ms h in let b = o.process in omega arith) in
        rw apart (none-offered ms (All-tail (λ (m : Message). m.receiver < length plan.nodes) m ms h))

    -- all that goes to the line is a channel
    pub its-channel : IsChannel f o.line.from p (λ m. m.receiver == p)
    its-channel =
        let c = carried in
        record {
          to = λ m e. eqb-true m.receiver p e;
          by_none = λ q i d s h m. same-kind p (sends s m) (sends-carried p s m (apart q s h)) ∙ c.by_none q i d s h m;
          not_offered = none-offered (offers_of plan) offers-below;
          rises = λ n. subst (IsAscending f.rules.order) (sym (same-kind p _ (all-carried p (opening plan o.line.from) (events f n o.line.from) (apart-opening o.line.from)))) (c.rises n);
        }

    pub channel : IsChannel f (starts_of plan p) p (λ m. m.receiver == p)
    channel = subst (λ q. IsChannel f q p (λ m. m.receiver == p)) (sym starts-are) its-channel

    stays-line : (s : NodeState) → IsReached f p s → s.equipment ≡ Line state
    stays-line s h = ap (λ (z : NodeState). z.equipment) h.1 ∙ line-stays state (opening plan p) h.0 is-line

    pub notes-nothing : (s : NodeState) → IsReached f p s → (m : Message) → f.rules.notes s m ≡ []
    notes-nothing s h m = subst (λ e. (handled s.sender.number m e).reply.notes ≡ []) (sym (stays-line s h)) (none-noted state o.is_open m.time m.body)

    pub sends-to-node : (s : NodeState) → IsReached f p s → (e m : Message) → IsIn f.rules.order m (f.rules.sends s e) → m.receiver < length plan.nodes
    sends-to-node s h e m i =
        let a = in-all f.rules.order L.order (λ x. x.receiver ≡ state.to) m (sends s e) (sends-on state s (stays-line s h) e) i in
        let b = to-below in
        omega arith

    pub inside : p < f.processes
    inside = let a = way.line_below in let b = o.process in omega arith

    pub from-inside : starts_of plan p < f.processes
    from-inside = let a = way.from_below in let b = starts-are in omega arith

  -- a node does not run ahead
  unmarked : (marks : List Bool) → AreMarked plan marks → (q : ℕ) → q < length plan.nodes → is_marked marks q ≡ false
  unmarked marks M q below = elim (cases_Bool (is_marked marks q)) [
    | inl h ↦ absurd (let o = M.lines q h in let e = o.process in omega (arith, below))
    | inr h ↦ h
  ]

  pub run-ahead : (marks : List Bool) → AreMarked plan marks → RunAhead f (is_marked marks) (starts_of plan)
  run-ahead marks M = record {
    inside = λ k h. inside k (M.lines k h);
    from_inside = λ k h. from-inside k (M.lines k h);
    from_behind = λ k h. unmarked marks M (starts_of plan k) (from-below k (M.lines k h));
    channel = λ k h. channel k (M.lines k h);
    notes_nothing = λ k h s r m. notes-nothing k (M.lines k h) s r m;
    sends_behind = λ k h s r e m i. unmarked marks M m.receiver (sends-to-node k (M.lines k h) s r e m i);
  }
