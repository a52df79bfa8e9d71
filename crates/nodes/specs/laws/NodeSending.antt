-- For proofs alone: what a node sends, by its fixed parts, and that these stay.
use Rattle.std.proofs.Common.{◌≡◌, ℕ, ◌+◌, ◌*◌, ◌<◌, ◌≤◌, Bool, true, false, cond, [], ◌∷◌, Option, None, Some, IfSome, All, sym, subst, mul-pos, arith}
use Rattle.std.specs.List.{list_any}
use Rattle.std.proofs.lemmas.List.Elements.{All-nil, All-cons, All-weaker}
use Rattle.vlink.specs.declared.frame.Frame.{Frame}
use Rattle.vlink.specs.declared.frame.VlId.{VlId}
use Rattle.vlink.specs.declared.message.Message.{Message}
use Rattle.vlink.specs.declared.message.Body.{Body}
use Rattle.vlink.specs.declared.message.Body.TheVariants.{Offer, Release, PortFree, Arrive, Enqueue, Carry}
use Rattle.vlink.specs.declared.note.Cause.TheVariants as cause
use Rattle.bag_regulator.specs.Regulator.{regulator}
use Rattle.bag_regulator.specs.Spacing.{moment_of}
use Rattle.bag_regulator.specs.declared.event.RegEvent.{RegEvent}
use Rattle.nodes.specs.declared.ports.Outlet.{Outlet}
use Rattle.nodes.specs.declared.ports.LineAhead.{LineAhead}
use Rattle.nodes.specs.declared.equipment.Equipment.{Equipment}
use Rattle.nodes.specs.declared.equipment.Equipment.TheVariants.{EndSystem, Switch, Line}
use Rattle.reverse.specs.Sending.{Wish, Reply, loss}
use Rattle.nodes.specs.rules.Ports.{PortsState}
use Rattle.nodes.specs.declared.source.Source.{Source}
use Rattle.nodes.specs.rules.Finding.{Found}
use Rattle.nodes.specs.rules.EndSystem.{source_at, source_number}
use Rattle.nodes.specs.rules.Line.{LineState, line, is_within}
use Rattle.nodes.specs.rules.Node.{NodeState, handled, after, sends}
use Rattle.nodes.specs.rules.Placed.{AllAhead, IsPlaced, IsPlacedEquipment, IsWired, IsWiredEquipment}
use Rattle.nodes.specs.laws.Places.{All-there, found-there}
use Rattle.nodes.specs.laws.Replies.{IsQuiet, silent-quiet, loss-quiet, quiet-all}
use Rattle.nodes.specs.laws.Sent.{sent-all}
use Rattle.nodes.specs.laws.Ports.{AheadMeets}
use Rattle.nodes.specs.laws.Regulator.{release-later}
use Rattle.nodes.specs.laws.EndSystemSending.{end_system-lines_ahead, end_system-bags, end_system-all}
use Rattle.nodes.specs.laws.SwitchSending.{wish_to, switch-stays, switch-all}

-- what a frame asks to be sent that leaves a line
abbrev arrival : ℕ → Frame → LineState → Wish
arrival t frame s = record { time = t + s.propagation; receiver = s.to; body = Arrive s.to_port frame }

line-cases : (K : Reply → Type 0) (t : ℕ) (b : Body) (s : LineState) → ((r : Reply) → IsQuiet r → K r) →
    ((frame : Frame) → K (record { wishes = arrival t frame s ∷ []; notes = [] })) → K (line t b s)
line-cases K t (Carry frame) s quiet arrives = go (list_any (is_within t) s.outages)
  where
    go : (b : Bool) → K (cond b (loss cause.Outage frame) (record { wishes = arrival t frame s ∷ []; notes = [] }))
    go true = quiet (loss cause.Outage frame) (loss-quiet cause.Outage frame)
    go false = arrives frame
line-cases K t (Offer vl size sub) s quiet arrives = quiet _ silent-quiet
line-cases K t (Release vl) s quiet arrives = quiet _ silent-quiet
line-cases K t (PortFree q) s quiet arrives = quiet _ silent-quiet
line-cases K t (Arrive q frame) s quiet arrives = quiet _ silent-quiet
line-cases K t (Enqueue q frame) s quiet arrives = quiet _ silent-quiet

-- what the equipment of node n can send at moment t has P
abbrev Meets : (Wish → Type 0) → ℕ → ℕ → Equipment → Type 0
Meets P n t (EndSystem s) =
    AllAhead (AheadMeets P n t) s.ports × ((vl : VlId) (e : RegEvent) (found : Found Source) → moment_of e ≡ t → source_at s vl ≡ Some found →
    IfSome (regulator.out found.entry.regulator e).release_at (λ at. P (record { time = at; receiver = n; body = Release found.entry.end.vl })))
Meets P n t (Switch s) = AllAhead (AheadMeets P n t) s.ports × ((q : ℕ) (frame : Frame) → P (wish_to n (t + s.latency) frame q))
Meets P n t (Line s) = (frame : Frame) → P (arrival t frame s)

handled-all : (P : Wish → Type 0) (n : ℕ) (m : Message) (p : Equipment) → Meets P n m.time p → All P (handled n m p).reply.wishes
handled-all P n m (EndSystem s) h = end_system-all P n m.time m.body s h.0 h.1
handled-all P n m (Switch s) h = switch-all P n m.time m.body s h.0 h.1
handled-all P n m (Line s) h =
    line-cases (λ r. All P r.wishes) m.time m.body s (quiet-all P) (λ frame. All-cons P (arrival m.time frame s) [] (h frame) (All-nil P))

lines_ahead-weaker : (P Q : LineAhead → Type 0) → ((ahead : LineAhead) → P ahead → Q ahead) → (ports : PortsState) → AllAhead P ports → AllAhead Q ports
lines_ahead-weaker P Q f ports h = All-weaker (λ slot. IfSome slot (λ outlet. P outlet.ahead)) (λ slot. IfSome slot (λ outlet. Q outlet.ahead)) go ports h
  where
    go : (o : Option Outlet) → IfSome o (λ x. P x.ahead) → IfSome o (λ x. Q x.ahead)
    go None p = tt
    go (Some outlet) p = f outlet.ahead p

-- a frame that starts into a line where a byte takes at least 1 ns
ahead-later : (n t : ℕ) (ahead : LineAhead) → 1 ≤ ahead.byte_ns → AheadMeets (λ w. t < w.time) n t ahead
ahead-later n t ahead h q frame =
    let last : 1 ≤ (frame.size + 8) * ahead.byte_ns = mul-pos (omega arith) h in
    let busy : 1 ≤ (frame.size + 20) * ahead.byte_ns = mul-pos (omega arith) h in
    (omega (arith, last), omega (arith, busy))

lines_ahead-later : (n t : ℕ) (ports : PortsState) → AllAhead (λ ahead. 1 ≤ ahead.byte_ns) ports → AllAhead (AheadMeets (λ w. t < w.time) n t) ports
lines_ahead-later n t ports = lines_ahead-weaker (λ ahead. 1 ≤ ahead.byte_ns) (AheadMeets (λ w. t < w.time) n t) (ahead-later n t) ports

equipment-later : (n t : ℕ) (p : Equipment) → IsPlacedEquipment p → Meets (λ w. t < w.time) n t p
equipment-later n t (EndSystem s) h = (lines_ahead-later n t s.ports h.0, asks)
  where
    asks : (vl : VlId) (e : RegEvent) (found : Found Source) → moment_of e ≡ t → source_at s vl ≡ Some found →
        IfSome (regulator.out found.entry.regulator e).release_at (λ at. t < at)
    asks vl e found m is =
        let g = found.entry.regulator in
        let bag = All-there (λ (source : Source). 1 ≤ source.regulator.bag) s.sources found.place found.entry h.1 (found-there source_number s.sources vl.0 found is) in
        subst (λ t. IfSome (regulator.out g e).release_at (λ at. t < at)) m (release-later g e bag)
equipment-later n t (Switch s) h = (lines_ahead-later n t s.ports h.0, λ q frame. omega (arith, h.1))
equipment-later n t (Line s) h = λ frame. omega (arith, h)

-- what is sent is later than the event
pub sends-later : (s : NodeState) (m : Message) → IsPlaced s → All (λ x. m.time < x.time) (sends s m)
sends-later s m h =
    let wishes = handled-all (λ w. m.time < w.time) s.sender.number m s.equipment (equipment-later s.sender.number m.time s.equipment h) in
    sent-all (λ x. m.time < x.time) s.sender (handled s.sender.number m s.equipment).reply.wishes (λ k d l n timely. wishes k _ l)

-- and goes to processes that there are
equipment-near : (processes n t : ℕ) (p : Equipment) → n < processes → IsWiredEquipment processes p → Meets (λ w. w.receiver < processes) n t p
equipment-near processes n t (EndSystem s) g h = (
  lines_ahead-weaker (λ ahead. ahead.line < processes) (AheadMeets (λ w. w.receiver < processes) n t) (λ ahead l q frame. (l, g)) s.ports h,
  λ vl e found m is. asks (regulator.out found.entry.regulator e).release_at,
)
  where
    asks : (ask : Option ℕ) → IfSome ask (λ at. n < processes)
    asks None = tt
    asks (Some at) = g
equipment-near processes n t (Switch s) g h =
    (lines_ahead-weaker (λ ahead. ahead.line < processes) (AheadMeets (λ w. w.receiver < processes) n t) (λ ahead l q frame. (l, g)) s.ports h, λ q frame. g)
equipment-near processes n t (Line s) g h = λ frame. h

pub sends-near : (processes : ℕ) (s : NodeState) (m : Message) → IsWired processes s → All (λ x. x.receiver < processes) (sends s m)
sends-near processes s m h =
    let wishes = handled-all (λ w. w.receiver < processes) s.sender.number m s.equipment (equipment-near processes s.sender.number m.time s.equipment h.0 h.1) in
    sent-all (λ x. x.receiver < processes) s.sender (handled s.sender.number m s.equipment).reply.wishes (λ k d l n timely. wishes k _ l)

-- an event changes none of the fixed parts
pub place-stays : (s : NodeState) (m : Message) → IsPlaced s → IsPlaced (after s m)
place-stays s m = go s.equipment
  where
    go : (p : Equipment) → IsPlacedEquipment p → IsPlacedEquipment (handled s.sender.number m p).equipment
    go (EndSystem s') h = (
      end_system-lines_ahead (λ ahead. 1 ≤ ahead.byte_ns) s.sender.number m.time m.body s' h.0,
      end_system-bags (λ bag. 1 ≤ bag) s.sender.number m.time m.body s' h.1,
    )
    go (Switch s') h =
        let stays = switch-stays (λ ahead. 1 ≤ ahead.byte_ns) s.sender.number m.time m.body s' h.0 in
        (stays.lines_ahead, subst (λ n. 1 ≤ n) (sym stays.latency) h.1)
    go (Line s') h = h

pub wiring-stays : (processes : ℕ) (s : NodeState) (m : Message) → IsWired processes s → IsWired processes (after s m)
wiring-stays processes s m h = (h.0, go s.equipment h.1)
  where
    go : (p : Equipment) → IsWiredEquipment processes p → IsWiredEquipment processes (handled s.sender.number m p).equipment
    go (EndSystem s') h = end_system-lines_ahead (λ ahead. ahead.line < processes) s.sender.number m.time m.body s' h
    go (Switch s') h = (switch-stays (λ ahead. ahead.line < processes) s.sender.number m.time m.body s' h).lines_ahead
    go (Line s') h = h
