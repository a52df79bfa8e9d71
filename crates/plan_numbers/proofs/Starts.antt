-- The frames that start at the ports of a node, and the messages that this makes it send.
use Rattle.std.proofs.Common.{◌≡◌, ℕ, ◌+◌, ◌*◌, ◌<◌, ◌≤◌, List, [], ◌∷◌, ◌++◌, length, Option, Some, None, option_map, refl, ap, ◌∙◌, arith, length-append}
use Rattle.vlink.specs.declared.message.Message.{Message}
use Rattle.vlink.specs.declared.message.Body.{Body}
use Rattle.reverse.specs.Rules.{rules_of}
use Rattle.reverse.specs.Setting.{Setting}
use Rattle.virtual_time.specs.Law.{reached, sent}
use Rattle.output_port.specs.Port.{port}
use Rattle.output_port.specs.declared.event.PortEvent.{PortEvent}
use Rattle.output_port.specs.declared.event.PortEvent.TheVariants.{Put, Free}
use Rattle.output_port.specs.declared.event.PortAnswer.{PortAnswer}
use Rattle.output_port.specs.declared.event.PortAnswer.TheVariants as answer
use Rattle.nodes.specs.declared.equipment.Equipment.{Equipment}
use Rattle.nodes.specs.declared.ports.LineAhead.{LineAhead}
use Rattle.nodes.specs.declared.ports.Outlet.{Outlet}
use Rattle.nodes.specs.rules.Node.{NodeState, after, sends}
use Rattle.nodes.specs.rules.Ports.{answered, reply_at}
use Rattle.nodes.specs.undoing.Node.{node}
use Rattle.port_bounds.specs.Port.{idle}
use Rattle.element_bounds.specs.PortTrace.{IsSamePort, started_by, started_of}
use Rattle.port_turns.specs.PortEvents.{asks, done_at, outlet_in}
use Rattle.port_turns.specs.PortRuns.{asked_at, input_of, port_events}
use Rattle.port_turns.proofs.Asking.{node-asks}

-- a node has at most 24 ports; when the run begins they are idle, and a byte takes at least 1 ns on the line behind each
pub record HasFewPorts (x : Setting NodeState) (p : ℕ) : Type 0 where
  pub within : (q : ℕ) (outlet : Outlet) → outlet_in (x.opening p).equipment q ≡ Some outlet → q < 24
  pub empty : (q : ℕ) (outlet : Outlet) → outlet_in (x.opening p).equipment q ≡ Some outlet → IsSamePort outlet.port idle
  pub slow : (q : ℕ) (outlet : Outlet) → outlet_in (x.opening p).equipment q ≡ Some outlet → 1 ≤ outlet.ahead.byte_ns

abbrev pub message : ℕ → ℕ → ℕ → ℕ → Body → Message
message t r s k b = record { time = t; receiver = r; sender = s; number = k; body = b }

-- ---- one event: a port sends two messages if it starts a frame, and else none

abbrev pub is_start : PortAnswer → ℕ
is_start (answer.Started frame) = 1
is_start answer.Kept = 0
is_start answer.Dropped = 0
is_start answer.Idle = 0
is_start answer.Nothing = 0

abbrev pub starts_one : Option PortEvent → Option Outlet → ℕ
starts_one None o = 0
starts_one (Some e) None = 0
starts_one (Some e) (Some outlet) = is_start (port.out outlet.port e)

answered-few : (n t q : ℕ) (ahead : LineAhead) (e : PortEvent) (a : PortAnswer) → length (answered n t q ahead e a).wishes ≤ 2 * is_start a
answered-few n t q ahead (Put frame r) (answer.Started f) = omega arith
answered-few n t q ahead (Put frame r) answer.Kept = omega arith
answered-few n t q ahead (Put frame r) answer.Dropped = omega arith
answered-few n t q ahead (Put frame r) answer.Idle = omega arith
answered-few n t q ahead (Put frame r) answer.Nothing = omega arith
answered-few n t q ahead Free (answer.Started f) = omega arith
answered-few n t q ahead Free answer.Kept = omega arith
answered-few n t q ahead Free answer.Dropped = omega arith
answered-few n t q ahead Free answer.Idle = omega arith
answered-few n t q ahead Free answer.Nothing = omega arith

pub reply-few : (n t q : ℕ) (e : PortEvent) (o : Option Outlet) → length (reply_at n t q e o).wishes ≤ 2 * starts_one (Some e) o
reply-few n t q e None = omega arith
reply-few n t q e (Some outlet) = answered-few n t q outlet.ahead e (port.out outlet.port e)

-- ---- many events

-- whether message m starts a frame at port q
abbrev pub start_at : Message → Equipment → ℕ → ℕ
start_at m e q = starts_one (asks q m e) (outlet_in e q)

-- how many frames messages start there, one after another
abbrev pub starts_in : ℕ → NodeState → List Message → ℕ
starts_in q s [] = 0
starts_in q s (m ∷ ms) = start_at m s.equipment q + starts_in q (after s m) ms

-- at a port that is not there none starts
pub starts-none : (q : ℕ) (s : NodeState) (ms : List Message) → outlet_in s.equipment q ≡ None → starts_in q s ms ≡ 0
starts-none q s [] e = refl
starts-none q s (m ∷ ms) e =
    let next : outlet_in (after s m).equipment q ≡ None = node-asks s.sender.number q m s.equipment ∙ ap (option_map (done_at (asks q m s.equipment))) e in
    let rest = starts-none q (after s m) ms next in
    let none : start_at m s.equipment q ≡ 0 = ap (starts_one (asks q m s.equipment)) e ∙ by (asks q m s.equipment) in
    omega arith
  where
    by : (o : Option PortEvent) → starts_one o None ≡ 0
    by None = refl
    by (Some e) = refl

-- else those start that the port starts by its own rules
pub starts-are : (q : ℕ) (s : NodeState) (ms : List Message) (outlet : Outlet) → outlet_in s.equipment q ≡ Some outlet → starts_in q s ms ≡ length (started_of outlet.port (port_events q s ms))
starts-are q s [] outlet is = refl
starts-are q s (m ∷ ms) outlet is =
    ap (λ z. starts_one (asks q m s.equipment) z + starts_in q (after s m) ms) is ∙
    go (asks q m s.equipment) (node-asks s.sender.number q m s.equipment ∙ ap (option_map (done_at (asks q m s.equipment))) is) (λ o e. starts-are q (after s m) ms o e)
  where
    one : (t : ℕ) (a : PortAnswer) → length (started_by t a) ≡ is_start a
    one t (answer.Started frame) = refl
    one t answer.Kept = refl
    one t answer.Dropped = refl
    one t answer.Idle = refl
    one t answer.Nothing = refl

    go : (o : Option PortEvent) → outlet_in (after s m).equipment q ≡ Some (done_at o outlet) →
        ((next : Outlet) → outlet_in (after s m).equipment q ≡ Some next → starts_in q (after s m) ms ≡ length (started_of next.port (port_events q (after s m) ms))) →
        starts_one o (Some outlet) + starts_in q (after s m) ms ≡ length (started_of outlet.port (asked_at m.time (input_of m.body s.equipment) o ++ port_events q (after s m) ms))
    go None e ih = let r = ih outlet e in omega arith
    go (Some e) now ih =
        let rest = ih (done_at (Some e) outlet) now in
        let a = length-append (started_by m.time (port.out outlet.port e)) (started_of (port.after outlet.port e) (port_events q (after s m) ms)) in
        let b = one m.time (port.out outlet.port e) in
        omega arith

-- the counter of a process counts what it has sent
pub counter-is : (s : NodeState) (ms : List Message) → (reached (rules_of node) s ms).sender.counter ≡ s.sender.counter + length (sent (rules_of node) s ms)
counter-is s [] = omega arith
counter-is s (m ∷ ms) =
    let rest = counter-is (after s m) ms in
    let a = length-append (sends s m) (sent (rules_of node) (after s m) ms) in
    omega arith
