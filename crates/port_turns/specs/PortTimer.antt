-- The timer of a port: PortFree, which comes when the frame in transmission and its gap have left.
use Rattle.std.specs.Prelude.{◌≡◌, ℕ, ◌<◌, ◌==◌, Bool, true, false, if◌then◌else◌, List, [], ◌∷◌, filter, Option, Some, None}
use Rattle.vlink.specs.declared.message.Message.{Message}
use Rattle.vlink.specs.declared.message.Body.{Body}
use Rattle.vlink.specs.declared.message.Body.TheVariants.{PortFree}
use Rattle.reverse.specs.Sending.{Wish}
use Rattle.reverse.specs.Rules.{rules_of}
use Rattle.reverse.specs.Setting.{Setting, simulation_of}
use Rattle.virtual_time.specs.Law.{Laws, events}
use Rattle.output_port.specs.Port.{PortState}
use Rattle.nodes.specs.declared.equipment.Equipment.{Equipment}
use Rattle.nodes.specs.rules.Node.{NodeState, handled, port_in}
use Rattle.nodes.specs.undoing.Node.{node}
use Rattle.timers.specs.Timer.{Alarm, AreOnTime}
use Rattle.port_turns.specs.Nodes.{IsOfNodes}

-- the message frees port q, whichever process gets it
abbrev pub is_free : ℕ → Body → Bool
is_free q (PortFree p) = p == q
is_free q _ = false

-- and it goes to process p
abbrev pub is_timer : ℕ → ℕ → Message → Bool
is_timer p q m = if m.receiver == p then is_free q m.body else false

-- those of these wishes that free port q
abbrev pub frees : ℕ → List Wish → List Wish
frees q ws = filter (λ w. is_free q w.body) ws

-- a frame is in transmission at the port, if there is one; and at port q of this equipment
abbrev pub busy_of : Option PortState → Bool
busy_of None = false
busy_of (Some p) = p.busy

abbrev pub is_busy_in : Equipment → ℕ → Bool
is_busy_in e q = busy_of (port_in e q)

-- for which moment the timer of a port is set: a frame that starts sets it, and it stays set while the port is busy
abbrev pub set_by : List Wish → Bool → Option ℕ → Option ℕ
set_by (w ∷ ws) busy old = Some w.time
set_by [] true old = old
set_by [] false old = None

abbrev pub port_alarm : ℕ → ℕ → Alarm Message NodeState (Option ℕ)
port_alarm p q = record {
  opening = None;
  after = λ s g m. let o = handled p m s.equipment in set_by (frees q o.reply.wishes) (is_busy_in o.equipment q) g;
  moment = λ g. g;
}

-- each PortFree comes at the moment for which it was sent, and while the port is busy nothing comes to the node later than that
abbrev pub ArePortsOnTime : Type 0
ArePortsOnTime =
    (x : Setting NodeState) → Laws (simulation_of (rules_of node) x) → (p q : ℕ) → p < x.processes → IsOfNodes x →
    is_busy_in (x.opening p).equipment q ≡ false → (n : ℕ) → AreOnTime (simulation_of (rules_of node) x) p (is_timer p q) (port_alarm p q) (x.opening p) None (events (simulation_of (rules_of node) x) n p)
