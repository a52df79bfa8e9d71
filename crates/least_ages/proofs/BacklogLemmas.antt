-- Why no more bytes wait at a port than its bound says, and a port that has room drops no frame.
use Rattle.std.proofs.Common.{◌≡◌, ℕ, ◌+◌, ◌*◌, ◌<◌, ◌≤◌, List, [], ◌∷◌, None, Some, sym, subst, arith}
use Rattle.std.proofs.lemmas.Nat.{mul-le}
use Rattle.std.proofs.lemmas.List.Sums.{sum_by-cons}
use Rattle.vlink.specs.Wire.{busy_for}
use Rattle.vlink.specs.declared.frame.Frame.{Frame}
use Rattle.frame_ring.specs.Queue.{bytes_of}
use Rattle.output_port.specs.Port.{PortState, port, waiting_bytes}
use Rattle.output_port.specs.declared.event.Priority.{Priority}
use Rattle.output_port.specs.declared.event.Priority.TheVariants.{High, Low}
use Rattle.reverse.specs.Rules.{rules_of}
use Rattle.reverse.specs.Setting.{Setting, simulation_of}
use Rattle.virtual_time.specs.Law.{Laws}
use Rattle.port_bounds.specs.Frames.{IsWithin, PutFrame, cost_of}
use Rattle.port_bounds.specs.Mixtures.{Group, groups_burst, groups_rate}
use Rattle.port_bounds.specs.Port.{IsServed, Port, after, highs_of, idle, lows_of}
use Rattle.port_bounds.specs.Sublists.{Every}
use Rattle.port_bounds.proofs.LowLemmas as low
use Rattle.port_bounds.proofs.StartLemmas.{of-port}
use Rattle.element_bounds.specs.PortTrace.{IsSamePort, PortEventAt, frames_of, state_after, trace_of}
use Rattle.element_bounds.proofs.TraceLemmas.{costed, same}
use Rattle.nodes.specs.declared.ports.Outlet.{Outlet}
use Rattle.nodes.specs.rules.Node.{NodeState}
use Rattle.nodes.specs.undoing.Node.{node}
use Rattle.port_turns.specs.Nodes.{IsOfNodes}
use Rattle.port_turns.specs.PortEvents.{outlet_in}
use Rattle.port_turns.proofs.PortRuns.{are_ports_served, ports-run-well}
use Rattle.frame_ages.specs.Ports.{AreGroups, IsWaitingBound}
use Rattle.frame_ages.specs.Rooms.{HasRoomAt}
use Rattle.frame_ages.specs.Sizes.{OpensEmpty, Sizes}
use Rattle.frame_ages.proofs.GivenLemmas.{all-within, below}
use Rattle.frame_ages.proofs.RoomLemmas.{NoneDropped, none-dropped}
use Rattle.frame_ages.proofs.SizeLemmas.{idle-at}
use Rattle.least_ages.specs.Ports.{TakesAll, asked_in, waiting_in}

-- frames cost at least their bytes
abbrev IsCosted : ℕ → PutFrame → Type 0
IsCosted byte_ns x = x.cost ≡ busy_for x.frame.size byte_ns

bytes-cost : (byte_ns : ℕ) (xs : List PutFrame) → Every (IsCosted byte_ns) xs → bytes_of (frames_of xs) * byte_ns ≤ cost_of xs
bytes-cost byte_ns [] h = omega arith
bytes-cost byte_ns (x ∷ xs) h =
    let rest = bytes-cost byte_ns xs h.1 in
    let here = h.0 in
    let sum : bytes_of (frames_of (x ∷ xs)) ≡ x.frame.size + bytes_of (frames_of xs) = sum_by-cons (λ (f : Frame). f.size) x.frame (frames_of xs) in
    subst (λ z. z * byte_ns ≤ x.cost + cost_of xs) (sym sum) (omega arith)

few : (u byte h l ch cl burst bytes : ℕ) → h * byte ≤ ch → l * byte ≤ cl → u * (ch + cl) ≤ burst → burst < (u * byte) * (bytes + 1) → h + l ≤ bytes
few u byte h l ch cl burst bytes a b c d =
    let all : u * ((h + l) * byte) ≤ u * (ch + cl) = mul-le u ((h + l) * byte) u (ch + cl) (omega arith) (omega arith) in
    let turned : (u * byte) * (h + l) ≡ u * ((h + l) * byte) = omega arith in
    below (u * byte) (h + l) bytes (omega arith)

bytes-within : (byte_ns bytes u bh rh bl rl : ℕ) (p : PortState) (es : List PortEventAt) → IsSamePort p idle → IsServed idle 0 (trace_of byte_ns p es) → rh + rl ≤ u → IsWithin u bh rh (highs_of (trace_of byte_ns p es)) →
    IsWithin u bl rl (lows_of (trace_of byte_ns p es)) → bh + bl < (u * byte_ns) * (bytes + 1) → waiting_bytes (state_after p es) ≤ bytes
bytes-within byte_ns bytes u bh rh bl rl p es empty served slow highs lows bound =
    let now : PortState = state_after p es in
    let a : Port = after idle (trace_of byte_ns p es) in
    let alike = (same byte_ns p idle es empty).0 in
    let costs = costed byte_ns p es in
    let put = of-port (IsCosted byte_ns) (IsCosted byte_ns) (trace_of byte_ns p es) None [] [] tt tt costs.high costs.low in
    let high-bytes : bytes_of now.high * byte_ns ≤ cost_of a.high = subst (λ z. bytes_of z * byte_ns ≤ cost_of a.high) (sym alike.high) (bytes-cost byte_ns a.high put.2) in
    let low-bytes : bytes_of now.low * byte_ns ≤ cost_of a.low = subst (λ z. bytes_of z * byte_ns ≤ cost_of a.low) (sym alike.low) (bytes-cost byte_ns a.low put.3) in
    few u byte_ns (bytes_of now.high) (bytes_of now.low) (cost_of a.high) (cost_of a.low) (bh + bl) bytes high-bytes low-bytes (low.backlog u bh rh bl rl (trace_of byte_ns p es) slow served highs lows) bound

takes-all : (p : PortState) (es : List PortEventAt) → NoneDropped p es → TakesAll p es
takes-all p [] h = tt
takes-all p (e ∷ es) h = (h.0, takes-all (port.after p e.event) es h.1)

module _ (x : Setting NodeState) (L : Laws (simulation_of (rules_of node) x)) (N : IsOfNodes x) (size : ℕ → Sizes) (O : OpensEmpty x size) (p q : ℕ) (outlet : Outlet) (inside : p < x.processes)
    (is : outlet_in (x.opening p).equipment q ≡ Some outlet) (n : ℕ) where
  empty : IsSamePort outlet.port idle
  empty = idle-at (x.opening p).equipment q outlet (O.ports p inside) is

  pub bytes-bounded : (bytes : ℕ) → IsWaitingBound x size p q outlet bytes → waiting_in x p q outlet n ≤ bytes
  bytes-bounded bytes b =
      bytes-within outlet.ahead.byte_ns bytes (b.whole * b.scale) (groups_burst b.whole b.high) (groups_rate b.whole b.high) (groups_burst b.whole b.low) (groups_rate b.whole b.low) outlet.port (asked_in x p q n) empty
      (are_ports_served x p q L inside N outlet is empty n) b.rates
      (all-within x L N size O p q outlet inside n High b.scale b.whole b.high b.high_are) (all-within x L N size O p q outlet inside n Low b.scale b.whole b.low b.low_are) b.within

  -- the groups do not speak of how many bytes may wait
  other-port : (scale whole : ℕ) (other : PortState) (r : Priority) (groups : List Group) → AreGroups x size p q outlet scale whole r groups → AreGroups x size p q (record outlet { port = other }) scale whole r groups
  other-port scale whole other r groups h = record { each = h.each; listed = h.listed }

  pub roomy : HasRoomAt x size p q outlet → TakesAll outlet.port (asked_in x p q n)
  roomy h =
      let b = h.bound in
      takes-all outlet.port (asked_in x p q n)
      (none-dropped outlet.ahead.byte_ns h.bytes (b.whole * b.scale) (groups_burst b.whole b.high) (groups_rate b.whole b.high) (groups_burst b.whole b.low) (groups_rate b.whole b.low) outlet.port (asked_in x p q n) empty
      (ports-run-well x p q L inside N outlet is empty n) b.rates
      (λ other. all-within x L N size O p q (record outlet { port = other }) inside n High b.scale b.whole b.high (other-port b.scale b.whole other High b.high b.high_are))
      (λ other. all-within x L N size O p q (record outlet { port = other }) inside n Low b.scale b.whole b.low (other-port b.scale b.whole other Low b.low b.low_are))
      b.within h.room)
