-- For proofs alone: what stays of a switch, and what it sends.
use Rattle.std.proofs.Common.{◌≡◌, ℕ, ◌+◌, ◌==◌, Bool, true, false, cond, nat_lt, Option, None, Some, All, refl}
use Rattle.std.proofs.lemmas.List.Elements.{All-nil, All-map}
use Rattle.vlink.specs.declared.frame.Frame.{Frame}
use Rattle.vlink.specs.declared.message.Body.{Body}
use Rattle.vlink.specs.declared.message.Body.TheVariants.{Offer, Release, PortFree, Arrive, Enqueue, Carry}
use Rattle.vlink.specs.declared.note.Cause.TheVariants.{Unknown, TooLong}
use Rattle.policer.specs.Account.{account}
use Rattle.policer.specs.declared.account.Verdict.{Verdict}
use Rattle.policer.specs.declared.account.Verdict.TheVariants as verdict
use Rattle.output_port.specs.declared.event.PortEvent.{PortEvent}
use Rattle.output_port.specs.declared.event.PortEvent.TheVariants.{Put, Free}
use Rattle.nodes.specs.declared.change.Change.TheVariants as change
use Rattle.nodes.specs.declared.transit.Transit.{Transit}
use Rattle.reverse.specs.Sending.{Wish, Reply, silent, loss}
use Rattle.nodes.specs.rules.Finding.{Found}
use Rattle.nodes.specs.declared.ports.LineAhead.{LineAhead}
use Rattle.nodes.specs.rules.Ports.{exists}
use Rattle.nodes.specs.rules.Switch.{SwitchState, SwitchOutcome, transit_at, outputs_of, entered_reply, judged, taken_in, put, at_port, switch, unmoved}
use Rattle.nodes.specs.rules.Placed.{AllAhead}
use Rattle.nodes.specs.laws.Replies.{IsQuiet, silent-quiet, loss-quiet, quiet-all}
use Rattle.nodes.specs.laws.Ports.{AheadMeets, lines_ahead-stay, reply-all}

-- K holds of each of the three things that switch n makes of a message at moment t: nothing changes and nothing is sent; a port is asked to
-- do something; a frame comes to the account of its virtual link
pub record SwitchCases (K : SwitchOutcome → Type 0) (n t : ℕ) (s : SwitchState) : Type 0 where
  pub quiet : (r : Reply) → IsQuiet r → K (record { state = s; reply = r; change = change.Nothing })
  pub at_ports : (q : ℕ) (e : PortEvent) → K (at_port n t q e s)
  pub takes : (q : ℕ) (frame : Frame) (found : Found Transit) → transit_at s frame.vl ≡ Some found → K (taken_in n t q frame s (Some found))

pub switch-cases : (K : SwitchOutcome → Type 0) (n t : ℕ) (s : SwitchState) → SwitchCases K n t s → (body : Body) → K (switch n t body s)
switch-cases K n t s is (Offer vl size sub) = is.quiet silent silent-quiet
switch-cases K n t s is (Release vl) = is.quiet silent silent-quiet
switch-cases K n t s is (PortFree q) = is.at_ports q Free
switch-cases K n t s is (Arrive q frame) = go (exists s.ports q) (transit_at s frame.vl) refl
  where
    go : (b : Bool) (o : Option (Found Transit)) → transit_at s frame.vl ≡ o → K (cond b (taken_in n t q frame s o) (unmoved s))
    go true None h = is.quiet (loss Unknown frame) (loss-quiet Unknown frame)
    go true (Some found) h = is.takes q frame found h
    go false o h = is.quiet silent silent-quiet
switch-cases K n t s is (Enqueue q frame) = go (exists s.ports q) (transit_at s frame.vl)
  where
    go : (b : Bool) (o : Option (Found Transit)) → K (cond b (put n t q frame s o) (unmoved s))
    go true None = is.quiet (loss Unknown frame) (loss-quiet Unknown frame)
    go true (Some found) = is.at_ports q (Put frame found.entry.priority)
    go false o = is.quiet silent silent-quiet
switch-cases K n t s is (Carry frame) = is.quiet silent silent-quiet

-- the delay stays, and what holds of each line of a port
pub record StaysSwitch (P : LineAhead → Type 0) (s now : SwitchState) : Type 0 where
  pub latency : now.latency ≡ s.latency
  pub lines_ahead : AllAhead P now.ports

pub switch-stays : (P : LineAhead → Type 0) (n t : ℕ) (body : Body) (s : SwitchState) → AllAhead P s.ports → StaysSwitch P s (switch n t body s).state
switch-stays P n t body s h = switch-cases (λ o. StaysSwitch P s o.state) n t s (record {
  quiet = λ r q. record { latency = refl; lines_ahead = h };
  at_ports = λ q e. record { latency = refl; lines_ahead = lines_ahead-stay P q e s.ports h };
  takes = λ q frame found is. record { latency = refl; lines_ahead = h };
}) body

-- a frame is put to output q
abbrev pub wish_to : ℕ → ℕ → Frame → ℕ → Wish
wish_to n at frame q = record { time = at; receiver = n; body = Enqueue q frame }

-- what follows from a frame that comes has P, if each frame that is put to an output after the delay does
entered-all : (P : Wish → Type 0) (n t delay q : ℕ) (frame : Frame) (transit : Transit) → ((q : ℕ) → P (wish_to n (t + delay) frame q)) →
    All P (entered_reply n t delay q frame transit).wishes
entered-all P n t delay q frame transit puts = go (transit.input == q) (nat_lt transit.smax frame.size) (account.out transit.account (record { at = t; size = frame.size }))
  where
    go : (b c : Bool) (v : Verdict) → All P (cond b (cond c (loss TooLong frame) (judged n (t + delay) frame (outputs_of transit) v)) (loss Unknown frame)).wishes
    go true true v = All-nil P
    go true false verdict.Passed = All-map P (wish_to n (t + delay) frame) (outputs_of transit) (λ k d l. puts _)
    go true false verdict.Refused = All-nil P
    go false c v = All-nil P

-- what is sent has P, if what starts into the lines does, and each frame that is put to an output after the delay
pub switch-all : (P : Wish → Type 0) (n t : ℕ) (body : Body) (s : SwitchState) → AllAhead (AheadMeets P n t) s.ports →
    ((q : ℕ) (frame : Frame) → P (wish_to n (t + s.latency) frame q)) → All P (switch n t body s).reply.wishes
switch-all P n t body s lines_ahead puts = switch-cases (λ o. All P o.reply.wishes) n t s (record {
  quiet = λ r q. quiet-all P r q;
  at_ports = λ q e. reply-all P n t q e s.ports lines_ahead;
  takes = λ q frame found is. entered-all P n t s.latency q frame found.entry (λ q. puts q frame);
}) body
