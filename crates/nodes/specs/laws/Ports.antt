-- For proofs alone: the ports of a node: undoing an event gives back the ports, their lines stay, and what follows from an event.
use Rattle.std.proofs.Common.{◌≡◌, ℕ, ◌+◌, [], ◌∷◌, Option, None, Some, IfSome, All, slice_get, slice_set, option_map, option_and_then, unwrap_or, refl, sym, subst, ap, ◌∙◌}
use Rattle.std.proofs.lemmas.Option.{option_and_then_some}
use Rattle.std.proofs.lemmas.List.Elements.{All-nil, All-cons, All-set}
use Rattle.vlink.specs.Wire.{last_bit_after, busy_for}
use Rattle.vlink.specs.declared.frame.Frame.{Frame}
use Rattle.vlink.specs.declared.message.Body.TheVariants.{Carry, PortFree}
use Rattle.vlink.specs.declared.note.Cause.TheVariants.{PortFull}
use Rattle.output_port.specs.Port.{port, put_kept, IsWithinBytes}
use Rattle.output_port.specs.Undoing.{port-undoes, put-saves}
use Rattle.output_port.specs.declared.event.Priority.{Priority}
use Rattle.output_port.specs.declared.event.PortRecord.{PortRecord}
use Rattle.output_port.specs.declared.event.PortRecord.TheVariants as saved
use Rattle.output_port.specs.declared.event.PutRecord.TheVariants as of_put
use Rattle.output_port.specs.declared.event.PortEvent.{PortEvent}
use Rattle.output_port.specs.declared.event.PortEvent.TheVariants.{Put, Free}
use Rattle.output_port.specs.declared.event.PortAnswer.{PortAnswer}
use Rattle.output_port.specs.declared.event.PortAnswer.TheVariants as answer
use Rattle.nodes.specs.declared.ports.Outlet.{Outlet}
use Rattle.nodes.specs.declared.ports.LineAhead.{LineAhead}
use Rattle.reverse.specs.Plain.{CameFrom}
use Rattle.reverse.specs.Sending.{Wish, Reply, silent, loss}
use Rattle.nodes.specs.rules.Ports.{PortsState, changed, changed_at, outlet_at, port_kept, port_put_kept, reply, reply_at, answered, start}
use Rattle.nodes.specs.undoing.Ports.{restored, restored_at, IsPortValue, IsLastAtPort}
use Rattle.nodes.specs.rules.Placed.{AllAhead}
use Rattle.nodes.specs.laws.Places.{All-there, get-set, set-back, set-same}
use Rattle.nodes.specs.laws.Replies.{IsQuiet, silent-quiet, loss-quiet, quiet-all}

-- what stands at port q stands in the list
there : (ports : PortsState) (q : ℕ) (outlet : Outlet) → outlet_at ports q ≡ Some outlet → slice_get ports q ≡ Some (Some outlet)
there ports q outlet is = option_and_then_some (λ o. o) (slice_get ports q) outlet is (λ o read same. read ∙ ap Some same)

abbrev after_at : PortEvent → Outlet → Outlet
after_at e outlet = record outlet { port = port.after outlet.port e }

outlet-set : (ports : PortsState) (q : ℕ) (outlet new : Outlet) → outlet_at ports q ≡ Some outlet → outlet_at (slice_set ports q (Some new)) q ≡ Some new
outlet-set ports q outlet new is = ap (option_and_then (λ o. o)) (get-set ports q (Some outlet) (Some new) (there ports q outlet is))

restored-back : (q : ℕ) (e : PortEvent) (ports : PortsState) (outlet : Outlet) → outlet_at ports q ≡ Some outlet →
    restored q (port.saves outlet.port e) (slice_set ports q (Some (after_at e outlet))) ≡ ports
restored-back q e ports outlet is =
    let now : PortsState = slice_set ports q (Some (after_at e outlet)) in
    ap (restored_at q (port.saves outlet.port e) now) (outlet-set ports q outlet (after_at e outlet) is)
    ∙ ap (λ p. slice_set now q (Some (record outlet { port = p }))) (port-undoes outlet.port e)
    ∙ set-back ports q (Some outlet) (Some (after_at e outlet)) (there ports q outlet is)

-- K holds of what is kept of an event at port q and the ports after it, if it holds of the ports as they were with nothing kept, and of a
-- record at whose undoing they are as before
pub port-cases : (K : Option PortRecord → PortsState → Type 0) (q : ℕ) (e : PortEvent) (ports : PortsState) → K None ports →
    ((kept : PortRecord) (now : PortsState) → restored q kept now ≡ ports → (IsPortValue q ports → IsLastAtPort q kept now) → K (Some kept) now) →
    K (port_kept q e ports) (changed q e ports)
port-cases K q e ports none some = go (outlet_at ports q) refl
  where
    last : (outlet : Outlet) → outlet_at ports q ≡ Some outlet → IsPortValue q ports → IsLastAtPort q (port.saves outlet.port e) (slice_set ports q (Some (after_at e outlet)))
    last outlet is value =
        let within : IsWithinBytes outlet.port = subst (λ o. IfSome o (λ x. IsWithinBytes x.port)) is value in
        subst (λ o. IfSome o (λ x. (event : PortEvent) × CameFrom port (λ p _. IsWithinBytes p) x.port event (port.saves outlet.port e))) (sym (outlet-set ports q outlet (after_at e outlet) is))
        (e, (outlet.port, within, refl, refl))

    go : (o : Option Outlet) → outlet_at ports q ≡ o → K (option_map (λ outlet. port.saves outlet.port e) o) (changed_at q e ports o)
    go None is = none
    go (Some outlet) is = some (port.saves outlet.port e) (slice_set ports q (Some (after_at e outlet))) (restored-back q e ports outlet is) (last outlet is)

-- the record of a frame put is what is kept of the event
pub put-kept : (q : ℕ) (frame : Frame) (priority : Priority) (ports : PortsState) →
    option_map (λ k. saved.Put k) (port_put_kept q frame priority ports) ≡ port_kept q (Put frame priority) ports
put-kept q frame priority ports = go (outlet_at ports q)
  where
    go : (o : Option Outlet) → option_map (λ k. saved.Put k) (option_map (λ outlet. put_kept outlet.port frame priority) o) ≡ option_map (λ outlet. port.saves outlet.port (Put frame priority)) o
    go (Some outlet) = ap (λ k. Some k) (sym (put-saves outlet.port frame priority))
    go None = refl

-- to take back that nothing was put leaves the ports
pub nothing-undone : (q : ℕ) (ports : PortsState) → restored q (saved.Put of_put.Nothing) ports ≡ ports
nothing-undone q ports = go (outlet_at ports q) refl
  where
    go : (o : Option Outlet) → outlet_at ports q ≡ o → restored_at q (saved.Put of_put.Nothing) ports o ≡ ports
    go None is = refl
    go (Some outlet) is = set-same ports q (Some outlet) (there ports q outlet is)

-- a frame that was put is taken back
pub put-undone : (q : ℕ) (frame : Frame) (priority : Priority) (ports : PortsState) →
    restored q (saved.Put (unwrap_or (port_put_kept q frame priority ports) of_put.Nothing)) (changed q (Put frame priority) ports) ≡ ports
put-undone q frame priority ports = go (outlet_at ports q) refl
  where
    go : (o : Option Outlet) → outlet_at ports q ≡ o →
        restored q (saved.Put (unwrap_or (option_map (λ outlet. put_kept outlet.port frame priority) o) of_put.Nothing)) (changed_at q (Put frame priority) ports o) ≡ ports
    go None is = nothing-undone q ports
    go (Some outlet) is =
        ap (λ kept. restored q kept (slice_set ports q (Some (after_at (Put frame priority) outlet)))) (sym (put-saves outlet.port frame priority))
        ∙ restored-back q (Put frame priority) ports outlet is

-- what holds of each line holds of the line of port q
pub ahead-there : (P : LineAhead → Type 0) (ports : PortsState) (q : ℕ) (outlet : Outlet) → AllAhead P ports → outlet_at ports q ≡ Some outlet → P outlet.ahead
ahead-there P ports q outlet h is = All-there (λ slot. IfSome slot (λ outlet. P outlet.ahead)) ports q (Some outlet) h (there ports q outlet is)

-- the lines of the ports stay, and so does what holds of each
pub lines_ahead-stay : (P : LineAhead → Type 0) (q : ℕ) (e : PortEvent) (ports : PortsState) → AllAhead P ports → AllAhead P (changed q e ports)
lines_ahead-stay P q e ports h = go (outlet_at ports q) refl
  where
    go : (o : Option Outlet) → outlet_at ports q ≡ o → AllAhead P (changed_at q e ports o)
    go (Some outlet) is =
        All-set (λ slot. IfSome slot (λ outlet. P outlet.ahead)) ports q (Some (record outlet { port = port.after outlet.port e })) (ahead-there P ports q outlet h is) h
    go None is = h

-- K holds of what follows, if it holds where nothing is sent, and where a frame starts into the line of the port
pub reply-cases : (K : Reply → Type 0) (n t q : ℕ) (e : PortEvent) (ports : PortsState) → ((r : Reply) → IsQuiet r → K r) →
    ((outlet : Outlet) (frame : Frame) → outlet_at ports q ≡ Some outlet → K (start n t q outlet.ahead frame)) → K (reply n t q e ports)
reply-cases K n t q e ports quiet starts = go (outlet_at ports q) refl
  where
    by_answer : (outlet : Outlet) (e : PortEvent) (a : PortAnswer) → outlet_at ports q ≡ Some outlet → K (answered n t q outlet.ahead e a)
    by_answer outlet e (answer.Started frame) h = starts outlet frame h
    by_answer outlet (Put frame priority) answer.Dropped h = quiet (loss PortFull frame) (loss-quiet PortFull frame)
    by_answer outlet Free answer.Dropped h = quiet silent silent-quiet
    by_answer outlet e answer.Kept h = quiet silent silent-quiet
    by_answer outlet e answer.Idle h = quiet silent silent-quiet
    by_answer outlet e answer.Nothing h = quiet silent silent-quiet

    go : (o : Option Outlet) → outlet_at ports q ≡ o → K (reply_at n t q e o)
    go (Some outlet) h = by_answer outlet e (port.out outlet.port e) h
    go None h = quiet silent silent-quiet

-- what a frame that starts asks to be sent: its last bit is carried into the line, and then the port is free
abbrev pub carrying : ℕ → LineAhead → Frame → Wish
carrying t ahead frame = record { time = t + last_bit_after frame.size ahead.byte_ns; receiver = ahead.line; body = Carry frame }

abbrev pub freeing : ℕ → ℕ → ℕ → LineAhead → Frame → Wish
freeing n t q ahead frame = record { time = t + busy_for frame.size ahead.byte_ns; receiver = n; body = PortFree q }

-- both have P, for each frame that starts into this line at moment t
abbrev pub AheadMeets : (Wish → Type 0) → ℕ → ℕ → LineAhead → Type 0
AheadMeets P n t ahead = (q : ℕ) (frame : Frame) → P (carrying t ahead frame) × P (freeing n t q ahead frame)

pub reply-all : (P : Wish → Type 0) (n t q : ℕ) (e : PortEvent) (ports : PortsState) → AllAhead (AheadMeets P n t) ports →
    All P (reply n t q e ports).wishes
reply-all P n t q e ports h = reply-cases (λ r. All P r.wishes) n t q e ports (quiet-all P) starts
  where
    starts : (outlet : Outlet) (frame : Frame) → outlet_at ports q ≡ Some outlet → All P (start n t q outlet.ahead frame).wishes
    starts outlet frame is =
        let ahead = outlet.ahead in
        let both = ahead-there (AheadMeets P n t) ports q outlet h is q frame in
        All-cons P (carrying t ahead frame) (freeing n t q ahead frame ∷ []) both.0 (All-cons P (freeing n t q ahead frame) [] both.1 (All-nil P))
