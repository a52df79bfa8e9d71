-- For proofs alone: what an end system keeps, and what it sends.
use Rattle.std.proofs.Common.{◌≡◌, ℕ, Bool, true, false, cond, [], Option, None, Some, IfSome, All, option_and_then, refl, sym, subst}
use Rattle.std.proofs.lemmas.Bool.{cond_both}
use Rattle.std.proofs.lemmas.List.Elements.{All-nil, All-cons, All-set}
use Rattle.vlink.specs.declared.frame.Frame.{Frame}
use Rattle.vlink.specs.declared.frame.VlId.{VlId}
use Rattle.vlink.specs.declared.frame.Net.{Net}
use Rattle.vlink.specs.declared.frame.Net.TheVariants.{A, B}
use Rattle.vlink.specs.declared.message.Body.{Body}
use Rattle.vlink.specs.declared.message.Body.TheVariants as body
use Rattle.vlink.specs.declared.note.Cause.TheVariants.{Unknown, QueueFull, Integrity, Duplicate}
use Rattle.bag_regulator.specs.Regulator.{regulator}
use Rattle.bag_regulator.specs.Spacing.{moment_of}
use Rattle.bag_regulator.specs.declared.event.RegEvent.{RegEvent}
use Rattle.bag_regulator.specs.declared.event.RegEvent.TheVariants.{Offer, Release}
use Rattle.bag_regulator.specs.declared.event.RegAnswer.{RegAnswer}
use Rattle.bag_regulator.specs.declared.event.RegAnswer.TheVariants as answer
use Rattle.output_port.specs.declared.event.PortEvent.TheVariants.{Free}
use Rattle.integrity.specs.Integrity.{integrity}
use Rattle.integrity.specs.declared.checking.Checked.{Checked}
use Rattle.integrity.specs.declared.checking.Checked.TheVariants as check
use Rattle.redundancy.specs.Redundancy.{redundancy}
use Rattle.redundancy.specs.declared.delivery.Delivery.{Delivery}
use Rattle.redundancy.specs.declared.delivery.Delivery.TheVariants as delivery
use Rattle.nodes.specs.declared.change.Change.TheVariants as change
use Rattle.nodes.specs.declared.ports.LineAhead.{LineAhead}
use Rattle.nodes.specs.declared.vl_end.VlEnd.{VlEnd}
use Rattle.nodes.specs.declared.receiving.Receiving.{Receiving}
use Rattle.nodes.specs.declared.source.Source.{Source}
use Rattle.nodes.specs.declared.reception.Reception.{Reception}
use Rattle.reverse.specs.Sending.{Wish, Reply, silent, joined, loss}
use Rattle.nodes.specs.rules.Ports.{PortsState, changed, exists, reply}
use Rattle.nodes.specs.rules.Finding.{Found, find}
use Rattle.nodes.specs.rules.EndSystem.{EndSystemState, EndSystemOutcome, source_at, source_number, reception_number, ending_on, unmoved, is_on, port_of, copy, copied, copied_reply, released_out, released_reply, asked, full, regulated, offered_frame, check_of, received_reply, checked, delivered, taken_in, freed, end_system}
use Rattle.nodes.specs.rules.Placed.{AllAhead}
use Rattle.nodes.specs.laws.Places.{All-there, found-there}
use Rattle.nodes.specs.laws.Replies.{IsQuiet, silent-quiet, loss-quiet, quiet-all, joined-all}
use Rattle.nodes.specs.laws.Ports.{AheadMeets, lines_ahead-stay, reply-all}
use Rattle.nodes.specs.laws.Regulator.{bag-stays}

-- K holds of each of the four things that end system n makes of a message at moment t: nothing changes and nothing is sent; a frame goes
-- through the checks of its virtual link; the frame of a port leaves; a regulator is asked
pub record EndSystemCases (K : EndSystemOutcome → Type 0) (n t : ℕ) (s : EndSystemState) : Type 0 where
  pub quiet : (r : Reply) → IsQuiet r → K (record { state = s; reply = r; change = change.Nothing })
  pub receives : (frame : Frame) (found : Found Reception) → find reception_number s.receptions frame.vl.0 ≡ Some found → K (taken_in t frame s (Some found))
  pub frees : (q : ℕ) → K (freed n t q s)
  pub asks : (vl : VlId) (e : RegEvent) (otherwise : Reply) (found : Found Source) → moment_of e ≡ t → source_at s vl ≡ Some found →
      K (regulated n t e otherwise s (Some found))

received-quiet : (t : ℕ) (frame : Frame) (r : Receiving) → IsQuiet (received_reply t frame r)
received-quiet t frame r = go (integrity.out (check_of frame.net r) frame.number)
  where
    by_delivery : (d : Delivery) → IsQuiet (delivered t frame d)
    by_delivery delivery.Delivered = refl
    by_delivery delivery.Duplicate = loss-quiet Duplicate frame

    go : (c : Checked) → IsQuiet (checked t frame r c)
    go check.Passed = by_delivery (redundancy.out r.redundancy (record { number = frame.number; at = t }))
    go check.Refused = loss-quiet Integrity frame

pub end_system-cases : (K : EndSystemOutcome → Type 0) (n t : ℕ) (s : EndSystemState) → EndSystemCases K n t s → (b : Body) → K (end_system n t b s)
end_system-cases K n t s is (body.Offer vl size sub) = go (source_at s vl) refl
  where
    frame : Frame
    frame = offered_frame t vl size

    go : (o : Option (Found Source)) → source_at s vl ≡ o → K (regulated n t (Offer t sub frame) (loss Unknown frame) s o)
    go None h = is.quiet (loss Unknown frame) (loss-quiet Unknown frame)
    go (Some found) h = is.asks vl (Offer t sub frame) (loss Unknown frame) found refl h
end_system-cases K n t s is (body.Release vl) = go (source_at s vl) refl
  where
    go : (o : Option (Found Source)) → source_at s vl ≡ o → K (regulated n t (Release t) silent s o)
    go None h = is.quiet silent silent-quiet
    go (Some found) h = is.asks vl (Release t) silent found refl h
end_system-cases K n t s is (body.PortFree q) = is.frees q
end_system-cases K n t s is (body.Arrive q frame) = go (exists s.ports q) (find reception_number s.receptions frame.vl.0) refl
  where
    by_net : (found : Found Reception) → find reception_number s.receptions frame.vl.0 ≡ Some found → (b : Bool) → K (taken_in t frame s (cond b (Some found) None))
    by_net found h true = is.receives frame found h
    by_net found h false = is.quiet (loss Unknown frame) (loss-quiet Unknown frame)

    go : (b : Bool) (o : Option (Found Reception)) → find reception_number s.receptions frame.vl.0 ≡ o →
        K (cond b (taken_in t frame s (option_and_then (ending_on frame.net) o)) (unmoved s))
    go true None h = is.quiet (loss Unknown frame) (loss-quiet Unknown frame)
    go true (Some found) h = by_net found h (is_on found.entry.end frame.net)
    go false o h = is.quiet silent silent-quiet
end_system-cases K n t s is (body.Enqueue q frame) = is.quiet silent silent-quiet
end_system-cases K n t s is (body.Carry frame) = is.quiet silent silent-quiet

copied-lines_ahead : (P : LineAhead → Type 0) (end : VlEnd) (net : Net) (frame : Frame) (ports : PortsState) → AllAhead P ports → AllAhead P (copied end net frame ports)
copied-lines_ahead P end net frame ports h =
    cond_both (is_on end net) (changed (port_of net) (copy net frame) ports) ports (λ now. AllAhead P now)
    (λ e. lines_ahead-stay P (port_of net) (copy net frame) ports h) (λ e. h)

released-lines_ahead : (P : LineAhead → Type 0) (end : VlEnd) (a : RegAnswer) (ports : PortsState) → AllAhead P ports → AllAhead P (released_out end a ports)
released-lines_ahead P end (answer.Released frame) ports h = copied-lines_ahead P end B frame (copied end A frame ports) (copied-lines_ahead P end A frame ports h)
released-lines_ahead P end answer.Kept ports h = h
released-lines_ahead P end answer.Dropped ports h = h
released-lines_ahead P end answer.Nothing ports h = h

-- what holds of each line of a port stays, and of each BAG of a regulator
pub end_system-lines_ahead : (P : LineAhead → Type 0) (n t : ℕ) (b : Body) (s : EndSystemState) → AllAhead P s.ports → AllAhead P (end_system n t b s).state.ports
end_system-lines_ahead P n t b s all = end_system-cases (λ o. AllAhead P o.state.ports) n t s (record {
  quiet = λ r q. all;
  receives = λ frame found h. all;
  frees = λ q. lines_ahead-stay P q Free s.ports all;
  asks = λ vl e otherwise found m h. released-lines_ahead P found.entry.end (regulator.out found.entry.regulator e).answer s.ports all;
}) b

pub end_system-bags : (P : ℕ → Type 0) (n t : ℕ) (b : Body) (s : EndSystemState) →
    All (λ source. P source.regulator.bag) s.sources → All (λ source. P source.regulator.bag) (end_system n t b s).state.sources
end_system-bags P n t b s all = end_system-cases (λ o. All (λ source. P source.regulator.bag) o.state.sources) n t s (record {
  quiet = λ r q. all;
  receives = λ frame found h. all;
  frees = λ q. all;
  asks = λ vl e otherwise found m h.
      let has-bag : Source → Type 0 = λ source. P source.regulator.bag in
      let source = found.entry in
      let bag = All-there has-bag s.sources found.place source all (found-there source_number s.sources vl.0 found h) in
      All-set has-bag s.sources found.place (record source { regulator = regulator.after source.regulator e })
      (subst P (sym (bag-stays source.regulator e)) bag) all;
}) b

-- both copies of a frame
copied_reply-all : (P : Wish → Type 0) (n t : ℕ) (end : VlEnd) (net : Net) (frame : Frame) (ports : PortsState) →
    AllAhead (AheadMeets P n t) ports → All P (copied_reply n t end net frame ports).wishes
copied_reply-all P n t end net frame ports h =
    cond_both (is_on end net) (reply n t (port_of net) (copy net frame) ports) silent (λ r. All P r.wishes)
    (λ e. reply-all P n t (port_of net) (copy net frame) ports h) (λ e. All-nil P)

released_reply-all : (P : Wish → Type 0) (n t : ℕ) (end : VlEnd) (a : RegAnswer) (ports : PortsState) →
    AllAhead (AheadMeets P n t) ports → All P (released_reply n t end a ports).wishes
released_reply-all P n t end (answer.Released frame) ports h =
    let rest = copied-lines_ahead (AheadMeets P n t) end A frame ports h in
    joined-all P (copied_reply n t end A frame ports) (copied_reply n t end B frame (copied end A frame ports))
    (copied_reply-all P n t end A frame ports h) (copied_reply-all P n t end B frame (copied end A frame ports) rest)
released_reply-all P n t end answer.Kept ports h = All-nil P
released_reply-all P n t end answer.Dropped ports h = All-nil P
released_reply-all P n t end answer.Nothing ports h = All-nil P

full-quiet : (e : RegEvent) (a : RegAnswer) → IsQuiet (full e a)
full-quiet (Offer at sub frame) answer.Dropped = loss-quiet QueueFull frame
full-quiet (Offer at sub frame) (answer.Released f) = silent-quiet
full-quiet (Offer at sub frame) answer.Kept = silent-quiet
full-quiet (Offer at sub frame) answer.Nothing = silent-quiet
full-quiet (Release at) a = silent-quiet

asked-all : (P : Wish → Type 0) (n : ℕ) (vl : VlId) (ask : Option ℕ) →
    IfSome ask (λ at. P (record { time = at; receiver = n; body = body.Release vl })) → All P (asked n vl ask).wishes
asked-all P n vl None h = All-nil P
asked-all P n vl (Some at) h = All-cons P _ [] h (All-nil P)

-- what is sent has P, if what starts into the lines does, and each Release that a regulator asks for at moment t
pub end_system-all : (P : Wish → Type 0) (n t : ℕ) (b : Body) (s : EndSystemState) → AllAhead (AheadMeets P n t) s.ports →
    ((vl : VlId) (e : RegEvent) (found : Found Source) → moment_of e ≡ t → source_at s vl ≡ Some found →
    IfSome (regulator.out found.entry.regulator e).release_at (λ at. P (record { time = at; receiver = n; body = body.Release found.entry.end.vl }))) →
    All P (end_system n t b s).reply.wishes
end_system-all P n t b s lines_ahead asks = end_system-cases (λ o. All P o.reply.wishes) n t s (record {
  quiet = λ r q. quiet-all P r q;
  receives = λ frame found h. quiet-all P (received_reply t frame found.entry.receiving) (received-quiet t frame found.entry.receiving);
  frees = λ q. reply-all P n t q Free s.ports lines_ahead;
  asks = λ vl e otherwise found m h.
      let source = found.entry in
      let out = regulator.out source.regulator e in
      let ask = asked n source.end.vl out.release_at in
      joined-all P (joined (full e out.answer) ask) (released_reply n t source.end out.answer s.ports)
      (joined-all P (full e out.answer) ask (quiet-all P (full e out.answer) (full-quiet e out.answer))
      (asked-all P n source.end.vl out.release_at (asks vl e found m h)))
      (released_reply-all P n t source.end out.answer s.ports lines_ahead);
}) b
