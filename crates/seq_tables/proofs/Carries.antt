-- What goes to a line are frames that are carried into it, and nothing else.
use Rattle.std.proofs.Common.{◌≡◌, ℕ, ◌+◌, ◌==◌, Bool, true, false, cond, List, [], ◌∷◌, filter, All, Option, None, Some, IfSome, refl, ap, eqb-true}
use Rattle.std.specs.List.{list_any}
use Rattle.std.proofs.lemmas.List.Elements.{All-append, All-cons, All-head, All-nil, All-tail}
use Rattle.vlink.specs.declared.frame.VlId.{VlId}
use Rattle.vlink.specs.declared.message.Message.{Message}
use Rattle.vlink.specs.declared.message.Body.{Body}
use Rattle.vlink.specs.declared.message.Body.TheVariants as body
use Rattle.vlink.specs.declared.note.Cause.TheVariants as cause
use Rattle.bag_regulator.specs.Regulator.{regulator}
use Rattle.reverse.specs.Rules.{rules_of}
use Rattle.reverse.specs.Sending.{Wish, loss}
use Rattle.virtual_time.specs.Law as law
use Rattle.nodes.specs.declared.ports.Outlet.{Outlet}
use Rattle.nodes.specs.declared.equipment.Equipment.{Equipment}
use Rattle.nodes.specs.declared.equipment.Equipment.TheVariants.{EndSystem, Switch, Line}
use Rattle.nodes.specs.rules.Line.{LineState, is_within, line}
use Rattle.nodes.specs.rules.Node.{NodeState, after, handled, sends}
use Rattle.nodes.specs.undoing.Node.{node}
use Rattle.nodes.specs.laws.Ports.{AheadMeets}
use Rattle.nodes.specs.laws.EndSystemSending.{end_system-all}
use Rattle.nodes.specs.laws.Sent.{sent-all}
use Rattle.nodes.specs.laws.SwitchSending.{switch-all}
use Rattle.port_turns.proofs.Carrying.{is_carry}
use Rattle.port_turns.proofs.SentKinds.{is_to}

module _ (to : ℕ) where
  -- if it goes to the line, it is a frame that is carried
  abbrev pub IsCarriedIn : Message → Type 0
  IsCarriedIn m = m.receiver ≡ to → is_carry m.body ≡ true

  abbrev Meets : Wish → Type 0
  Meets w = w.receiver ≡ to → is_carry w.body ≡ true

  -- nodes and other lines: a node is not the line, and no line leads to it
  abbrev pub Apart : ℕ → Equipment → Type 0
  Apart n (EndSystem s) = n ≡ to → ⊥
  Apart n (Switch s) = n ≡ to → ⊥
  Apart n (Line l) = l.to ≡ to → ⊥

  module _ (n : ℕ) where
    ahead-meets : (apart : n ≡ to → ⊥) (t : ℕ) (o : Option Outlet) → IfSome o (λ outlet. AheadMeets Meets n t outlet.ahead)
    ahead-meets apart t None = tt
    ahead-meets apart t (Some outlet) = λ q frame. (λ e. refl, λ e. absurd (apart e))

    asks-meets : (apart : n ≡ to → ⊥) (ask : Option ℕ) (vl : VlId) → IfSome ask (λ at. Meets (record { time = at; receiver = n; body = body.Release vl }))
    asks-meets apart None vl = tt
    asks-meets apart (Some at) vl = λ e. absurd (apart e)

    line-meets : (t : ℕ) (b : Body) (l : LineState) → (l.to ≡ to → ⊥) → All Meets (line t b l).wishes
    line-meets t (body.Offer vl size sub) l h = All-nil Meets
    line-meets t (body.Release vl) l h = All-nil Meets
    line-meets t (body.PortFree k) l h = All-nil Meets
    line-meets t (body.Arrive k frame) l h = All-nil Meets
    line-meets t (body.Enqueue k frame) l h = All-nil Meets
    line-meets t (body.Carry frame) l h = go (list_any (is_within t) l.outages)
      where
        go : (b : Bool) → All Meets (cond b (loss cause.Outage frame) (record { wishes = record { time = t + l.propagation; receiver = l.to; body = body.Arrive l.to_port frame } ∷ []; notes = [] })).wishes
        go true = All-nil Meets
        go false = All-cons Meets _ [] (λ e. absurd (h e)) (All-nil Meets)

    wishes-meet : (m : Message) (e : Equipment) → Apart n e → All Meets (handled n m e).reply.wishes
    wishes-meet m (EndSystem s) h =
        end_system-all Meets n m.time m.body s (λ k d l. ahead-meets h m.time _) (λ vl e found k i. asks-meets h (regulator.out found.entry.regulator e).release_at found.entry.end.vl)
    wishes-meet m (Switch s) h = switch-all Meets n m.time m.body s (λ k d l. ahead-meets h m.time _) (λ k frame e. absurd (h e))
    wishes-meet m (Line l) h = line-meets m.time m.body l h

    apart-stays : (m : Message) (e : Equipment) → Apart n e → Apart n (handled n m e).equipment
    apart-stays m (EndSystem s) h = h
    apart-stays m (Switch s) h = h
    apart-stays m (Line l) h = h

  pub sends-carried : (s : NodeState) (m : Message) → Apart s.sender.number s.equipment → All IsCarriedIn (sends s m)
  sends-carried s m h =
      let wishes = wishes-meet s.sender.number m s.equipment h in
      sent-all IsCarriedIn s.sender (handled s.sender.number m s.equipment).reply.wishes (λ k d l n timely. wishes k _ l)

  pub all-carried : (s : NodeState) (ms : List Message) → Apart s.sender.number s.equipment → All IsCarriedIn (law.sent (rules_of node) s ms)
  all-carried s [] h = All-nil IsCarriedIn
  all-carried s (m ∷ ms) h =
      All-append IsCarriedIn (sends s m) (law.sent (rules_of node) (after s m) ms) (sends-carried s m h) (all-carried (after s m) ms (apart-stays s.sender.number m s.equipment h))

  pub apart-reached : (s : NodeState) (ms : List Message) → Apart s.sender.number s.equipment → Apart (law.reached (rules_of node) s ms).sender.number (law.reached (rules_of node) s ms).equipment
  apart-reached s [] h = h
  apart-reached s (m ∷ ms) h = apart-reached (after s m) ms (apart-stays s.sender.number m s.equipment h)

  -- so what goes to the line is what is carried into it
  pub same-kind : (ms : List Message) → All IsCarriedIn ms → filter (λ m. m.receiver == to) ms ≡ filter (is_to is_carry to) ms
  same-kind [] h = refl
  same-kind (m ∷ ms) h = go (m.receiver == to) refl (same-kind ms (All-tail IsCarriedIn m ms h))
    where
      go : (b : Bool) → (m.receiver == to) ≡ b → filter (λ m. m.receiver == to) ms ≡ filter (is_to is_carry to) ms →
          cond b (m ∷ filter (λ m. m.receiver == to) ms) (filter (λ m. m.receiver == to) ms) ≡ cond (cond b (is_carry m.body) false) (m ∷ filter (is_to is_carry to) ms) (filter (is_to is_carry to) ms)
      go true e r = rw (All-head IsCarriedIn m ms h (eqb-true m.receiver to e)) (ap (λ z. m ∷ z) r)
      go false e r = r
