-- What holds of all that a node can send holds of what it sends. So it sends nothing of a kind to a process, where such messages are frames put
-- to an output or brought by a line, and go elsewhere.
use Rattle.std.proofs.Common.{◌≡◌, ℕ, ◌+◌, Bool, true, false, cond, [], ◌∷◌, filter, All, IfSome, Option, None, Some, refl}
use Rattle.std.specs.List.{list_any}
use Rattle.std.proofs.lemmas.Bool.{both_ways}
use Rattle.std.proofs.lemmas.List.Elements.{All-nil, All-cons}
use Rattle.vlink.specs.declared.frame.Frame.{Frame}
use Rattle.vlink.specs.declared.frame.VlId.{VlId}
use Rattle.vlink.specs.declared.message.Message.{Message}
use Rattle.vlink.specs.declared.message.Body.{Body}
use Rattle.vlink.specs.declared.message.Body.TheVariants as body
use Rattle.vlink.specs.declared.note.Cause.TheVariants as cause
use Rattle.bag_regulator.specs.Regulator.{regulator}
use Rattle.reverse.specs.Sending.{Wish, loss}
use Rattle.nodes.specs.declared.ports.LineAhead.{LineAhead}
use Rattle.nodes.specs.declared.ports.Outlet.{Outlet}
use Rattle.nodes.specs.declared.equipment.Equipment.{Equipment}
use Rattle.nodes.specs.declared.equipment.Equipment.TheVariants.{EndSystem, Switch, Line}
use Rattle.nodes.specs.rules.Line.{LineState, is_within, line}
use Rattle.nodes.specs.rules.Node.{handled}
use Rattle.nodes.specs.laws.Ports.{AheadMeets, carrying, freeing}
use Rattle.nodes.specs.laws.EndSystemSending.{end_system-all}
use Rattle.nodes.specs.laws.SwitchSending.{switch-all, wish_to}
use Rattle.port_turns.proofs.SentKinds.{IsElsewhere, mine, none-elsewhere}

-- a line sends the frame that it carries, if anything
pub line-all : (P : Wish → Type 0) (t : ℕ) (b : Body) (l : LineState) → ((frame : Frame) → b ≡ body.Carry frame → P (record { time = t + l.propagation; receiver = l.to; body = body.Arrive l.to_port frame })) →
    All P (line t b l).wishes
line-all P t (body.Carry frame) l h = go (list_any (is_within t) l.outages)
  where
    go : (b : Bool) → All P (cond b (loss cause.Outage frame) (record { wishes = record { time = t + l.propagation; receiver = l.to; body = body.Arrive l.to_port frame } ∷ []; notes = [] })).wishes
    go true = All-nil P
    go false = All-cons P _ [] (h frame refl) (All-nil P)
line-all P t _ l h = All-nil P

-- P holds of all that node n can send, with this equipment
pub record OfAllSent (P : Wish → Type 0) (n : ℕ) (e : Equipment) : Type 0 where
  pub starts : (t q : ℕ) (ahead : LineAhead) (frame : Frame) → P (carrying t ahead frame) × P (freeing n t q ahead frame)
  pub releases : (t : ℕ) (vl : VlId) → P (record { time = t; receiver = n; body = body.Release vl })
  pub puts : (t q : ℕ) (frame : Frame) → P (wish_to n t frame q)
  pub arrivals : (l : LineState) → e ≡ Line l → (t : ℕ) (frame : Frame) → P (record { time = t; receiver = l.to; body = body.Arrive l.to_port frame })

module _ (P : Wish → Type 0) (n : ℕ) (m : Message) where
  ahead-meets : (e : Equipment) → OfAllSent P n e → (o : Option Outlet) → IfSome o (λ outlet. AheadMeets P n m.time outlet.ahead)
  ahead-meets e h None = tt
  ahead-meets e h (Some outlet) = λ q frame. h.starts m.time q outlet.ahead frame

  asks-meet : (e : Equipment) → OfAllSent P n e → (o : Option ℕ) (vl : VlId) → IfSome o (λ at. P (record { time = at; receiver = n; body = body.Release vl }))
  asks-meet e h None vl = tt
  asks-meet e h (Some at) vl = h.releases at vl

  pub all-sent : (e : Equipment) → OfAllSent P n e → All P (handled n m e).reply.wishes
  all-sent (EndSystem s) h =
      end_system-all P n m.time m.body s (λ k d l. ahead-meets (EndSystem s) h _) (λ vl e found at is. asks-meet (EndSystem s) h (regulator.out found.entry.regulator e).release_at found.entry.end.vl)
  all-sent (Switch s) h = switch-all P n m.time m.body s (λ k d l. ahead-meets (Switch s) h _) (λ q frame. h.puts (m.time + s.latency) q frame)
  all-sent (Line l) h = line-all P m.time m.body l (λ frame is. h.arrivals l refl (m.time + l.propagation) frame)

-- no Release, PortFree or Carry is of the kind
pub record IsOnWay (kind : Body → Bool) : Type 0 where
  pub no_release : (vl : VlId) → kind (body.Release vl) ≡ false
  pub no_free : (k : ℕ) → kind (body.PortFree k) ≡ false
  pub no_carry : (frame : Frame) → kind (body.Carry frame) ≡ false

pub all-elsewhere : (kind : Body → Bool) → IsOnWay kind → (to n : ℕ) (m : Message) (e : Equipment) → ((k : ℕ) (frame : Frame) → kind (body.Enqueue k frame) ≡ true → n ≡ to → ⊥) →
    ((l : LineState) → e ≡ Line l → (frame : Frame) → kind (body.Arrive l.to_port frame) ≡ true → l.to ≡ to → ⊥) → filter (mine kind to) (handled n m e).reply.wishes ≡ []
all-elsewhere kind K to n m e puts arrives = none-elsewhere kind to _ (all-sent (IsElsewhere kind to) n m e (record {
  starts = λ t q ahead frame. (λ h. absurd (both_ways _ (K.no_carry frame) h), λ h. absurd (both_ways _ (K.no_free q) h));
  releases = λ t vl h. absurd (both_ways _ (K.no_release vl) h);
  puts = λ t q frame. puts q frame;
  arrivals = λ l is t frame. arrives l is frame;
}))
