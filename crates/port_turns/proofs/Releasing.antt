-- Why the frames that an end system puts to a port are one BAG apart: each is put at the moment at which its regulator releases it.
use Rattle.std.proofs.Common.{◌≡◌, ℕ, inl, Bool, true, false, cond, List, [], ◌∷◌, ◌++◌, Option, Some, None, refl, sym, ap, subst, ne_eqb}
use Rattle.std.proofs.lemmas.Option.{none-some}
use Rattle.vlink.specs.declared.frame.Frame.{Frame}
use Rattle.vlink.specs.declared.message.Message.{Message}
use Rattle.vlink.specs.declared.message.Body.{Body}
use Rattle.vlink.specs.declared.message.Body.TheVariants as body
use Rattle.bag_regulator.specs.Regulator.{Regulator, regulator}
use Rattle.bag_regulator.specs.Spacing.{if_released, moment_of, releases_of}
use Rattle.bag_regulator.specs.declared.event.RegEvent.{RegEvent}
use Rattle.bag_regulator.specs.declared.event.RegEvent.TheVariants.{Offer, Release}
use Rattle.bag_regulator.specs.declared.event.RegAnswer.{RegAnswer}
use Rattle.bag_regulator.specs.declared.event.RegAnswer.TheVariants as answer
use Rattle.output_port.specs.Port.{PortState}
use Rattle.output_port.specs.declared.event.Priority.{Priority}
use Rattle.output_port.specs.declared.event.PortEvent.{PortEvent}
use Rattle.output_port.specs.declared.event.PortEvent.TheVariants.{Put, Free}
use Rattle.reverse.specs.Sending.{Wish}
use Rattle.port_bounds.specs.Sublists.{IsSublist}
use Rattle.port_bounds.specs.Pacing.{IsPaced}
use Rattle.port_bounds.specs.Arrivals.{is_of_link, moments_at}
use Rattle.port_bounds.proofs.SublistLemmas.{sub-both, sub-trans}
use Rattle.port_bounds.proofs.ArrivalLemmas.{fewer-paced}
use Rattle.element_bounds.specs.PortTrace.{trace_of}
use Rattle.element_bounds.proofs.ReleaseLemmas.{releases-paced}
use Rattle.nodes.specs.declared.equipment.Equipment.{Equipment}
use Rattle.nodes.specs.declared.equipment.Equipment.TheVariants.{EndSystem}
use Rattle.nodes.specs.rules.Node.{NodeState, after, handled, regulator_in}
use Rattle.port_turns.specs.PortEvents.{asks}
use Rattle.port_turns.specs.PortRuns.{AreOwnFrames, port_events, puts_with}
use Rattle.port_turns.proofs.RegulatorTurns.{IsSaid, LikeReleased, OfPutBy, Turned, node-turn}
use Rattle.port_turns.proofs.RegulatorTurns.Turned.{Does, Quiet as Unmoved}
use Rattle.port_turns.proofs.Sources.{IsOfferFit, source-keeps}
use Rattle.port_turns.proofs.TracePuts.{put_of, puts_at, trace-sub}

-- a frame is of the virtual link with this number
abbrev IsOwn : ℕ → Frame → Type 0
IsOwn k frame = frame.vl.0 ≡ k

-- nothing changes of the regulator, or it does something, and a frame is put only where it releases one
data Asked (t : ℕ) (before : Regulator) (now : Option Regulator) (times : List ℕ) : Type 0 where
  Quiet : now ≡ Some before → times ≡ [] → Asked t before now times
  Asks : (e : RegEvent) → moment_of e ≡ t → now ≡ Some (regulator.after before e) → IsSublist times (if_released (regulator.out before e).answer t) → Asked t before now times

module _ (v t : ℕ) where
  abbrev times : Option PortEvent → List ℕ
  times o = cond (put_of v o) (t ∷ []) []

  none-put : (o : Option PortEvent) → OfPutBy v (λ f. ⊥) o → times o ≡ []
  none-put None h = refl
  none-put (Some Free) h = refl
  none-put (Some (Put frame r)) h = ap (λ b. cond b (t ∷ []) []) (ne_eqb frame.vl.0 v h)

  some-put : (a : RegAnswer) (o : Option PortEvent) → OfPutBy v (LikeReleased v a) o → IsSublist (times o) (if_released a t)
  some-put (answer.Released f) o h = go (put_of v o)
    where
      go : (b : Bool) → IsSublist (cond b (t ∷ []) []) (t ∷ [])
      go true = inl (refl, tt)
      go false = tt
  some-put _ o h = subst (λ z. IsSublist z []) (sym (none-put o h)) tt

  said-at : (b : Body) (e : RegEvent) → IsSaid v t b e → moment_of e ≡ t
  said-at b (Offer at sub frame) said = said.1
  said-at b (Release at) said = said.1

  as-asked : (n : ℕ) (b : Body) (before : Regulator) (now : Option Regulator) (ws : List Wish) (o : Option PortEvent) → Turned v n t b before now ws o → Asked t before now (times o)
  as-asked n b before now ws o (Unmoved is none release offer put) = Quiet is (none-put o put)
  as-asked n b before now ws o (Does e said is vl own wished put) = Asks e (said-at b e said) is (some-put (regulator.out before e).answer o put)

-- a message to a node that has the regulator, and in whose regulators each frame is of its virtual link
record IsAsked (n q v : ℕ) (m : Message) (e : Equipment) (g : Regulator) : Type 0 where
  own : AreOwnFrames (handled n m e).equipment
  asked : Asked m.time g (regulator_in (handled n m e).equipment (record { 0 = v })) (cond (put_of v (asks q m e)) (m.time ∷ []) [])

offer-own : (t : ℕ) (b : Body) → IsOfferFit IsOwn t b
offer-own t (body.Offer vl size sub) = refl
offer-own t _ = tt

node-asked : (n q v : ℕ) (m : Message) (e : Equipment) (g : Regulator) → AreOwnFrames e → regulator_in e (record { 0 = v }) ≡ Some g → IsAsked n q v m e g
node-asked n q v m (EndSystem s) g own is =
    let k = source-keeps IsOwn n m.time q m.body s (offer-own m.time m.body) own in
    record { own = k.waiting; asked = as-asked v m.time n m.body g _ _ (asks q m (EndSystem s)) (node-turn v n q m (EndSystem s) g k.put is) }
node-asked n q v m _ g own is = absurd (none-some g is)

-- what the regulator was asked, and the moments of puts among its releases
record AreReleased (g : Regulator) (times : List ℕ) : Type 0 where
  events : List RegEvent
  sub : IsSublist times (releases_of g events)

ahead : (b : Bool) (t : ℕ) (ts : List ℕ) → cond b (t ∷ []) [] ++ ts ≡ cond b (t ∷ ts) ts
ahead true t ts = refl
ahead false t ts = refl

released : (q v : ℕ) (s : NodeState) (g : Regulator) (ms : List Message) → AreOwnFrames s.equipment → regulator_in s.equipment (record { 0 = v }) ≡ Some g → AreReleased g (puts_at v q s ms)
released q v s g [] own is = record { events = []; sub = tt }
released q v s g (m ∷ ms) own is =
    let k = node-asked s.sender.number q v m s.equipment g own is in
    subst (AreReleased g) (ahead (put_of v (asks q m s.equipment)) m.time (puts_at v q (after s m) ms)) (go k.asked (λ now e. released q v (after s m) now ms k.own e))
  where
    go : Asked m.time g (regulator_in (after s m).equipment (record { 0 = v })) (cond (put_of v (asks q m s.equipment)) (m.time ∷ []) []) →
        ((now : Regulator) → regulator_in (after s m).equipment (record { 0 = v }) ≡ Some now → AreReleased now (puts_at v q (after s m) ms)) →
        AreReleased g (cond (put_of v (asks q m s.equipment)) (m.time ∷ []) [] ++ puts_at v q (after s m) ms)
    go (Quiet now none) later =
        let r = later g now in
        record { events = r.events; sub = subst (λ z. IsSublist (z ++ puts_at v q (after s m) ms) (releases_of g r.events)) (sym none) r.sub }
    go (Asks e at now some) later =
        let r = later (regulator.after g e) now in
        record {
          events = e ∷ r.events;
          sub = sub-both (cond (put_of v (asks q m s.equipment)) (m.time ∷ []) []) (puts_at v q (after s m) ms) (if_released (regulator.out g e).answer (moment_of e)) (releases_of (regulator.after g e) r.events)
              (subst (λ z. IsSublist (cond (put_of v (asks q m s.equipment)) (m.time ∷ []) []) (if_released (regulator.out g e).answer z)) (sym at) some) r.sub;
        }

pub source-traces-paced : (q v : ℕ) (s : NodeState) (g : Regulator) (ms : List Message) → regulator_in s.equipment (record { 0 = v }) ≡ Some g → AreOwnFrames s.equipment →
    (byte_ns : ℕ) (state : PortState) (k : Priority) → IsPaced g.bag 0 (moments_at (is_of_link v) (puts_with k (trace_of byte_ns state (port_events q s ms))))
source-traces-paced q v s g ms is own byte_ns state k =
    let r = released q v s g ms own is in
    fewer-paced g.bag 0 _ (releases_of g r.events) (sub-trans _ _ _ (trace-sub v byte_ns q k s state ms) r.sub) (releases-paced g r.events)
