-- What a message makes of the regulator of a virtual link at its end system: nothing, or the regulator is asked something, as the message says.
use Rattle.std.proofs.Common.{◌≡◌, ℕ, ◌+◌, ◌==◌, ◌&&◌, inl, inr, Bool, true, false, cond, List, [], ◌++◌, filter, Option, Some, None, option_map, refl, sym, ap, ◌∙◌, subst, append-nil, eq-eqb, ne_eqb}
use Rattle.std.specs.Prelude.{⊤}
use Rattle.std.proofs.lemmas.Bool.{cases_eq}
use Rattle.std.proofs.lemmas.Option.{none-some, same_Some}
use Rattle.std.proofs.lemmas.List.Elements.{filter-append}
use Rattle.vlink.specs.declared.frame.Frame.{Frame}
use Rattle.vlink.specs.declared.frame.Net.{Net}
use Rattle.vlink.specs.declared.frame.Net.TheVariants.{A, B}
use Rattle.vlink.specs.declared.frame.VlId.{VlId}
use Rattle.vlink.specs.declared.message.Message.{Message}
use Rattle.vlink.specs.declared.message.Body.{Body}
use Rattle.vlink.specs.declared.message.Body.TheVariants as body
use Rattle.vlink.specs.declared.note.Cause.TheVariants as cause
use Rattle.bag_regulator.specs.Regulator.{Regulator, regulator}
use Rattle.bag_regulator.specs.declared.event.RegEvent.{RegEvent}
use Rattle.bag_regulator.specs.declared.event.RegEvent.TheVariants.{Offer, Release}
use Rattle.bag_regulator.specs.declared.event.RegAnswer.{RegAnswer}
use Rattle.bag_regulator.specs.declared.event.RegAnswer.TheVariants as answer
use Rattle.output_port.specs.declared.event.PortEvent.{PortEvent}
use Rattle.output_port.specs.declared.event.PortEvent.TheVariants.{Put, Free}
use Rattle.reverse.specs.Sending.{Reply, Wish, loss, silent}
use Rattle.nodes.specs.declared.equipment.Equipment.{Equipment}
use Rattle.nodes.specs.declared.equipment.Equipment.TheVariants.{EndSystem}
use Rattle.nodes.specs.declared.reception.Reception.{Reception}
use Rattle.nodes.specs.declared.source.Source.{Source}
use Rattle.nodes.specs.declared.vl_end.VlEnd.{VlEnd}
use Rattle.nodes.specs.rules.EndSystem.{EndSystemState, asked, copied, copied_reply, copy, end_system, full, is_on, offered_frame, port_of, reception_at, regulated, released_reply, source_at, source_number}
use Rattle.nodes.specs.rules.EndSystem as es
use Rattle.nodes.specs.rules.Finding.{Found, find}
use Rattle.nodes.specs.rules.Ports.{PortsState, exists, reply}
use Rattle.nodes.specs.rules.Node.{handled, regulator_in}
use Rattle.nodes.specs.laws.Ports.{reply-cases}
use Rattle.port_turns.specs.PortEvents.{asks, copy_asks, end_system_asks, or_else, regulated_asks}
use Rattle.port_turns.proofs.Found.{found-number, found-other, found-set}
use Rattle.port_turns.proofs.Quiet.{full-quiet, received-quiet}
use Rattle.port_turns.proofs.Sources.{OfPut, subject}
use Rattle.port_turns.specs.Nodes.{is_offer_of}

module _ (v : ℕ) where
  -- the message releases a frame of it
  abbrev pub is_release : Body → Bool
  is_release (body.Release vl) = vl.0 == v
  is_release _ = false

  abbrev pub releases : List Wish → List Wish
  releases ws = filter (λ w. is_release w.body) ws

  -- the message asks that of the regulator
  abbrev pub IsSaid : ℕ → Body → RegEvent → Type 0
  IsSaid t b (Offer at sub frame) = (is_offer_of v b ≡ true) × (at ≡ t) × (frame.offered ≡ t)
  IsSaid t b (Release at) = (is_release b ≡ true) × (at ≡ t)

  -- a frame of the virtual link that is put has P
  abbrev pub OfPutBy : (Frame → Type 0) → Option PortEvent → Type 0
  OfPutBy P None = ⊤
  OfPutBy P (Some Free) = ⊤
  OfPutBy P (Some (Put frame r)) = frame.vl.0 ≡ v → P frame

  -- as the frame that the answer releases
  abbrev pub LikeReleased : RegAnswer → Frame → Type 0
  LikeReleased (answer.Released f) frame = (frame.released ≡ f.released) × (frame.offered ≡ f.offered)
  LikeReleased _ frame = ⊥

  pub data Turned (n t : ℕ) (b : Body) (before : Regulator) (now : Option Regulator) (ws : List Wish) (put : Option PortEvent) : Type 0 where
    Quiet : now ≡ Some before → ws ≡ [] → is_release b ≡ false → is_offer_of v b ≡ false → OfPutBy (λ f. ⊥) put → Turned n t b before now ws put
    Does : (e : RegEvent) → IsSaid t b e → now ≡ Some (regulator.after before e) → (vl : VlId) → vl.0 ≡ v → ws ≡ (asked n vl (regulator.out before e).release_at).wishes →
        OfPutBy (LikeReleased (regulator.out before e).answer) put → Turned n t b before now ws put

  module _ (n t q : ℕ) where
    none-ports : (k : ℕ) (e : PortEvent) (ports : PortsState) → releases (reply n t k e ports).wishes ≡ []
    none-ports k e ports = reply-cases (λ r. releases r.wishes ≡ []) n t k e ports (λ r h. ap releases h) (λ outlet frame h. refl)

    none-copied : (end : VlEnd) (net : Net) (frame : Frame) (ports : PortsState) → releases (copied_reply n t end net frame ports).wishes ≡ []
    none-copied end net frame ports = go (is_on end net)
      where
        go : (b : Bool) → releases (cond b (reply n t (port_of net) (copy net frame) ports) silent).wishes ≡ []
        go true = none-ports (port_of net) (copy net frame) ports
        go false = refl

    none-released : (end : VlEnd) (a : RegAnswer) (ports : PortsState) → releases (released_reply n t end a ports).wishes ≡ []
    none-released end (answer.Released frame) ports =
        filter-append (λ (w : Wish). is_release w.body) (copied_reply n t end A frame ports).wishes (copied_reply n t end B frame (copied end A frame ports)).wishes ∙
        (ap (λ z. z ++ releases (copied_reply n t end B frame (copied end A frame ports)).wishes) (none-copied end A frame ports) ∙ none-copied end B frame (copied end A frame ports))
    none-released end _ ports = refl

    -- of all that follows of an event of a regulator, the Release that it asks for
    regulated-wishes : (e : RegEvent) (otherwise : Reply) (s : EndSystemState) (found : Found Source) →
        releases (regulated n t e otherwise s (Some found)).reply.wishes ≡ releases (asked n found.entry.end.vl (regulator.out found.entry.regulator e).release_at).wishes
    regulated-wishes e otherwise s found =
        let out = regulator.out found.entry.regulator e in
        let ask : List Wish = (asked n found.entry.end.vl out.release_at).wishes in
        filter-append (λ (w : Wish). is_release w.body) ((full e out.answer).wishes ++ ask) (released_reply n t found.entry.end out.answer s.ports).wishes ∙
        (ap (λ z. releases ((full e out.answer).wishes ++ ask) ++ z) (none-released found.entry.end out.answer s.ports) ∙
        (append-nil (releases ((full e out.answer).wishes ++ ask)) ∙ ap (λ z. releases (z ++ ask)) (full-quiet e out.answer)))

    asked-own : (vl : VlId) (ask : Option ℕ) → vl.0 ≡ v → releases (asked n vl ask).wishes ≡ (asked n vl ask).wishes
    asked-own vl None e = refl
    asked-own vl (Some at) e = rw (eq-eqb vl.0 v e) refl

    asked-other : (vl : VlId) (ask : Option ℕ) → (vl.0 ≡ v → ⊥) → releases (asked n vl ask).wishes ≡ []
    asked-other vl None d = refl
    asked-other vl (Some at) d = rw (ne_eqb vl.0 v d) refl

    copies-like : (end : VlEnd) (a : RegAnswer) → OfPutBy (LikeReleased a) (or_else (copy_asks q end A a) (copy_asks q end B a))
    copies-like end (answer.Released frame) = go ((port_of A == q) && is_on end A) ((port_of B == q) && is_on end B)
      where
        go : (a b : Bool) → OfPutBy (LikeReleased (answer.Released frame)) (or_else (cond a (Some (copy A frame)) None) (cond b (Some (copy B frame)) None))
        go true b = λ e. (refl, refl)
        go false true = λ e. (refl, refl)
        go false false = tt
    copies-like end _ = tt

    -- a frame of another virtual link
    other-put : (k : ℕ) (o : Option PortEvent) → OfPut (λ w frame. frame.vl.0 ≡ w) k t o → (k ≡ v → ⊥) → OfPutBy (λ f. ⊥) o
    other-put k None p d = tt
    other-put k (Some Free) p d = tt
    other-put k (Some (Put frame r)) p d = λ e. d (sym p.1 ∙ (sym (ap (λ (z : Frame). z.vl.0) p.2) ∙ e))

    abbrev regulator_of : EndSystemState → Option Regulator
    regulator_of s = option_map (λ found. found.entry.regulator) (find source_number s.sources v)

    regulated-turn : (b : Body) (vl : VlId) (e : RegEvent) (otherwise : Reply) (s : EndSystemState) (g : Regulator) → (vl.0 ≡ v → IsSaid t b e) → ((vl.0 ≡ v → ⊥) → (is_release b ≡ false) × (is_offer_of v b ≡ false)) →
        OfPut (λ w frame. frame.vl.0 ≡ w) vl.0 t (regulated_asks q e (source_at s vl)) → regulator_of s ≡ Some g → otherwise.wishes ≡ [] →
        Turned n t b g (regulator_of (regulated n t e otherwise s (source_at s vl)).state) (releases (regulated n t e otherwise s (source_at s vl)).reply.wishes) (regulated_asks q e (source_at s vl))
    regulated-turn b vl e otherwise s g said not put is quiet = elim (cases_eq vl.0 v) [
      | inl k ↦ own k (source_at s vl) refl
      | inr d ↦ Quiet (other d (source_at s vl) refl) (other-wishes d (source_at s vl) refl) (not d).0 (not d).1 (other-put vl.0 (regulated_asks q e (source_at s vl)) put d)
    ]
      where
        own : vl.0 ≡ v → (o : Option (Found Source)) → source_at s vl ≡ o →
            Turned n t b g (regulator_of (regulated n t e otherwise s o).state) (releases (regulated n t e otherwise s o).reply.wishes) (regulated_asks q e o)
        own k None h = absurd (none-some g (sym (ap (option_map (λ (f : Found Source). f.entry.regulator)) (subst (λ i. find source_number s.sources i ≡ None) k h)) ∙ is))
        own k (Some found) h =
            let here : find source_number s.sources v ≡ Some found = subst (λ i. find source_number s.sources i ≡ Some found) k h in
            let same : found.entry.regulator ≡ g = same_Some found.entry.regulator g (sym (ap (option_map (λ (f : Found Source). f.entry.regulator)) here) ∙ is) in
            let now = ap (option_map (λ (f : Found Source). f.entry.regulator)) (found-set source_number s.sources v found here (record found.entry { regulator = regulator.after found.entry.regulator e }) refl) in
            let number : found.entry.end.vl.0 ≡ v = found-number source_number s.sources v found here in
            Does e (said k) (now ∙ ap (λ z. Some (regulator.after z e)) same) found.entry.end.vl number
            (regulated-wishes e otherwise s found ∙ (asked-own found.entry.end.vl (regulator.out found.entry.regulator e).release_at number ∙ ap (λ z. (asked n found.entry.end.vl (regulator.out z e).release_at).wishes) same))
            (subst (λ z. OfPutBy (LikeReleased (regulator.out z e).answer) (or_else (copy_asks q found.entry.end A (regulator.out found.entry.regulator e).answer) (copy_asks q found.entry.end B (regulator.out found.entry.regulator e).answer))) same
            (copies-like found.entry.end (regulator.out found.entry.regulator e).answer))

        other : (vl.0 ≡ v → ⊥) → (o : Option (Found Source)) → source_at s vl ≡ o → regulator_of (regulated n t e otherwise s o).state ≡ Some g
        other d None h = is
        other d (Some found) h =
            ap (option_map (λ (f : Found Source). f.entry.regulator)) (found-other source_number s.sources vl.0 found h (record found.entry { regulator = regulator.after found.entry.regulator e }) refl v (λ k. d (sym k))) ∙ is

        other-wishes : (vl.0 ≡ v → ⊥) → (o : Option (Found Source)) → source_at s vl ≡ o → releases (regulated n t e otherwise s o).reply.wishes ≡ []
        other-wishes d None h = ap releases quiet
        other-wishes d (Some found) h =
            regulated-wishes e otherwise s found ∙ asked-other found.entry.end.vl (regulator.out found.entry.regulator e).release_at (λ k. d (sym (found-number source_number s.sources vl.0 found h) ∙ k))

    source-turn : (b : Body) (s : EndSystemState) (g : Regulator) → OfPut (λ w frame. frame.vl.0 ≡ w) (subject b) t (end_system_asks q t b s) → regulator_of s ≡ Some g →
        Turned n t b g (regulator_of (end_system n t b s).state) (releases (end_system n t b s).reply.wishes) (end_system_asks q t b s)
    source-turn (body.Offer vl bytes sub) s g p is =
        regulated-turn (body.Offer vl bytes sub) vl (Offer t sub (offered_frame t vl bytes)) (loss cause.Unknown (offered_frame t vl bytes)) s g (λ k. (eq-eqb vl.0 v k, refl, refl)) (λ d. (refl, ne_eqb vl.0 v d)) p is refl
    source-turn (body.Release vl) s g p is = regulated-turn (body.Release vl) vl (Release t) silent s g (λ k. (eq-eqb vl.0 v k, refl)) (λ d. (ne_eqb vl.0 v d, refl)) p is refl
    source-turn (body.PortFree k) s g p is = Quiet is (none-ports k Free s.ports) refl refl (go (k == q))
      where
        go : (b : Bool) → OfPutBy (λ f. ⊥) (cond b (Some Free) None)
        go true = tt
        go false = tt
    source-turn (body.Arrive k frame) s g p is = go (exists s.ports k) (reception_at s frame.vl frame.net)
      where
        go : (b : Bool) (o : Option (Found Reception)) → Turned n t (body.Arrive k frame) g (regulator_of (cond b (es.taken_in t frame s o) (es.unmoved s)).state) (releases (cond b (es.taken_in t frame s o) (es.unmoved s)).reply.wishes) None
        go true None = Quiet is refl refl refl tt
        go true (Some found) = Quiet is (ap releases (received-quiet t frame found.entry.receiving)) refl refl tt
        go false o = Quiet is refl refl refl tt
    source-turn _ s g p is = Quiet is refl refl refl tt

  -- a frame that is put is of the virtual link that the message is about
  abbrev pub OfPutAt : ℕ → Message → Equipment → Type 0
  OfPutAt q m (EndSystem s) = OfPut (λ w frame. frame.vl.0 ≡ w) (subject m.body) m.time (end_system_asks q m.time m.body s)
  OfPutAt q m _ = ⊤

  pub node-turn : (n q : ℕ) (m : Message) (e : Equipment) (g : Regulator) → OfPutAt q m e → regulator_in e (record { 0 = v }) ≡ Some g →
      Turned n m.time m.body g (regulator_in (handled n m e).equipment (record { 0 = v })) (releases (handled n m e).reply.wishes) (asks q m e)
  node-turn n q m (EndSystem s) g p is = source-turn n m.time q m.body s g p is
  node-turn n q m _ g p is = absurd (none-some g is)
