-- What is sent of a kind of message to one process: what is wished of the kind for that process, and not for later than the end of the run.
use Rattle.std.proofs.Common.{◌≡◌, ℕ, ◌+◌, ◌<◌, ◌≤◌, ◌==◌, inl, inr, Bool, true, false, cond, nat_le, List, [], ◌∷◌, ◌++◌, filter, map, All, refl, sym, ap, ◌∙◌, subst, arith, eqb-true, eq-eqb}
use Rattle.std.specs.Prelude.{⊤}
use Rattle.std.proofs.lemmas.Bool.{le-leb, lt-leb}
use Rattle.std.proofs.lemmas.List.{map-append}
use Rattle.std.proofs.lemmas.List.Elements.{All-head, All-tail, filter-append}
use Rattle.vlink.specs.declared.message.Message.{Message}
use Rattle.vlink.specs.declared.frame.VlId.{VlId}
use Rattle.vlink.specs.declared.message.Body.{Body}
use Rattle.vlink.specs.declared.message.Body.TheVariants as body
use Rattle.reverse.specs.Sending.{Sender, Wish, message_of, sent}
use Rattle.reverse.specs.Rules.{rules_of}
use Rattle.virtual_time.specs.Law as law
use Rattle.port_bounds.specs.Sublists.{IsSublist}
use Rattle.port_bounds.proofs.SublistLemmas.{sub-behind, sub-both, sub-trans}
use Rattle.nodes.specs.rules.Node.{NodeState, after, handled, sends}
use Rattle.nodes.specs.undoing.Node.{node}
use Rattle.port_turns.specs.Nodes.{is_offer}

-- the wish that a message was
abbrev pub as_wish : Message → Wish
as_wish m = record { time = m.time; receiver = m.receiver; body = m.body }

pub sub-filter : {X : Type 0} (test : X → Bool) (xs : List X) → IsSublist (filter test xs) xs
sub-filter test [] = tt
sub-filter test (x ∷ xs) = go (test x) (sub-filter test xs)
  where
    go : (b : Bool) → IsSublist (filter test xs) xs → IsSublist (cond b (x ∷ filter test xs) (filter test xs)) (x ∷ xs)
    go true h = inl (refl, h)
    go false h = sub-behind (filter test xs) (x ∷ []) xs h

pub sub-refl : {X : Type 0} (xs : List X) → IsSublist xs xs
sub-refl [] = tt
sub-refl (x ∷ xs) = inl (refl, sub-refl xs)

pub sub-map : {X Y : Type 0} (f : X → Y) (xs ys : List X) → IsSublist xs ys → IsSublist (map f xs) (map f ys)
sub-map f [] ys h = tt
sub-map f (x ∷ xs) [] h = absurd h
sub-map f (x ∷ xs) (y ∷ ys) (inl e) = inl (ap f e.0, sub-map f xs ys e.1)
sub-map f (x ∷ xs) (y ∷ ys) (inr k) = inr (sub-map f (x ∷ xs) ys k)

abbrev pub times_of : List Message → List ℕ
times_of ms = map (λ m. m.time) ms

abbrev pub moments_of : List Wish → List ℕ
moments_of ws = map (λ w. w.time) ws

pub moments-times : (ms : List Message) → moments_of (map as_wish ms) ≡ times_of ms
moments-times [] = refl
moments-times (m ∷ ms) = ap (λ z. m.time ∷ z) (moments-times ms)

-- moments do not fall, from t on
abbrev pub AreFrom : ℕ → List ℕ → Type 0
AreFrom t [] = ⊤
AreFrom t (a ∷ rest) = (t ≤ a) × AreFrom a rest

pub from-sooner : (t a : ℕ) (ts : List ℕ) → t ≤ a → AreFrom a ts → AreFrom t ts
from-sooner t a [] l h = tt
from-sooner t a (x ∷ xs) l h = (omega (arith, h.0), h.1)

pub from-sub : (t : ℕ) (xs ys : List ℕ) → IsSublist xs ys → AreFrom t ys → AreFrom t xs
from-sub t [] ys s h = tt
from-sub t (x ∷ xs) [] s h = absurd s
from-sub t (x ∷ xs) (y ∷ ys) (inl e) h = subst (λ z. AreFrom t (z ∷ xs)) (sym e.0) (h.0, from-sub y xs ys e.1 h.1)
from-sub t (x ∷ xs) (y ∷ ys) (inr k) h = from-sub t (x ∷ xs) ys k (from-sooner t y ys h.0 h.1)

-- what is made of wishes, each by its moment and what it says
abbrev pub flat : {X : Type 0} → (ℕ → Body → List X) → List Wish → List X
flat g [] = []
flat g (w ∷ ws) = g w.time w.body ++ flat g ws

pub flat-sub : {X : Type 0} (g : ℕ → Body → List X) (ws vs : List Wish) → IsSublist ws vs → IsSublist (flat g ws) (flat g vs)
flat-sub g [] vs h = tt
flat-sub g (w ∷ ws) [] h = absurd h
flat-sub g (w ∷ ws) (v ∷ vs) (inl e) = subst (λ z. IsSublist (g z.time z.body ++ flat g ws) (flat g (v ∷ vs))) (sym e.0) (sub-both (g v.time v.body) (flat g ws) (g v.time v.body) (flat g vs) (sub-refl (g v.time v.body)) (flat-sub g ws vs e.1))
flat-sub g (w ∷ ws) (v ∷ vs) (inr k) = sub-behind (flat g (w ∷ ws)) (g v.time v.body) (flat g vs) (flat-sub g (w ∷ ws) vs k)

map-nil : (ms : List Message) → map as_wish ms ≡ [] → ms ≡ []
map-nil [] h = refl
map-nil (m ∷ ms) h = absurd (let z : ⊥ = cc in z)

module _ (kind : Body → Bool) (to : ℕ) where
  -- a message of the kind to the process, and a wish
  abbrev pub is_to : Message → Bool
  is_to m = cond (m.receiver == to) (kind m.body) false

  abbrev pub mine : Wish → Bool
  mine w = cond (w.receiver == to) (kind w.body) false

  pub receiver-is : (m : Message) → is_to m ≡ true → m.receiver ≡ to
  receiver-is m e = go (m.receiver == to) refl e
    where
      go : (b : Bool) → (m.receiver == to) ≡ b → cond b (kind m.body) false ≡ true → m.receiver ≡ to
      go true k e = eqb-true m.receiver to k
      go false k e = absurd (let z : ⊥ = cc in z)

  -- of these wishes, those for the process are of the kind
  pub mine-kind : (ws : List Wish) → filter mine ws ≡ filter (λ w. w.receiver == to) (filter (λ w. kind w.body) ws)
  mine-kind [] = refl
  mine-kind (w ∷ ws) = go (kind w.body) (w.receiver == to) refl (mine-kind ws)
    where
      go : (c r : Bool) → (w.receiver == to) ≡ r → filter mine ws ≡ filter (λ w. w.receiver == to) (filter (λ w. kind w.body) ws) →
          cond (cond r c false) (w ∷ filter mine ws) (filter mine ws) ≡ filter (λ w. w.receiver == to) (cond c (w ∷ filter (λ w. kind w.body) ws) (filter (λ w. kind w.body) ws))
      go true true e h = rw e (ap (λ z. w ∷ z) h)
      go true false e h = rw e h
      go false true e h = h
      go false false e h = h

  abbrev next : Sender → Sender
  next s = record s { counter = s.counter + 1 }

  abbrev pub timely : ℕ → List Wish → List Wish
  timely until ws = filter (λ w. nat_le w.time until) ws

  pub sent-mine : (s : Sender) (ws : List Wish) → map as_wish (filter is_to (sent s ws)) ≡ timely s.until (filter mine ws)
  sent-mine s [] = refl
  sent-mine s (w ∷ ws) = go (nat_le w.time s.until) refl (mine w) refl (sent-mine (next s) ws) (sent-mine s ws)
    where
      go : (b : Bool) → nat_le w.time s.until ≡ b → (c : Bool) → mine w ≡ c →
          map as_wish (filter is_to (sent (next s) ws)) ≡ timely s.until (filter mine ws) → map as_wish (filter is_to (sent s ws)) ≡ timely s.until (filter mine ws) →
          map as_wish (filter is_to (cond b (message_of s w ∷ sent (next s) ws) (sent s ws))) ≡ timely s.until (cond c (w ∷ filter mine ws) (filter mine ws))
      go true eb true ec rest skip = rw (ec, eb) (ap (λ z. w ∷ z) rest)
      go true eb false ec rest skip = rw ec rest
      go false eb true ec rest skip = rw eb skip
      go false eb false ec rest skip = skip

  -- none is sent where none is wished for the process in time
  sent-never : (s : Sender) (ws : List Wish) → timely s.until (filter mine ws) ≡ [] → filter is_to (sent s ws) ≡ []
  sent-never s ws h = map-nil (filter is_to (sent s ws)) (sent-mine s ws ∙ h)

  pub sent-none : (s : Sender) (ws : List Wish) → filter mine ws ≡ [] → filter is_to (sent s ws) ≡ []
  sent-none s ws h = sent-never s ws (ap (timely s.until) h)

  pub sent-late : (s : Sender) (ws : List Wish) (w : Wish) → filter mine ws ≡ w ∷ [] → s.until < w.time → filter is_to (sent s ws) ≡ []
  sent-late s ws w h l = sent-never s ws (ap (timely s.until) h ∙ ap (λ b. cond b (w ∷ []) []) (lt-leb w.time s.until l))

  -- and one where one is
  pub sent-one : (s : Sender) (ws : List Wish) (w : Wish) → filter mine ws ≡ w ∷ [] → w.time ≤ s.until → (m : Message) × (m.time ≡ w.time) × (filter is_to (sent s ws) ≡ m ∷ [])
  sent-one s ws w h l = go (filter is_to (sent s ws)) refl (sent-mine s ws ∙ (ap (timely s.until) h ∙ ap (λ b. cond b (w ∷ []) []) (le-leb w.time s.until l)))
    where
      go : (ms : List Message) → filter is_to (sent s ws) ≡ ms → map as_wish ms ≡ w ∷ [] → (m : Message) × (m.time ≡ w.time) × (filter is_to (sent s ws) ≡ m ∷ [])
      go [] k e = absurd (let z : ⊥ = cc in z)
      go (m ∷ []) k e = let same : as_wish m ≡ w = cc in (m, ap (λ (z : Wish). z.time) same, k)
      go (m ∷ (n ∷ ms)) k e = absurd (let z : ⊥ = cc in z)

  -- none of these wishes is for the process, where it is of the kind
  abbrev pub IsElsewhere : Wish → Type 0
  IsElsewhere w = kind w.body ≡ true → w.receiver ≡ to → ⊥

  pub none-elsewhere : (ws : List Wish) → All IsElsewhere ws → filter mine ws ≡ []
  none-elsewhere [] h = refl
  none-elsewhere (w ∷ ws) h = go (kind w.body) refl (w.receiver == to) refl (none-elsewhere ws (All-tail IsElsewhere w ws h))
    where
      go : (c : Bool) → kind w.body ≡ c → (r : Bool) → (w.receiver == to) ≡ r → filter mine ws ≡ [] → cond (cond r c false) (w ∷ filter mine ws) (filter mine ws) ≡ []
      go true ec true er k = absurd (All-head IsElsewhere w ws h ec (eqb-true w.receiver to er))
      go false ec true er k = k
      go c ec false er k = k

  -- what a node has sent of the kind to the process, as wishes
  abbrev pub wished : NodeState → List Message → List Wish
  wished s ms = map as_wish (filter is_to (law.sent (rules_of node) s ms))

  -- it is some of what its events wish for
  pub wished-sub : (s : NodeState) (m : Message) (ms : List Message) (first rest : List Wish) → IsSublist (filter mine (handled s.sender.number m s.equipment).reply.wishes) first →
      IsSublist (wished (after s m) ms) rest → IsSublist (wished s (m ∷ ms)) (first ++ rest)
  wished-sub s m ms first rest h k =
      subst (λ z. IsSublist z (first ++ rest)) (sym split)
      (sub-both (timely s.sender.until (filter mine (handled s.sender.number m s.equipment).reply.wishes)) (wished (after s m) ms) first rest
      (sub-trans _ _ _ (sub-filter (λ (w : Wish). nat_le w.time s.sender.until) (filter mine (handled s.sender.number m s.equipment).reply.wishes)) h) k)
    where
      split : wished s (m ∷ ms) ≡ timely s.sender.until (filter mine (handled s.sender.number m s.equipment).reply.wishes) ++ wished (after s m) ms
      split =
          ap (map as_wish) (filter-append is_to (sends s m) (law.sent (rules_of node) (after s m) ms)) ∙
          (map-append as_wish (filter is_to (sends s m)) (filter is_to (law.sent (rules_of node) (after s m) ms)) ∙
          ap (λ z. z ++ wished (after s m) ms) (sent-mine s.sender (handled s.sender.number m s.equipment).reply.wishes))

  -- and so is what is made of each wish
  pub made-sub : {X : Type 0} (made : Wish → X) (s : NodeState) (m : Message) (ms : List Message) (first rest : List X) → IsSublist (map made (filter mine (handled s.sender.number m s.equipment).reply.wishes)) first →
      IsSublist (map made (wished (after s m) ms)) rest → IsSublist (map made (wished s (m ∷ ms))) (first ++ rest)
  made-sub made s m ms first rest h k =
      sub-trans _ _ _ (subst (IsSublist (map made (wished s (m ∷ ms)))) (map-append made (filter mine (handled s.sender.number m s.equipment).reply.wishes) (wished (after s m) ms))
      (sub-map made _ _ (wished-sub s m ms _ _ (sub-refl (filter mine (handled s.sender.number m s.equipment).reply.wishes)) (sub-refl (wished (after s m) ms)))))
      (sub-both (map made (filter mine (handled s.sender.number m s.equipment).reply.wishes)) (map made (wished (after s m) ms)) first rest h k)

  -- where the first messages are offers, none of them is of the kind
  pub offers-none : ((vl : VlId) (size sub : ℕ) → kind (body.Offer vl size sub) ≡ false) → (ms : List Message) → All (λ m. is_offer m.body ≡ true) ms → filter is_to ms ≡ []
  offers-none never [] h = refl
  offers-none never (m ∷ ms) h = go (m.receiver == to) (none m.body (All-head (λ (m : Message). is_offer m.body ≡ true) m ms h)) (offers-none never ms (All-tail (λ (m : Message). is_offer m.body ≡ true) m ms h))
    where
      none : (b : Body) → is_offer b ≡ true → kind b ≡ false
      none (body.Offer vl size sub) e = never vl size sub
      none _ e = absurd (let z : ⊥ = cc in z)

      go : (r : Bool) → kind m.body ≡ false → filter is_to ms ≡ [] → cond (cond r (kind m.body) false) (m ∷ filter is_to ms) (filter is_to ms) ≡ []
      go true e k = rw e k
      go false e k = k

  -- of a message to the process the same is made, where none is made of another kind
  pub flat-next : {X : Type 0} (g : ℕ → Body → List X) → ((t : ℕ) (b : Body) → kind b ≡ false → g t b ≡ []) → (m : Message) (ms : List Message) → m.receiver ≡ to →
      flat g (map as_wish (filter is_to (m ∷ ms))) ≡ g m.time m.body ++ flat g (map as_wish (filter is_to ms))
  flat-next g never m ms r = rw (eq-eqb m.receiver to r) (go (kind m.body) refl)
    where
      go : (c : Bool) → kind m.body ≡ c → flat g (map as_wish (cond c (m ∷ filter is_to ms) (filter is_to ms))) ≡ g m.time m.body ++ flat g (map as_wish (filter is_to ms))
      go true e = refl
      go false e = sym (ap (λ z. z ++ flat g (map as_wish (filter is_to ms))) (never m.time m.body e))
