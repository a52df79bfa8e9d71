-- The states of members came from what they have done.
use Rattle.std.proofs.Common.{◌≡◌, ℕ, ◌==◌, cond, Option, List, [], ◌∷◌, ◌++◌, Some, slice_get, refl, sym, ap, ◌∙◌, subst, eq-eqb, ne_eqb, append-nil}
use Rattle.std.proofs.lemmas.List.Elements.{filter-append}
use Rattle.vlink.specs.declared.message.Message.{Message}
use Rattle.vlink.specs.declared.note.Note.{Note}
use Rattle.virtual_time.specs.Law.{Rules, reached}
use Rattle.virtual_time.proofs.Handling.{reached-append}
use Rattle.reverse.specs.Rules.{AreValues}
use Rattle.group_queues.specs.DoneEvents.{DoneEvent, done_event_of, done_events_at, done_events_of}
use Rattle.group_hand.specs.Hands.{is_held, is_ours}
use Rattle.group_hand.specs.Undoing.{CameBy, CameTo}
use Rattle.group_hand.proofs.Going.{held-is}

module _ {S K : Type 0} (r : Rules Message S K Note) (V : S → Message → Type 0) where
  -- the last of the events of a member, and those before it
  pub record HasLast (base : S) (ms : List Message) (ds : List (DoneEvent K)) (d : DoneEvent K) : Type 0 where
    pub front : List Message
    pub messages : ms ≡ front ++ d.message ∷ []
    pub events : ds ≡ done_events_of r base front
    pub values : AreValues r V base front
    pub value : V (reached r base front) d.message
    pub kept : d.kept ≡ r.kept (reached r base front) d.message

  has-last : (base : S) (ms : List Message) (ds : List (DoneEvent K)) (d : DoneEvent K) → ds ++ d ∷ [] ≡ done_events_of r base ms → AreValues r V base ms → HasLast base ms ds d
  has-last base [] [] d e v = cc
  has-last base [] (x ∷ xs) d e v = cc
  has-last base (m ∷ []) [] d e v =
      let a : d ≡ done_event_of r base m = cc in
      let b : d.message ≡ m = ap (λ z. z.message) a in
      record {
        front = [];
        messages = ap (λ z. z ∷ []) (sym b);
        events = refl;
        values = tt;
        value = subst (λ z. V base z) (sym b) v.0;
        kept = ap (λ z. z.kept) a ∙ ap (λ z. r.kept base z) (sym b);
      }
  has-last base (m ∷ (n ∷ ms)) [] d e v = cc
  has-last base (m ∷ ms) (x ∷ xs) d e v =
      let a : x ≡ done_event_of r base m = cc in
      let b : xs ++ d ∷ [] ≡ done_events_of r (r.after base m) ms = cc in
      let h = has-last (r.after base m) ms xs d b v.1 in
      record {
        front = m ∷ h.front;
        messages = ap (λ z. m ∷ z) h.messages;
        events = (λ j. a j ∷ xs) ∙ ap (λ z. done_event_of r base m ∷ z) h.events;
        values = (v.0, h.values);
        value = h.value;
        kept = h.kept;
      }

  -- the state before the last of them
  pub record CameLast (s : S) (ds : List (DoneEvent K)) (d : DoneEvent K) : Type 0 where
    pub before : S
    pub value : V before d.message
    pub state : s ≡ r.after before d.message
    pub kept : d.kept ≡ r.kept before d.message
    pub came : CameBy r V before ds

  pub came-last : (s : S) (ds : List (DoneEvent K)) (d : DoneEvent K) → CameBy r V s (ds ++ d ∷ []) → CameLast s ds d
  came-last s ds d c =
      let h = has-last c.base c.messages ds d c.events c.values in
      record {
        before = reached r c.base h.front;
        value = h.value;
        state = c.state ∙ (ap (reached r c.base) h.messages ∙ reached-append r c.base h.front (d.message ∷ []));
        kept = h.kept;
        came = record { base = c.base; messages = h.front; events = h.events; values = h.values; state = refl };
      }

  -- the events of p, one behind another
  pub at-append : (p : ℕ) (xs ys : List (DoneEvent K)) → done_events_at r.order p (xs ++ ys) ≡ done_events_at r.order p xs ++ done_events_at r.order p ys
  at-append p xs ys = filter-append (λ d. r.order.receiver d.message == p) xs ys

  pub at-mine : (p : ℕ) (d : DoneEvent K) (ds : List (DoneEvent K)) → r.order.receiver d.message ≡ p → done_events_at r.order p (d ∷ ds) ≡ d ∷ done_events_at r.order p ds
  at-mine p d ds e = ap (λ b. cond b (d ∷ done_events_at r.order p ds) (done_events_at r.order p ds)) (eq-eqb (r.order.receiver d.message) p e)

  pub at-another : (p : ℕ) (d : DoneEvent K) (ds : List (DoneEvent K)) → (r.order.receiver d.message ≡ p → ⊥) → done_events_at r.order p (d ∷ ds) ≡ done_events_at r.order p ds
  at-another p d ds n = ap (λ b. cond b (d ∷ done_events_at r.order p ds) (done_events_at r.order p ds)) (ne_eqb (r.order.receiver d.message) p n)

  pub last-mine : (p : ℕ) (ds : List (DoneEvent K)) (d : DoneEvent K) → r.order.receiver d.message ≡ p → done_events_at r.order p (ds ++ d ∷ []) ≡ done_events_at r.order p ds ++ d ∷ []
  last-mine p ds d e = at-append p ds (d ∷ []) ∙ ap (λ z. done_events_at r.order p ds ++ z) (at-mine p d [] e)

  pub last-another : (p : ℕ) (ds : List (DoneEvent K)) (d : DoneEvent K) → (r.order.receiver d.message ≡ p → ⊥) → done_events_at r.order p (ds ++ d ∷ []) ≡ done_events_at r.order p ds
  last-another p ds d n = at-append p ds (d ∷ []) ∙ (ap (λ z. done_events_at r.order p ds ++ z) (at-another p d [] n) ∙ append-nil (done_events_at r.order p ds))

module _ {S K : Type 0} (r : Rules Message S K Note) (V : S → Message → Type 0) (p : ℕ) (members members' : List (Option S)) (done left : List (DoneEvent K)) (d : DoneEvent K) (split : done ≡ left ++ d ∷ []) (came : CameTo r V members done p) where
  -- where the newest event is of p, its state came from it
  module _ (mine : r.order.receiver d.message ≡ p) (m : Message) (k : K) (message : m ≡ d.message) (kept : k ≡ d.kept) where
    its-last : (s : S) → slice_get members p ≡ Some (Some s) → CameLast r V s (done_events_at r.order p left) d
    its-last s e = came-last r V s (done_events_at r.order p left) d (subst (CameBy r V s) (ap (done_events_at r.order p) split ∙ last-mine r V p left d mine) (came s e))

    pub came-from : (s : S) → slice_get members p ≡ Some (Some s) → (t : S) × V t m × (s ≡ r.after t m) × (k ≡ r.kept t m)
    came-from s e =
        let one = its-last s e in
        (one.before, subst (V one.before) (sym message) one.value, one.state ∙ ap (r.after one.before) (sym message), kept ∙ (one.kept ∙ ap (r.kept one.before) (sym message)))

    -- it is undone
    pub undone-came : ((s : S) → (e : Message) → r.undo (r.after s e) e (r.kept s e) ≡ s) → is_ours members' p ≡ is_ours members p →
        ((s : S) → slice_get members p ≡ Some (Some s) → slice_get members' p ≡ Some (Some (r.undo s m k))) → CameTo r V members' left p
    undone-came law ours state s e =
        let before = held-is (slice_get members p) (sym ours ∙ ap is_held e) in
        let one = its-last before.0 before.1 in
        let is : r.undo before.0 m k ≡ s = (let a = state before.0 before.1 in cc (a, e)) in
        let was : one.before ≡ s =
        sym (ap (λ z. r.undo z m k) one.state ∙ (ap (λ z. r.undo (r.after one.before d.message) z k) message ∙
        (ap (λ z. r.undo (r.after one.before d.message) d.message z) (kept ∙ one.kept) ∙ law one.before d.message))) ∙ is in
        subst (λ z. CameBy r V z (done_events_at r.order p left)) was one.came

  -- where it is of another, nothing changes of p
  pub aside-came : (r.order.receiver d.message ≡ p → ⊥) → CameTo r V members left p
  aside-came n s e = subst (CameBy r V s) (ap (done_events_at r.order p) split ∙ last-another r V p left d n) (came s e)
