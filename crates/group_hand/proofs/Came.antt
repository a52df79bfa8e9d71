-- The states of members come from what they have done, whatever a call does: nothing was done, an event is handled, the oldest is committed.
use Rattle.std.proofs.Common.{◌≡◌, ℕ, zero, suc, drop, ◌⊎◌, inl, inr, ◌==◌, Bool, true, false, cond, Option, List, [], ◌∷◌, ◌++◌, Some, slice_get, set, refl, sym, ap, ◌∙◌, subst}
use Rattle.std.proofs.lemmas.Bool.{cases_eq}
use Rattle.vlink.specs.declared.message.Message.{Message}
use Rattle.vlink.specs.declared.note.Note.{Note}
use Rattle.virtual_time.specs.Law.{Rules, IsOrder, reached}
use Rattle.virtual_time.proofs.Handling.{reached-append}
use Rattle.reverse.specs.Rules.{AreValues}
use Rattle.group_queues.specs.DoneEvents.{DoneEvent, done_event_of, done_events_at, done_events_of}
use Rattle.group_hand.specs.Undoing.{CameBy, CameTo}
use Rattle.group_hand.proofs.FirstEvent.{set-here, set-there}
use Rattle.group_hand.proofs.Running.{values-more, events-push, mine-push, kept-push}

module _ {S K : Type 0} (r : Rules Message S K Note) (O : IsOrder r.order) (V : S → Message → Type 0) where
  -- one event more
  came-more : (s : S) (ds : List (DoneEvent K)) (m : Message) → V s m → CameBy r V s ds → CameBy r V (r.after s m) (ds ++ done_event_of r s m ∷ [])
  came-more s ds m v c = record {
    base = c.base;
    messages = c.messages ++ m ∷ [];
    events = (λ j. c.events j ++ ap (λ z. done_event_of r z m) c.state j ∷ []) ∙ sym (events-push r O V c.base c.messages m);
    values = values-more r O V c.base c.messages m c.values (subst (λ z. V z m) c.state v);
    state = ap (λ z. r.after z m) c.state ∙ sym (reached-append r c.base c.messages (m ∷ []));
  }

  -- one less, the oldest
  came-less : (s : S) (d : DoneEvent K) (ds : List (DoneEvent K)) → CameBy r V s (d ∷ ds) → CameBy r V s ds
  came-less s d ds c = go c.messages c.events c.values c.state
    where
      go : (ms : List Message) → d ∷ ds ≡ done_events_of r c.base ms → AreValues r V c.base ms → s ≡ reached r c.base ms → CameBy r V s ds
      go [] e v t = cc
      go (m ∷ ms) e v t = record { base = r.after c.base m; messages = ms; events = (let k : ds ≡ done_events_of r (r.after c.base m) ms = cc in k); values = v.1; state = t }

  -- the receiver of m handled it, and its event is the last of its own
  pub handled-came : (members later : List (Option S)) (done new : List (DoneEvent K)) (m : Message) (s : S) → slice_get members (r.order.receiver m) ≡ Some (Some s) →
      slice_get later (r.order.receiver m) ≡ Some (Some (r.after s m)) → ((q : ℕ) → (q ≡ r.order.receiver m → ⊥) → slice_get later q ≡ slice_get members q) → V s m →
      done_events_at r.order (r.order.receiver m) new ≡ done_events_at r.order (r.order.receiver m) done ++ done_event_of r s m ∷ [] →
      ((q : ℕ) → (q ≡ r.order.receiver m → ⊥) → done_events_at r.order q new ≡ done_events_at r.order q done) →
      ((p : ℕ) → CameTo r V members done p) → (p : ℕ) → CameTo r V later new p
  handled-came members later done new m s before state others value mine kept came p t e = go (cases_eq p (r.order.receiver m))
    where
      go : (p ≡ r.order.receiver m) ⊎ (p ≡ r.order.receiver m → ⊥) → CameBy r V t (done_events_at r.order p new)
      go (inl k) =
          let is : r.after s m ≡ t = (let i : slice_get later (r.order.receiver m) ≡ Some (Some t) = ap (slice_get later) (sym k) ∙ e in cc (state, i)) in
          subst (λ z. CameBy r V z (done_events_at r.order p new)) is
          (subst (CameBy r V (r.after s m)) (sym (ap (λ z. done_events_at r.order z new) k ∙ mine)) (came-more s (done_events_at r.order (r.order.receiver m) done) m value (came (r.order.receiver m) s before)))
      go (inr n) = subst (CameBy r V t) (sym (kept p n)) (came p t (sym (others p n) ∙ e))

  -- the same where its event is the last of all
  pub pushed-came : (members : List (Option S)) (done : List (DoneEvent K)) (m : Message) (s : S) → slice_get members (r.order.receiver m) ≡ Some (Some s) → V s m →
      ((p : ℕ) → CameTo r V members done p) → (p : ℕ) → CameTo r V (set members (r.order.receiver m) (Some (r.after s m))) (done ++ done_event_of r s m ∷ []) p
  pushed-came members done m s at value came =
      handled-came members (set members (r.order.receiver m) (Some (r.after s m))) done (done ++ done_event_of r s m ∷ []) m s at
      (set-here members (r.order.receiver m) (Some (r.after s m)) (Some s) at) (λ q n. set-there members (r.order.receiver m) q (Some (r.after s m)) n) value
      (mine-push r O V done (done_event_of r s m) (r.order.receiver m) refl) (λ q n. kept-push r O V done (done_event_of r s m) q (λ e. n (sym e))) came

  -- the oldest of all was committed
  pub committed-came : (members : List (Option S)) (d : DoneEvent K) (rest : List (DoneEvent K)) → ((p : ℕ) → CameTo r V members (d ∷ rest) p) → (p : ℕ) → CameTo r V members rest p
  committed-came members d rest came p s e = go (r.order.receiver d.message == p) (came p s e)
    where
      go : (b : Bool) → CameBy r V s (cond b (d ∷ done_events_at r.order p rest) (done_events_at r.order p rest)) → CameBy r V s (done_events_at r.order p rest)
      go true c = came-less s d (done_events_at r.order p rest) c
      go false c = c

  -- the oldest of all were committed, so many
  pub dropped-came : (members : List (Option S)) (n : ℕ) (ds : List (DoneEvent K)) → ((p : ℕ) → CameTo r V members ds p) → (p : ℕ) → CameTo r V members (drop n ds) p
  dropped-came members zero ds came p = came p
  dropped-came members (suc n) [] came p = came p
  dropped-came members (suc n) (d ∷ ds) came p = dropped-came members n ds (committed-came members d ds came) p

-- the same of equal lists
pub came-alike : {S K : Type 0} (r : Rules Message S K Note) (V : S → Message → Type 0) (members ms : List (Option S)) (events es : List (DoneEvent K)) →
    ms ≡ members → es ≡ events → ((p : ℕ) → CameTo r V members events p) → (p : ℕ) → CameTo r V ms es p
came-alike r V members ms events es a b h =
    subst (λ x. (p : ℕ) → CameTo r V x es p) (sym a) (subst (λ x. (p : ℕ) → CameTo r V members x p) (sym b) h)
