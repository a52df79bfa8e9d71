-- An invariant of the one-thread run: what each event keeps, of messages and of states, holds after each number of events.
use Rattle.std.proofs.Common.{◌≡◌, ℕ, zero, suc, ◌<◌, ◌==◌, inl, inr, Bool, true, false, cond, List, [], ◌∷◌, filter, Option, Some, None, All, refl, sym, subst, arith}
use Rattle.std.proofs.lemmas.Bool.{cases_eq}
use Rattle.std.proofs.lemmas.List.Elements.{All-append, All-cons, All-head, All-nil, All-push, All-tail}
use Rattle.virtual_time.specs.Law.{Order, IsOrder, IsIn, least, without, events_at, Simulation, Laws, IsReached, OneThread, handle, one, events}
use Rattle.virtual_time.proofs.Lists.{in-cons}
use Rattle.virtual_time.proofs.Least.{IsLeast, least-some}
use Rattle.virtual_time.proofs.OneThread.{IsRight, right, put_same, put_other}

pub all-filter : {X : Type 0} (P : X → Type 0) (test : X → Bool) (xs : List X) → All P xs → All P (filter test xs)
all-filter P test [] h = All-nil P
all-filter P test (x ∷ xs) h = go (test x) (all-filter P test xs (All-tail P x xs h))
  where
    go : (b : Bool) → All P (filter test xs) → All P (cond b (x ∷ filter test xs) (filter test xs))
    go true rest = All-cons P x (filter test xs) (All-head P x xs h) rest
    go false rest = rest

all-in : {M : Type 0} (o : Order M) (O : IsOrder o) (Q : M → Type 0) (m : M) (ms : List M) → All Q ms → IsIn o m ms → Q m
all-in o O Q m [] h i = absurd (omega arith)
all-in o O Q m (x ∷ ms) h i = elim (in-cons o O m x ms i) [ inl e ↦ subst Q (sym e) (All-head Q x ms h) | inr k ↦ all-in o O Q m ms (All-tail Q x ms h) k ]

module _ {M S K N : Type 0} (f : Simulation M S K N) (L : Laws f) (Q : M → Type 0) (R : ℕ → S → Type 0) where
  -- it holds at the beginning, and each event of a process keeps it, of the state after the event and of what is then sent
  pub record IsInvariant : Type 0 where
    pub offered : All Q f.offers
    pub opens : (p : ℕ) → p < f.processes → R p (f.opening p)
    pub after : (p : ℕ) → p < f.processes → (s : S) (m : M) → IsReached f p s → f.rules.order.receiver m ≡ p → R p s → Q m → R p (f.rules.after s m)
    pub sends : (p : ℕ) → p < f.processes → (s : S) (m : M) → IsReached f p s → f.rules.order.receiver m ≡ p → R p s → Q m → All Q (f.rules.sends s m)

  record HoldsAfter (t : OneThread M S N) : Type 0 where
    handled : All Q t.handled
    waiting : All Q t.waiting
    states : (p : ℕ) → p < f.processes → R p (t.states p)

  module _ (I : IsInvariant) where
    next : (t : OneThread M S N) → IsRight f L t → (m : M) → IsLeast f.rules.order L.order m t.waiting → HoldsAfter t → HoldsAfter (handle f t (Some m))
    next t r m l h =
        let q : Q m = all-in f.rules.order L.order Q m t.waiting h.waiting l.inside in
        let here = r.waiting_here m l.inside in
        let state = h.states (f.rules.order.receiver m) here in
        record {
          handled = All-push Q t.handled m h.handled q;
          waiting = All-append Q (without f.rules.order m t.waiting) (f.rules.sends (t.states (f.rules.order.receiver m)) m)
              (all-filter Q _ t.waiting h.waiting) (I.sends (f.rules.order.receiver m) here (t.states (f.rules.order.receiver m)) m (was (f.rules.order.receiver m)) refl state q);
          states = λ p inside. elim (cases_eq p (f.rules.order.receiver m)) [
            | inl e ↦ subst (R p) (sym (put_same (f.rules.order.receiver m) p (f.rules.after (t.states (f.rules.order.receiver m)) m) t.states e))
                (subst (λ k. R k (f.rules.after (t.states (f.rules.order.receiver m)) m)) (sym e) (I.after (f.rules.order.receiver m) here (t.states (f.rules.order.receiver m)) m (was (f.rules.order.receiver m)) refl state q))
            | inr d ↦ subst (R p) (sym (put_other (f.rules.order.receiver m) p (f.rules.after (t.states (f.rules.order.receiver m)) m) t.states d)) (h.states p inside)
          ];
        }
      where
        was : (p : ℕ) → IsReached f p (t.states p)
        was p = (events_at f.rules.order p t.handled, r.states_are p)

    holds : (n : ℕ) → HoldsAfter (one f n)
    unfolding one
    holds zero = record { handled = All-nil Q; waiting = I.offered; states = I.opens }
    holds (suc n) = go (least f.rules.order (one f n).waiting) refl (right f L n) (holds n)
      where
        go : (o : Option M) → least f.rules.order (one f n).waiting ≡ o → IsRight f L (one f n) → HoldsAfter (one f n) → HoldsAfter (handle f (one f n) o)
        go None e r h = h
        go (Some m) e r h = next (one f n) r m (least-some f.rules.order L.order (one f n).waiting m e) h

    pub all-handled : (n : ℕ) → All Q (one f n).handled
    all-handled n = (holds n).handled

    -- so each message that a process handles has it
    pub all-events : (n p : ℕ) → All Q (events f n p)
    all-events n p = all-filter Q (λ m. f.rules.order.receiver m == p) (one f n).handled (all-handled n)
