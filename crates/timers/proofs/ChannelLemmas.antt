-- Why what is received by a channel is the beginning of what was sent, in that order.
use Rattle.std.proofs.Common.{◌≡◌, ℕ, zero, suc, ◌+◌, inl, inr, Bool, true, false, cond, List, [], ◌∷◌, ◌++◌, filter, Option, Some, None, refl, sym, ap, ◌∙◌, subst, arith, append-nil, append_assoc}
use Rattle.std.proofs.lemmas.Bool.{cases_eq, cases_Bool, both_ways}
use Rattle.std.proofs.lemmas.List.Elements.{filter-append}
use Rattle.virtual_time.specs.Law.{Order, one_if, same, times_in, IsIn, IsAscending, least, without, sent, reached, events_at, Simulation, Laws, OneThread, handle, one, events}
use Rattle.virtual_time.proofs.Lists.{in-head, in-cons, in-filter, in-filter_from, times-append, times-filter, times-filter_out}
use Rattle.virtual_time.proofs.Handling.{sent-append}
use Rattle.virtual_time.proofs.Least.{IsLeast, least-some}
use Rattle.virtual_time.proofs.OneThread.{IsRight, right, events-push, events-push_other, times-without}
use Rattle.timers.specs.Channel.{IsChannel}
use Rattle.timers.proofs.TimerLemmas.{stay}

module _ {M : Type 0} (o : Order M) where
  -- the end of a list that rises
  rises-end : (xs ys : List M) → IsAscending o (xs ++ ys) → IsAscending o ys
  rises-end [] ys h = h
  rises-end (x ∷ xs) ys h = rises-end xs ys h.1

module _ {M S K N : Type 0} (f : Simulation M S K N) (L : Laws f) (p r : ℕ) (is : M → Bool) (C : IsChannel f p r is) where
  abbrev sent_of : List M → List M
  sent_of handled = filter is (sent f.rules (f.opening p) (events_at f.rules.order p handled))

  abbrev got_of : List M → List M
  got_of handled = filter is (events_at f.rules.order r handled)

  record Holds (t : OneThread M S N) : Type 0 where
    rest : List M
    split : sent_of t.handled ≡ got_of t.handled ++ rest
    waits : (x : M) → times_in f.rules.order x rest ≡ times_in f.rules.order x (filter is t.waiting)

  module _ (t : OneThread M S N) (R : IsRight f L t) (H : Holds t) (m : M) (l : IsLeast f.rules.order L.order m t.waiting) (rising : IsAscending f.rules.order (sent_of t.handled)) where
    abbrev next : OneThread M S N
    next = handle f t (Some m)

    -- what is sent of the kind at this event
    abbrev new : List M
    new = filter is (f.rules.sends (t.states (f.rules.order.receiver m)) m)

    sent-next : sent_of next.handled ≡ sent_of t.handled ++ new
    sent-next = elim (cases_eq (f.rules.order.receiver m) p) [ inl e ↦ here e | inr n ↦ there n ]
      where
        here : f.rules.order.receiver m ≡ p → sent_of next.handled ≡ sent_of t.handled ++ new
        here e =
            let a = ap (λ ms. filter is (sent f.rules (f.opening p) ms)) (events-push f L p t.handled m e) in
            let b = ap (filter is) (sent-append f.rules (f.opening p) (events_at f.rules.order p t.handled) (m ∷ [])) in
            let s = sym (R.states_are p) ∙ ap t.states (sym e) in
            let c = filter-append is (sent f.rules (f.opening p) (events_at f.rules.order p t.handled)) (f.rules.sends (reached f.rules (f.opening p) (events_at f.rules.order p t.handled)) m ++ []) in
            a ∙ (b ∙ (c ∙ ap (λ z. sent_of t.handled ++ filter is z) (append-nil _ ∙ ap (λ z. f.rules.sends z m) s)))

        there : (f.rules.order.receiver m ≡ p → ⊥) → sent_of next.handled ≡ sent_of t.handled ++ new
        there n =
            ap (λ ms. filter is (sent f.rules (f.opening p) ms)) (events-push_other f L p t.handled m n) ∙
            (sym (append-nil _) ∙ ap (λ z. sent_of t.handled ++ z) (sym (C.by_none (f.rules.order.receiver m) (R.waiting_here m l.inside) n
            (t.states (f.rules.order.receiver m)) (events_at f.rules.order (f.rules.order.receiver m) t.handled, R.states_are (f.rules.order.receiver m)) m)))

    got-other : is m ≡ false → got_of next.handled ≡ got_of t.handled
    got-other e = elim (cases_eq (f.rules.order.receiver m) r) [ inl k ↦ here k | inr n ↦ ap (filter is) (events-push_other f L r t.handled m n) ]
      where
        here : f.rules.order.receiver m ≡ r → got_of next.handled ≡ got_of t.handled
        here k = ap (filter is) (events-push f L r t.handled m k) ∙ (filter-append is (events_at f.rules.order r t.handled) (m ∷ []) ∙
            (ap (λ b. got_of t.handled ++ cond b (m ∷ []) []) e ∙ append-nil _))

    got-one : is m ≡ true → got_of next.handled ≡ got_of t.handled ++ m ∷ []
    got-one e = ap (filter is) (events-push f L r t.handled m (C.to m e)) ∙ (filter-append is (events_at f.rules.order r t.handled) (m ∷ []) ∙ ap (λ b. got_of t.handled ++ cond b (m ∷ []) []) e)

    waiting-next : filter is next.waiting ≡ filter is (without f.rules.order m t.waiting) ++ new
    waiting-next = filter-append is (without f.rules.order m t.waiting) (f.rules.sends (t.states (f.rules.order.receiver m)) m)

    times-next : (x : M) → times_in f.rules.order x (filter is next.waiting) ≡ times_in f.rules.order x (filter is (without f.rules.order m t.waiting)) + times_in f.rules.order x new
    times-next x = ap (times_in f.rules.order x) waiting-next ∙ times-append f.rules.order L.order x (filter is (without f.rules.order m t.waiting)) new

    -- a message of another kind
    other : is m ≡ false → Holds next
    other e = record {
      rest = H.rest ++ new;
      split = sent-next ∙ (ap (λ z. z ++ new) H.split ∙ (append_assoc (got_of t.handled) H.rest new ∙ ap (λ z. z ++ (H.rest ++ new)) (sym (got-other e))));
      waits = λ x.
          let a = times-next x in
          let b = ap (times_in f.rules.order x) (stay f.rules.order L.order is m t.waiting e) in
          let c = H.waits x in
          let d = times-append f.rules.order L.order x H.rest new in
          omega arith;
    }

    -- the first of the kind that waits
    one_more : is m ≡ true → Holds next
    one_more e = go H.rest H.split H.waits
      where
        m_waits : IsIn f.rules.order m (filter is t.waiting)
        m_waits = in-filter_from f.rules.order L.order is m t.waiting e l.inside

        go : (rest : List M) → sent_of t.handled ≡ got_of t.handled ++ rest → ((x : M) → times_in f.rules.order x rest ≡ times_in f.rules.order x (filter is t.waiting)) → Holds next
        go [] s w = absurd (let a = w m in let b = m_waits in omega arith)
        go (y ∷ ys) s w = record {
          rest = ys ++ new;
          split = sent-next ∙ (ap (λ z. z ++ new) s ∙ (ap (λ z. (got_of t.handled ++ (z ∷ ys)) ++ new) (sym first) ∙ (shift (got_of t.handled) m ys new ∙ ap (λ z. z ++ (ys ++ new)) (sym (got-one e)))));
          waits = λ x.
              let a = times-next x in
              let b = times-append f.rules.order L.order x ys new in
              let c = gone x in
              omega arith;
        }
          where
            shift : (xs : List M) (x : M) (zs us : List M) → (xs ++ (x ∷ zs)) ++ us ≡ (xs ++ x ∷ []) ++ (zs ++ us)
            shift xs x zs us = simp append_assoc

            rises : IsAscending f.rules.order (y ∷ ys)
            rises = rises-end f.rules.order (got_of t.handled) (y ∷ ys) (subst (IsAscending f.rules.order) s rising)

            y_waits : IsIn f.rules.order y t.waiting
            y_waits = (in-filter f.rules.order L.order is y t.waiting (let a = w y in let b = in-head f.rules.order L.order y ys in omega arith)).1

            first : m ≡ y
            first = elim (in-cons f.rules.order L.order m y ys (let a = w m in let b = m_waits in omega arith))
                [ inl k ↦ k | inr k ↦ absurd (both_ways _ (l.lowest y y_waits) (rises.0 m k)) ]

            gone : (x : M) → times_in f.rules.order x ys ≡ times_in f.rules.order x (filter is (without f.rules.order m t.waiting))
            gone x = elim (cases_Bool (is x)) [ inl k ↦ yes k | inr k ↦ no k ]
              where
                head : times_in f.rules.order x (y ∷ ys) ≡ one_if (same f.rules.order x m) + times_in f.rules.order x ys
                head = ap (λ z. one_if (same f.rules.order x z) + times_in f.rules.order x ys) (sym first)

                yes : is x ≡ true → times_in f.rules.order x ys ≡ times_in f.rules.order x (filter is (without f.rules.order m t.waiting))
                yes k =
                    let a = times-filter f.rules.order L.order is x t.waiting k in
                    let b = times-filter f.rules.order L.order is x (without f.rules.order m t.waiting) k in
                    let c = times-without f L t R m l x in
                    let d = w x in
                    let h = head in
                    omega arith

                no : is x ≡ false → times_in f.rules.order x ys ≡ times_in f.rules.order x (filter is (without f.rules.order m t.waiting))
                no k =
                    let a = times-filter_out f.rules.order L.order is x t.waiting k in
                    let b = times-filter_out f.rules.order L.order is x (without f.rules.order m t.waiting) k in
                    let d = w x in
                    let h = head in
                    omega arith

  holds : (n : ℕ) → Holds (one f n)
  unfolding one
  holds zero = record { rest = []; split = refl; waits = λ x. ap (times_in f.rules.order x) (sym C.not_offered) }
  holds (suc n) = go (least f.rules.order (one f n).waiting) refl (right f L n) (holds n) (C.rises n)
    where
      go : (o : Option M) → least f.rules.order (one f n).waiting ≡ o → IsRight f L (one f n) → Holds (one f n) → IsAscending f.rules.order (sent_of (one f n).handled) → Holds (handle f (one f n) o)
      go None e R h k = h
      go (Some m) e R h k =
          let l = least-some f.rules.order L.order (one f n).waiting m e in
          elim (cases_Bool (is m)) [ inl y ↦ one_more (one f n) R h m l k y | inr y ↦ other (one f n) R h m l k y ]

  pub are_received : (n : ℕ) → (rest : List M) × (filter is (sent f.rules (f.opening p) (events f n p)) ≡ filter is (events f n r) ++ rest)
  are_received n = ((holds n).rest, (holds n).split)
