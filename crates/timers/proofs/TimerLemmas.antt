-- Why each timer comes at the moment for which it is set.
use Rattle.std.proofs.Common.{◌≡◌, ℕ, zero, suc, ◌<◌, ◌⊎◌, inl, inr, Bool, true, false, not, cond, List, [], ◌∷◌, ◌++◌, filter, Option, Some, None, refl, sym, ap, ◌∙◌, subst, arith, append-nil}
use Rattle.std.proofs.lemmas.Bool.{cases_eq, cases_Bool}
use Rattle.std.proofs.lemmas.List.Elements.{filter-append}
use Rattle.virtual_time.specs.Law.{Order, IsOrder, same, IsIn, least, without, Rules, reached, events_at, Simulation, Laws, IsReached, OneThread, handle, one, events}
use Rattle.virtual_time.proofs.Order.{same-refl, same_cases, not_less-time}
use Rattle.virtual_time.proofs.Lists.{in-head, in-cons, in-filter, in-filter_from}
use Rattle.virtual_time.proofs.Least.{IsLeast, least-some}
use Rattle.virtual_time.proofs.OneThread.{IsRight, right, put_same, put_other, events-push, events-push_other}
use Rattle.timers.specs.Timer.{Alarm, noted, IsOnTime, AreOnTime, IsSet, IsTimer}
use Rattle.timers.specs.Timer.IsSet.{Off, On, PastEnd}

pub noted-push : {M S K N G : Type 0} (r : Rules M S K N) (w : Alarm M S G) (s : S) (g : G) (ms : List M) (m : M) →
    noted r w s g (ms ++ m ∷ []) ≡ w.after (reached r s ms) (noted r w s g ms) m
noted-push r w s g [] m = refl
noted-push r w s g (x ∷ ms) m = noted-push r w (r.after s x) (w.after s g x) ms m

module _ {M : Type 0} (o : Order M) (O : IsOrder o) (mine : M → Bool) where
  -- two tests, one after the other
  pub filters : (a b : M → Bool) (ms : List M) → filter a (filter b ms) ≡ filter b (filter a ms)
  filters a b [] = refl
  filters a b (x ∷ ms) = go (a x) (b x) refl refl (filters a b ms)
    where
      go : (c d : Bool) → a x ≡ c → b x ≡ d → filter a (filter b ms) ≡ filter b (filter a ms) → filter a (cond d (x ∷ filter b ms) (filter b ms)) ≡ filter b (cond c (x ∷ filter a ms) (filter a ms))
      go true true e k r = rw (e, k) (ap (λ z. x ∷ z) r)
      go true false e k r = rw k r
      go false true e k r = rw e r
      go false false e k r = r

  -- where a message that is not mine is taken out, mine stay
  pub stay : (m : M) (ms : List M) → mine m ≡ false → filter mine (without o m ms) ≡ filter mine ms
  stay m [] e = refl
  stay m (x ∷ ms) e = go (same_cases o O m x) (stay m ms e)
    where
      go : (m ≡ x) ⊎ (same o m x ≡ false) → filter mine (without o m ms) ≡ filter mine ms → filter mine (cond (not (same o m x)) (x ∷ without o m ms) (without o m ms)) ≡ filter mine (x ∷ ms)
      go (inl k) r =
          let t : same o m x ≡ true = subst (λ z. same o m z ≡ true) k (same-refl o O m) in
          let n : mine x ≡ false = subst (λ z. mine z ≡ false) k e in
          rw (t, n) r
      go (inr k) r = rw k (ap (λ z. cond (mine x) (x ∷ z) z) r)

  -- where the only one of mine is taken out, none is left
  goes : (m : M) (ms : List M) → filter mine ms ≡ m ∷ [] → filter mine (without o m ms) ≡ []
  goes m ms e = filters mine (λ x. not (same o m x)) ms ∙ (ap (without o m) e ∙ rw (same-refl o O m) refl)

module _ {M S K N G : Type 0} (f : Simulation M S K N) (L : Laws f) (p : ℕ) (inside : p < f.processes) (mine : M → Bool) (w : Alarm M S G) (fits : S → G → Bool) (T : IsTimer f p mine w fits) where
  on_time-push : (s : S) (g : G) (ms : List M) (m : M) → AreOnTime f p mine w s g ms → IsOnTime f p mine w m (noted f.rules w s g ms) → AreOnTime f p mine w s g (ms ++ m ∷ [])
  on_time-push s g [] m h k = (k, tt)
  on_time-push s g (x ∷ ms) m h k = (h.0, on_time-push (f.rules.after s x) (w.after s g x) ms m h.1 k)

  -- the note after these events
  abbrev pub now : List M → G
  now ms = noted f.rules w (f.opening p) w.opening (events_at f.rules.order p ms)

  -- what holds after each event
  pub record Holds (t : OneThread M S N) : Type 0 where
    pub on_time : AreOnTime f p mine w (f.opening p) w.opening (events_at f.rules.order p t.handled)
    pub fitting : fits (t.states p) (now t.handled) ≡ true
    pub is_set : IsSet f p mine w t.waiting (w.moment (now t.handled))

  none_some : (u : ℕ) → None ≡ Some u → ⊥
  none_some u h = cc

  -- the same timer among other messages
  among : (ms ns : List M) (o : Option ℕ) → filter mine ms ≡ filter mine ns → IsSet f p mine w ms o → IsSet f p mine w ns o
  among ms ns o e (Off a b) = Off a (sym e ∙ b)
  among ms ns o e (On m a b) = On m a (sym e ∙ b)
  among ms ns o e (PastEnd u a l b) = PastEnd u a l (sym e ∙ b)

  module _ (t : OneThread M S N) (R : IsRight f L t) (H : Holds t) (m : M) (l : IsLeast f.rules.order L.order m t.waiting) where
    abbrev next : OneThread M S N
    next = handle f t (Some m)

    abbrev g : G
    g = now t.handled

    is_reached : (q : ℕ) → IsReached f q (t.states q)
    is_reached q = (events_at f.rules.order q t.handled, R.states_are q)

    split : (q : ℕ) → filter mine (without f.rules.order m t.waiting ++ f.rules.sends (t.states q) m)
        ≡ filter mine (without f.rules.order m t.waiting) ++ filter mine (f.rules.sends (t.states q) m)
    split q = filter-append mine (without f.rules.order m t.waiting) (f.rules.sends (t.states q) m)

    inside-mine : mine m ≡ true → IsIn f.rules.order m (filter mine t.waiting)
    inside-mine e = in-filter_from f.rules.order L.order mine m t.waiting e l.inside

    not-none : filter mine t.waiting ≡ [] → mine m ≡ true → ⊥
    not-none e k = let i = subst (IsIn f.rules.order m) e (inside-mine k) in absurd (omega arith)

    -- the timer itself
    the_one : (x : M) → filter mine t.waiting ≡ x ∷ [] → mine m ≡ true → m ≡ x
    the_one x e k = elim (in-cons f.rules.order L.order m x [] (subst (IsIn f.rules.order m) e (inside-mine k))) [ inl same ↦ same | inr none ↦ absurd (omega arith) ]

    pub on_time_now : IsOnTime f p mine w m g
    on_time_now = go H.is_set
      where
        go : IsSet f p mine w t.waiting (w.moment g) → IsOnTime f p mine w m g
        go (Off a b) = record { at_moment = λ k. absurd (not-none b k); not_later = rw a tt }
        go (On x a b) = record {
          at_moment = λ k. rw (the_one x b k) a;
          not_later = rw a (not_less-time f.rules.order L.order x m (l.lowest x (in-filter f.rules.order L.order mine x t.waiting (subst (IsIn f.rules.order x) (sym b) (in-head f.rules.order L.order x []))).1));
        }
        go (PastEnd u a after b) = record { at_moment = λ k. absurd (not-none b k); not_later = rw a (let i = R.in_time m l.inside in omega arith) }

    -- an event of another process
    pub other : (f.rules.order.receiver m ≡ p → ⊥) → Holds next
    other n =
        let e : events_at f.rules.order p (t.handled ++ m ∷ []) ≡ events_at f.rules.order p t.handled = events-push_other f L p t.handled m n in
        let not_mine : mine m ≡ false = elim (cases_Bool (mine m)) [ inl k ↦ absurd (n (T.to_itself m k)) | inr k ↦ k ] in
        let q = f.rules.order.receiver m in
        let same : filter mine t.waiting ≡ filter mine next.waiting =
        sym (split q ∙ (ap (λ z. filter mine (without f.rules.order m t.waiting) ++ z) (T.by_none q (R.waiting_here m l.inside) n (t.states q) (is_reached q) m) ∙
        (append-nil _ ∙ stay f.rules.order L.order mine m t.waiting not_mine))) in
        record {
          on_time = subst (AreOnTime f p mine w (f.opening p) w.opening) (sym e) H.on_time;
          fitting = subst (λ s. fits s (now next.handled) ≡ true) (sym (put_other (f.rules.order.receiver m) p _ t.states (λ k. n (sym k)))) (subst (λ ms. fits (t.states p) (noted f.rules w (f.opening p) w.opening ms) ≡ true) (sym e) H.fitting);
          is_set = subst (λ ms. IsSet f p mine w next.waiting (w.moment (noted f.rules w (f.opening p) w.opening ms))) (sym e) (among t.waiting next.waiting (w.moment g) same H.is_set);
        }

    -- for which moment the timer is set after an event of the process
    set-next : (b : Bool) → f.rules.order.receiver m ≡ p → mine m ≡ b → IsSet f p mine w t.waiting (w.moment g) →
        IsSet f p mine w (without f.rules.order m t.waiting ++ f.rules.sends (t.states p) m) (w.moment (w.after (t.states p) g m))
    set-next true r k (Off a b) = absurd (not-none b k)
    set-next true r k (PastEnd u a after b) = absurd (not-none b k)
    set-next true r k (On x a b) =
        let none : filter mine (without f.rules.order m t.waiting) ≡ [] = goes f.rules.order L.order mine m t.waiting (b ∙ ap (λ z. z ∷ []) (sym (the_one x b k))) in
        among (f.rules.sends (t.states p) m) _ (w.moment (w.after (t.states p) g m)) (sym (split p ∙ ap (λ z. z ++ filter mine (f.rules.sends (t.states p) m)) none))
        (T.again (t.states p) g m (is_reached p) H.fitting r k on_time_now)
    set-next false r k (Off a b) =
        let none : filter mine (without f.rules.order m t.waiting) ≡ [] = stay f.rules.order L.order mine m t.waiting k ∙ b in
        among (f.rules.sends (t.states p) m) _ (w.moment (w.after (t.states p) g m)) (sym (split p ∙ ap (λ z. z ++ filter mine (f.rules.sends (t.states p) m)) none))
        (T.begins (t.states p) g m (is_reached p) H.fitting r k a)
    set-next false r k (On x a b) =
        let on = T.goes_on (t.states p) g m (f.rules.order.time x) (is_reached p) H.fitting r k a in
        On x on.0 (split p ∙ (ap (λ z. filter mine (without f.rules.order m t.waiting) ++ z) on.1 ∙ (append-nil _ ∙ (stay f.rules.order L.order mine m t.waiting k ∙ b))))
    set-next false r k (PastEnd u a after b) =
        let on = T.goes_on (t.states p) g m u (is_reached p) H.fitting r k a in
        PastEnd u on.0 after (split p ∙ (ap (λ z. filter mine (without f.rules.order m t.waiting) ++ z) on.1 ∙ (append-nil _ ∙ (stay f.rules.order L.order mine m t.waiting k ∙ b))))

    pub own : f.rules.order.receiver m ≡ p → Holds next
    own r =
        let e : events_at f.rules.order p (t.handled ++ m ∷ []) ≡ events_at f.rules.order p t.handled ++ m ∷ [] = events-push f L p t.handled m r in
        let stepped : now next.handled ≡ w.after (t.states p) g m = ap (noted f.rules w (f.opening p) w.opening) e ∙ (noted-push f.rules w (f.opening p) w.opening (events_at f.rules.order p t.handled) m ∙ ap (λ s. w.after s g m) (sym (R.states_are p))) in
        let state : next.states p ≡ f.rules.after (t.states p) m = put_same (f.rules.order.receiver m) p _ t.states (sym r) ∙ ap (λ q. f.rules.after (t.states q) m) r in
        record {
          on_time = subst (AreOnTime f p mine w (f.opening p) w.opening) (sym e) (on_time-push (f.opening p) w.opening (events_at f.rules.order p t.handled) m H.on_time on_time_now);
          fitting = subst (λ s. fits s (now next.handled) ≡ true) (sym state) (subst (λ z. fits (f.rules.after (t.states p) m) z ≡ true) (sym stepped) (T.keeps (t.states p) g m (is_reached p) H.fitting r on_time_now));
          is_set = subst (λ z. IsSet f p mine w next.waiting (w.moment z)) (sym stepped) (subst (λ q. IsSet f p mine w (without f.rules.order m t.waiting ++ f.rules.sends (t.states q) m) (w.moment (w.after (t.states p) g m))) (sym r) (set-next (mine m) r refl H.is_set));
        }

  pub holds : (n : ℕ) → Holds (one f n)
  unfolding one
  holds zero = record { on_time = tt; fitting = T.opens; is_set = Off T.off T.not_offered }
  holds (suc n) = go (least f.rules.order (one f n).waiting) refl (right f L n) (holds n)
    where
      go : (o : Option M) → least f.rules.order (one f n).waiting ≡ o → IsRight f L (one f n) → Holds (one f n) → Holds (handle f (one f n) o)
      go None e r h = h
      go (Some m) e r h =
          let l = least-some f.rules.order L.order (one f n).waiting m e in
          elim (cases_eq (f.rules.order.receiver m) p) [ inl k ↦ own (one f n) r h m l k | inr k ↦ other (one f n) r h m l k ]

  pub are_on_time : (n : ℕ) → AreOnTime f p mine w (f.opening p) w.opening (events f n p)
  are_on_time n = (holds n).on_time
