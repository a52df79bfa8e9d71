-- What a process sends while it handles messages, and in which states it is.
use Rattle.std.proofs.Common.{◌≡◌, ℕ, ◌<◌, ◌≤◌, ◌⊎◌, inl, inr, Bool, true, false, cond, nat_lt, List, [], ◌∷◌, ◌++◌, refl, sym, ap, ◌∙◌, subst, arith, ltb-false, le-ltb}
use Rattle.std.proofs.lemmas.Bool.{cases_lt}
use Rattle.virtual_time.specs.Law.{reached, sent, times_in, IsIn, IsAscending, earlier, Simulation, Laws, IsReached, made}
use Rattle.virtual_time.proofs.Handling.{reached-append}
use Rattle.virtual_time.proofs.Numbers.{sent-once}
use Rattle.virtual_time.proofs.Order.{less-time}
use Rattle.virtual_time.proofs.Lists.{in-append, times-none, times-append, in-head, in-cons, filter-none}

module _ {M S K N : Type 0} (f : Simulation M S K N) (L : Laws f) where
  pub IsReached-from : (p : ℕ) (s : S) (ms : List M) → IsReached f p s → IsReached f p (reached f.rules s ms)
  IsReached-from p s ms h =
      (h.0 ++ ms, ap (λ z. reached f.rules z ms) h.1 ∙ sym (reached-append f.rules (f.opening p) h.0 ms))

  pub IsReached-after : (p : ℕ) (s : S) (m : M) → IsReached f p s → IsReached f p (f.rules.after s m)
  IsReached-after p s m h = IsReached-from p s (m ∷ []) h

  -- what holds of each send of one event holds of all
  pub sends-each : (P : M → Type 0) (p : ℕ) →
      ((s : S) → IsReached f p s → (e m : M) → IsIn f.rules.order m (f.rules.sends s e) → P m) →
      (s : S) → IsReached f p s → (ms : List M) (m : M) → IsIn f.rules.order m (sent f.rules s ms) → P m
  sends-each P p c s r [] m i = absurd (omega arith)
  sends-each P p c s r (e ∷ ms) m i =
      go (in-append f.rules.order L.order m (f.rules.sends s e) (sent f.rules (f.rules.after s e) ms) i)
      (λ j. sends-each P p c (f.rules.after s e) (IsReached-after p s e r) ms m j)
    where
      go : IsIn f.rules.order m (f.rules.sends s e) ⊎ IsIn f.rules.order m (sent f.rules (f.rules.after s e) ms) →
          (IsIn f.rules.order m (sent f.rules (f.rules.after s e) ms) → P m) → P m
      go (inl j) k = c s r e m j
      go (inr j) k = k j

  pub sends-sender : (p : ℕ) → p < f.processes → (s : S) → IsReached f p s → (ms : List M) (m : M) → IsIn f.rules.order m (sent f.rules s ms) → f.rules.order.sender m ≡ p
  sends-sender p i s r ms m j = sends-each (λ x. f.rules.order.sender x ≡ p) p (L.sender_is p i) s r ms m j

  pub sends-receiver : (p : ℕ) → p < f.processes → (s : S) → IsReached f p s → (ms : List M) (m : M) → IsIn f.rules.order m (sent f.rules s ms) → f.rules.order.receiver m < f.processes
  sends-receiver p i s r ms m j = sends-each (λ x. f.rules.order.receiver x < f.processes) p (L.receiver_in p i) s r ms m j

  -- sends are later than t where no event is earlier
  pub sends-later : (p : ℕ) → p < f.processes → (t : ℕ) (s : S) → IsReached f p s → (ms : List M) →
      ((e : M) → IsIn f.rules.order e ms → t ≤ f.rules.order.time e) → (m : M) → IsIn f.rules.order m (sent f.rules s ms) → t < f.rules.order.time m
  sends-later p i t s r [] c m j = absurd (omega arith)
  sends-later p i t s r (e ∷ ms) c m j =
      go (in-append f.rules.order L.order m (f.rules.sends s e) (sent f.rules (f.rules.after s e) ms) j)
      (λ k. sends-later p i t (f.rules.after s e) (IsReached-after p s e r) ms (λ x l. c x (omega arith)) m k)
    where
      go : IsIn f.rules.order m (f.rules.sends s e) ⊎ IsIn f.rules.order m (sent f.rules (f.rules.after s e) ms) →
          (IsIn f.rules.order m (sent f.rules (f.rules.after s e) ms) → t < f.rules.order.time m) → t < f.rules.order.time m
      go (inl k) h = let a = L.later p i s r e m k in let b = c e (in-head f.rules.order L.order e ms) in omega arith
      go (inr k) h = h k

  -- each send has a number of its own
  pub sends-once : (p : ℕ) → p < f.processes → (s : S) → IsReached f p s → (ms : List M) (m : M) → times_in f.rules.order m (sent f.rules s ms) ≤ 1
  sends-once p i s r ms m = sent-once f.rules L.order (IsReached f p) (λ s e h. IsReached-after p s e h) (L.numbered p i) (L.counter_grows p i) s r ms m

  -- no message is made twice
  pub made-once : (events : ℕ → List M) → ((p : ℕ) → f.processes ≤ p → events p ≡ []) → (m : M) → made f events m ≤ 1
  made-once events out m = go (cases_lt (f.rules.order.sender m) f.processes)
    where
      go : (f.rules.order.sender m < f.processes) ⊎ (f.processes ≤ f.rules.order.sender m) → made f events m ≤ 1
      go (inl i) =
          let a = sends-once (f.rules.order.sender m) i (f.opening (f.rules.order.sender m)) ([], refl) (events (f.rules.order.sender m)) m in
          let b : times_in f.rules.order m f.offers ≡ 0 = times-none f.rules.order L.order m f.offers (λ k. let d = L.offered_from m k in absurd (omega arith)) in
          omega arith
      go (inr i) =
          let a = L.offered_once m in
          let b : times_in f.rules.order m (sent f.rules (f.opening (f.rules.order.sender m)) (events (f.rules.order.sender m))) ≡ 0 = rw (out (f.rules.order.sender m) i) refl in
          omega arith

  -- a message at t or before is sent by events before t
  pub sends-earlier : (p : ℕ) → p < f.processes → (t : ℕ) (s : S) → IsReached f p s → (ms : List M) → IsAscending f.rules.order ms →
      (m : M) → f.rules.order.time m ≤ t → times_in f.rules.order m (sent f.rules s ms) ≡ times_in f.rules.order m (sent f.rules s (earlier f.rules.order t ms))
  sends-earlier p i t s r [] a m h = refl
  sends-earlier p i t s r (e ∷ ms) a m h =
      go (nat_lt (f.rules.order.time e) t) refl (sends-earlier p i t (f.rules.after s e) (IsReached-after p s e r) ms a.1 m h)
    where
      go : (b : Bool) → nat_lt (f.rules.order.time e) t ≡ b →
          times_in f.rules.order m (sent f.rules (f.rules.after s e) ms) ≡ times_in f.rules.order m (sent f.rules (f.rules.after s e) (earlier f.rules.order t ms)) →
          times_in f.rules.order m (f.rules.sends s e ++ sent f.rules (f.rules.after s e) ms) ≡ times_in f.rules.order m (sent f.rules s (cond b (e ∷ earlier f.rules.order t ms) (earlier f.rules.order t ms)))
      go true x ih =
          let a = times-append f.rules.order L.order m (f.rules.sends s e) (sent f.rules (f.rules.after s e) ms) in
          let b = times-append f.rules.order L.order m (f.rules.sends s e) (sent f.rules (f.rules.after s e) (earlier f.rules.order t ms)) in
          omega arith
      go false x ih =
          let late : t ≤ f.rules.order.time e = ltb-false _ _ x in
          let none : earlier f.rules.order t ms ≡ [] = filter-none f.rules.order L.order (λ y. nat_lt (f.rules.order.time y) t) ms (λ y j. le-ltb _ _ (let b = less-time f.rules.order L.order e y (a.0 y j) in omega arith)) in
          let all_late : (y : M) → IsIn f.rules.order y (e ∷ ms) → t ≤ f.rules.order.time y = λ y j. elim (in-cons f.rules.order L.order y e ms j) [ inl d ↦ subst (λ z. t ≤ f.rules.order.time z) (sym d) late | inr k ↦ (let b = less-time f.rules.order L.order e y (a.0 y k) in omega arith) ] in
          let zero_times : times_in f.rules.order m (sent f.rules s (e ∷ ms)) ≡ 0 =
          times-none f.rules.order L.order m (sent f.rules s (e ∷ ms)) (λ k. let b = sends-later p i t s r (e ∷ ms) all_late m k in absurd (omega arith)) in
          rw none zero_times
