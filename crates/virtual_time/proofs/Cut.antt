-- A cut in time that no message crosses has exactly one set of events.
use Rattle.std.proofs.Common.{◌≡◌, ℕ, zero, suc, ◌+◌, ◌<◌, ◌≤◌, ◌⊎◌, inl, inr, true, false, nat_lt, List, [], refl, sym, ap, ◌∙◌, subst, arith, lt-ltb, le-ltb}
use Rattle.std.proofs.lemmas.Bool.{cases_lt, cases_eq}
use Rattle.virtual_time.specs.Law.{sent, times_in, IsIn, IsAscending, earlier, Simulation, Laws, made}
use Rattle.virtual_time.proofs.Lists.{times-none, times-filter, times-filter_out, filter-none}
use Rattle.virtual_time.proofs.Ascending.{ascending-filter, ascending-unique}
use Rattle.virtual_time.proofs.Sends.{sends-earlier}

module _ {M S K N : Type 0} (f : Simulation M S K N) (L : Laws f) where
  -- below g, the processes have handled just what was offered and what they sent
  pub record IsClosed (g : ℕ) (events : ℕ → List M) : Type 0 where
    pub ascending : (p : ℕ) → IsAscending f.rules.order (events p)
    pub here : (p : ℕ) (m : M) → IsIn f.rules.order m (events p) → f.rules.order.receiver m ≡ p
    pub outside : (p : ℕ) → f.processes ≤ p → events p ≡ []
    pub just_made : (m : M) → f.rules.order.time m < g → times_in f.rules.order m (events (f.rules.order.receiver m)) ≡ made f events m

  not_here : (g : ℕ) (A : ℕ → List M) → IsClosed g A → (p : ℕ) (m : M) → (f.rules.order.receiver m ≡ p → ⊥) → times_in f.rules.order m (A p) ≡ 0
  not_here g A a p m h = times-none f.rules.order L.order m (A p) (λ k. h (a.here p m k))

  -- what is made up to t is told by the events before t
  same_made : (g : ℕ) (A B : ℕ → List M) → IsClosed g A → IsClosed g B → (t : ℕ) →
      ((p : ℕ) → earlier f.rules.order t (A p) ≡ earlier f.rules.order t (B p)) → (m : M) → f.rules.order.time m ≤ t → made f A m ≡ made f B m
  same_made g A B a b t h m k = go (cases_lt (f.rules.order.sender m) f.processes)
    where
      go : (f.rules.order.sender m < f.processes) ⊎ (f.processes ≤ f.rules.order.sender m) → made f A m ≡ made f B m
      go (inl i) =
          let x = sends-earlier f L (f.rules.order.sender m) i t (f.opening (f.rules.order.sender m)) ([], refl) (A (f.rules.order.sender m)) (a.ascending (f.rules.order.sender m)) m k in
          let y = sends-earlier f L (f.rules.order.sender m) i t (f.opening (f.rules.order.sender m)) ([], refl) (B (f.rules.order.sender m)) (b.ascending (f.rules.order.sender m)) m k in
          let z = ap (λ ms. times_in f.rules.order m (sent f.rules (f.opening (f.rules.order.sender m)) ms)) (h (f.rules.order.sender m)) in
          omega arith
      go (inr i) =
          let e : A (f.rules.order.sender m) ≡ B (f.rules.order.sender m) = a.outside (f.rules.order.sender m) i ∙ sym (b.outside (f.rules.order.sender m) i) in
          ap (λ ms. times_in f.rules.order m f.offers + times_in f.rules.order m (sent f.rules (f.opening (f.rules.order.sender m)) ms)) e

  pub one_cut : (g : ℕ) (A B : ℕ → List M) → IsClosed g A → IsClosed g B →
      (t : ℕ) → t ≤ g → (p : ℕ) → earlier f.rules.order t (A p) ≡ earlier f.rules.order t (B p)
  one_cut g A B a b zero h p =
      filter-none f.rules.order L.order (λ m. nat_lt (f.rules.order.time m) 0) (A p) (λ m i. le-ltb _ _ (omega arith)) ∙
      sym (filter-none f.rules.order L.order (λ m. nat_lt (f.rules.order.time m) 0) (B p) (λ m i. le-ltb _ _ (omega arith)))
  one_cut g A B a b (suc t) h p = go (λ q. one_cut g A B a b t (omega arith) q)
    where
      at : ((q : ℕ) → earlier f.rules.order t (A q) ≡ earlier f.rules.order t (B q)) → (m : M) → (f.rules.order.time m < suc t) ⊎ (suc t ≤ f.rules.order.time m) → (f.rules.order.receiver m ≡ p) ⊎ (f.rules.order.receiver m ≡ p → ⊥) →
          times_in f.rules.order m (earlier f.rules.order (suc t) (A p)) ≡ times_in f.rules.order m (earlier f.rules.order (suc t) (B p))
      at ih m (inl k) (inl e) =
          let q : nat_lt (f.rules.order.time m) (suc t) ≡ true = lt-ltb _ _ k in
          let x = times-filter f.rules.order L.order (λ y. nat_lt (f.rules.order.time y) (suc t)) m (A p) q in
          let y = times-filter f.rules.order L.order (λ y. nat_lt (f.rules.order.time y) (suc t)) m (B p) q in
          let c = same_made g A B a b t ih m (omega arith) in
          let u : times_in f.rules.order m (A p) ≡ made f A m = subst (λ n. times_in f.rules.order m (A n) ≡ made f A m) e (a.just_made m (omega arith)) in
          let v : times_in f.rules.order m (B p) ≡ made f B m = subst (λ n. times_in f.rules.order m (B n) ≡ made f B m) e (b.just_made m (omega arith)) in
          x ∙ (u ∙ (c ∙ (sym v ∙ sym y)))
      at ih m (inl k) (inr n) =
          let q : nat_lt (f.rules.order.time m) (suc t) ≡ true = lt-ltb _ _ k in
          let x = times-filter f.rules.order L.order (λ y. nat_lt (f.rules.order.time y) (suc t)) m (A p) q in
          let y = times-filter f.rules.order L.order (λ y. nat_lt (f.rules.order.time y) (suc t)) m (B p) q in
          x ∙ (not_here g A a p m n ∙ (sym (not_here g B b p m n) ∙ sym y))
      at ih m (inr k) c =
          let q : nat_lt (f.rules.order.time m) (suc t) ≡ false = le-ltb _ _ k in
          times-filter_out f.rules.order L.order (λ y. nat_lt (f.rules.order.time y) (suc t)) m (A p) q ∙
          sym (times-filter_out f.rules.order L.order (λ y. nat_lt (f.rules.order.time y) (suc t)) m (B p) q)

      go : ((q : ℕ) → earlier f.rules.order t (A q) ≡ earlier f.rules.order t (B q)) → earlier f.rules.order (suc t) (A p) ≡ earlier f.rules.order (suc t) (B p)
      go ih =
          ascending-unique f.rules.order L.order (earlier f.rules.order (suc t) (A p)) (earlier f.rules.order (suc t) (B p))
          (ascending-filter f.rules.order L.order (λ m. nat_lt (f.rules.order.time m) (suc t)) (A p) (a.ascending p))
          (ascending-filter f.rules.order L.order (λ m. nat_lt (f.rules.order.time m) (suc t)) (B p) (b.ascending p))
          (λ m. at ih m (cases_lt (f.rules.order.time m) (suc t)) (cases_eq (f.rules.order.receiver m) p))
