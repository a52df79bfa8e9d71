-- What messages do when processes that run ahead handle them at once: to the states, and to how many times each message waits.
use Rattle.std.proofs.Common.{◌≡◌, ℕ, ◌+◌, ◌<◌, ◌==◌, ◌⊎◌, inl, inr, Bool, true, false, cond, List, [], ◌∷◌, filter, refl, sym, ap, ◌∙◌, subst, arith, append-nil, eq-eqb, ne_eqb}
use Rattle.std.proofs.lemmas.Bool.{cases_eq, cases_Bool, both_ways}
use Rattle.std.proofs.lemmas.List.Elements.{filter-append}
use Rattle.virtual_time.specs.Law.{HoldsAlong, IsIn, IsReached, Laws, Simulation, one_if, put, reached, same, sent, times_in}
use Rattle.virtual_time.proofs.Order.{different}
use Rattle.virtual_time.proofs.Lists.{in-append, in-cons, times-append, times-none}
use Rattle.virtual_time.proofs.Handling.{sent-append}
use Rattle.virtual_time.proofs.Sends.{IsReached-after}
use Rattle.virtual_time.proofs.OneThread.{put_same, put_other}
use Rattle.runs_ahead.specs.Ahead.{in_place, in_place_of, is_ahead, passed, passed_all}
use Rattle.runs_ahead.specs.Standing.{AnswersGood, is_to}

module _ {M S K N : Type 0} (f : Simulation M S K N) (ahead : ℕ → Bool) where
  -- ---- the states

  passed-same : (g : ℕ → S) (x : M) (q : ℕ) → f.rules.order.receiver x ≡ q → is_ahead f ahead x ≡ true → passed f ahead g x q ≡ f.rules.after (g q) x
  passed-same g x q e h = rw h (put_same (f.rules.order.receiver x) q _ g (sym e) ∙ ap (λ p. f.rules.after (g p) x) e)

  passed-other : (g : ℕ → S) (x : M) (q : ℕ) → (f.rules.order.receiver x ≡ q → ⊥) → passed f ahead g x q ≡ g q
  passed-other g x q n = go (ahead (f.rules.order.receiver x))
    where
      go : (b : Bool) → cond b (put (f.rules.order.receiver x) (f.rules.after (g (f.rules.order.receiver x)) x) g) g q ≡ g q
      go true = put_other (f.rules.order.receiver x) q _ g (λ e. n (sym e))
      go false = refl

  passed-behind : (g : ℕ → S) (x : M) (q : ℕ) → ahead q ≡ false → passed f ahead g x q ≡ g q
  passed-behind g x q h = elim (cases_eq (f.rules.order.receiver x) q) [
    | inl e ↦ (let a : ahead (f.rules.order.receiver x) ≡ false = ap ahead e ∙ h in rw a refl)
    | inr n ↦ passed-other g x q n
  ]

  passed-one : (g : ℕ → S) (x : M) (k : ℕ) → ahead k ≡ true → passed f ahead g x k ≡ reached f.rules (g k) (filter (is_to f k) (x ∷ []))
  passed-one g x k h = elim (cases_eq (f.rules.order.receiver x) k) [
    | inl e ↦ (let b : (f.rules.order.receiver x == k) ≡ true = eq-eqb _ _ e in passed-same g x k e (ap ahead e ∙ h) ∙ ap (λ c. reached f.rules (g k) (cond c (x ∷ []) [])) (sym b))
    | inr n ↦ (let b : (f.rules.order.receiver x == k) ≡ false = ne_eqb _ _ n in passed-other g x k n ∙ ap (λ c. reached f.rules (g k) (cond c (x ∷ []) [])) (sym b))
  ]

  pub passed_all-behind : (g : ℕ → S) (xs : List M) (q : ℕ) → ahead q ≡ false → passed_all f ahead g xs q ≡ g q
  passed_all-behind g [] q h = refl
  passed_all-behind g (x ∷ xs) q h = passed_all-behind (passed f ahead g x) xs q h ∙ passed-behind g x q h

  -- a process that runs ahead has handled what was sent to it
  pub passed_all-ahead : (g : ℕ → S) (xs : List M) (k : ℕ) → ahead k ≡ true → passed_all f ahead g xs k ≡ reached f.rules (g k) (filter (is_to f k) xs)
  passed_all-ahead g [] k h = refl
  passed_all-ahead g (x ∷ xs) k h =
      passed_all-ahead (passed f ahead g x) xs k h ∙ (ap (λ s. reached f.rules s (filter (is_to f k) xs)) (passed-one g x k h) ∙ go (f.rules.order.receiver x == k))
    where
      go : (b : Bool) → reached f.rules (reached f.rules (g k) (cond b (x ∷ []) [])) (filter (is_to f k) xs)
          ≡ reached f.rules (g k) (cond b (x ∷ filter (is_to f k) xs) (filter (is_to f k) xs))
      go true = refl
      go false = refl

  -- where each answer is given in a good state, the events of a process that runs ahead are in good states
  pub answers-along : (good : S → Bool) (k : ℕ) → ahead k ≡ true → (g : ℕ → S) (xs : List M) → AnswersGood f ahead good g xs →
      HoldsAlong f.rules (λ s. good s ≡ true) (g k) (filter (is_to f k) xs)
  answers-along good k h g [] a = tt
  answers-along good k h g (x ∷ xs) a = elim (cases_eq (f.rules.order.receiver x) k) [
    | inl e ↦ (let b : (f.rules.order.receiver x == k) ≡ true = eq-eqb _ _ e in
        rw b (subst (λ q. good (g q) ≡ true) e (a.0 (ap ahead e ∙ h)), subst (λ s. HoldsAlong f.rules (λ s. good s ≡ true) s (filter (is_to f k) xs)) (passed-same g x k e (ap ahead e ∙ h)) (answers-along good k h (passed f ahead g x) xs a.1)))
    | inr n ↦ (let b : (f.rules.order.receiver x == k) ≡ false = ne_eqb _ _ n in
        rw b (subst (λ s. HoldsAlong f.rules (λ s. good s ≡ true) s (filter (is_to f k) xs)) (passed-other g x k n) (answers-along good k h (passed f ahead g x) xs a.1)))
  ]

  -- ---- what waits in their place

  -- each process is in a state that it can be in
  abbrev pub AllReached : (ℕ → S) → Type 0
  AllReached g = (q : ℕ) → IsReached f q (g q)

  module _ (L : Laws f) where
    pub reached-passed : (g : ℕ → S) → AllReached g → (x : M) → AllReached (passed f ahead g x)
    reached-passed g r x q = elim (cases_eq (f.rules.order.receiver x) q) [
      | inl e ↦ go e (ahead (f.rules.order.receiver x))
      | inr n ↦ subst (IsReached f q) (sym (passed-other g x q n)) (r q)
    ]
      where
        go : f.rules.order.receiver x ≡ q → (b : Bool) → IsReached f q (cond b (put (f.rules.order.receiver x) (f.rules.after (g (f.rules.order.receiver x)) x) g) g q)
        go e true = subst (IsReached f q) (sym (put_same (f.rules.order.receiver x) q _ g (sym e) ∙ ap (λ p. f.rules.after (g p) x) e)) (IsReached-after f L q (g q) x (r q))
        go e false = r q

    -- a message to a process that runs ahead is not one to another process
    not-it : (x y : M) → is_ahead f ahead x ≡ true → is_ahead f ahead y ≡ false → times_in f.rules.order y (x ∷ []) ≡ 0
    not-it x y h k =
        let n : same f.rules.order y x ≡ false = different f.rules.order L.order y x (λ e. both_ways _ k (ap (λ z. ahead (f.rules.order.receiver z)) e ∙ h)) in
        let a = ap one_if n in
        omega arith

    -- no process sends in another one's name
    pub not-its : (q : ℕ) → q < f.processes → (s : S) → IsReached f q s → (e y : M) → (f.rules.order.sender y ≡ q → ⊥) → times_in f.rules.order y (f.rules.sends s e) ≡ 0
    not-its q i s r e y n = times-none f.rules.order L.order y (f.rules.sends s e) (λ j. n (L.sender_is q i s r e y j))

    not-to : (x : M) (k : ℕ) → (f.rules.order.receiver x ≡ k → ⊥) → (y : M) (s : S) → times_in f.rules.order y (sent f.rules s (filter (is_to f k) (x ∷ []))) ≡ 0
    not-to x k n y s = let b : (f.rules.order.receiver x == k) ≡ false = ne_eqb _ _ n in rw b refl

    module _ (inside : (k : ℕ) → ahead k ≡ true → k < f.processes) (y : M) (y_behind : is_ahead f ahead y ≡ false) where
      -- of a message from a process that does not run ahead
      plain-one : ahead (f.rules.order.sender y) ≡ false → (g : ℕ → S) → AllReached g → (x : M) →
          times_in f.rules.order y (in_place f ahead g x) ≡ times_in f.rules.order y (x ∷ [])
      plain-one h g r x = elim (cases_Bool (ahead (f.rules.order.receiver x))) [
        | inl k ↦ rw k (not-its (f.rules.order.receiver x) (inside (f.rules.order.receiver x) k) (g (f.rules.order.receiver x)) (r (f.rules.order.receiver x)) x y
            (λ e. both_ways _ h (ap ahead e ∙ k)) ∙ sym (not-it x y k y_behind))
        | inr k ↦ rw k refl
      ]

      pub plain-all : ahead (f.rules.order.sender y) ≡ false → (g : ℕ → S) → AllReached g → (xs : List M) →
          times_in f.rules.order y (in_place_of f ahead g xs) ≡ times_in f.rules.order y xs
      plain-all h g r [] = refl
      plain-all h g r (x ∷ xs) =
          let a = times-append f.rules.order L.order y (in_place f ahead g x) (in_place_of f ahead (passed f ahead g x) xs) in
          let b = plain-one h g r x in
          let c = plain-all h (passed f ahead g x) (reached-passed g r x) xs in
          omega arith

      -- of a message from a process that runs ahead
      abbrev k : ℕ
      k = f.rules.order.sender y

      -- what process k sends for these messages
      abbrev answers : S → List M → ℕ
      answers s xs = times_in f.rules.order y (sent f.rules s (filter (is_to f k) xs))

      answer-one : ahead k ≡ true → (g : ℕ → S) → AllReached g → (x : M) →
          times_in f.rules.order y (in_place f ahead g x) ≡ times_in f.rules.order y (x ∷ []) + answers (g k) (x ∷ [])
      answer-one h g r x = elim (cases_Bool (ahead (f.rules.order.receiver x))) [ inl j ↦ mine j (cases_eq (f.rules.order.receiver x) k) | inr j ↦ rw j (let a = not-to x k (λ e. both_ways _ j (ap ahead e ∙ h)) y (g k) in omega arith) ]
        where
          mine : ahead (f.rules.order.receiver x) ≡ true → (f.rules.order.receiver x ≡ k) ⊎ (f.rules.order.receiver x ≡ k → ⊥) →
              times_in f.rules.order y (in_place f ahead g x) ≡ times_in f.rules.order y (x ∷ []) + answers (g k) (x ∷ [])
          mine j (inl e) =
              let a = not-it x y j y_behind in
              let b : in_place f ahead g x ≡ f.rules.sends (g k) x = rw j (ap (λ p. f.rules.sends (g p) x) e) in
              let c : filter (is_to f k) (x ∷ []) ≡ x ∷ [] = ap (λ z. cond z (x ∷ []) []) (eq-eqb _ _ e) in
              let d : answers (g k) (x ∷ []) ≡ times_in f.rules.order y (f.rules.sends (g k) x) = ap (λ z. times_in f.rules.order y (sent f.rules (g k) z)) c ∙ ap (times_in f.rules.order y) (append-nil (f.rules.sends (g k) x)) in
              let u = ap (times_in f.rules.order y) b in
              omega arith
          mine j (inr n) =
              let a = not-it x y j y_behind in
              let b : in_place f ahead g x ≡ f.rules.sends (g (f.rules.order.receiver x)) x = rw j refl in
              let c = not-its (f.rules.order.receiver x) (inside (f.rules.order.receiver x) j) (g (f.rules.order.receiver x)) (r (f.rules.order.receiver x)) x y (λ e. n (sym e)) in
              let d = not-to x k n y (g k) in
              let u = ap (times_in f.rules.order y) b in
              omega arith

      pub answer-all : ahead k ≡ true → (g : ℕ → S) → AllReached g → (xs : List M) →
          times_in f.rules.order y (in_place_of f ahead g xs) ≡ times_in f.rules.order y xs + answers (g k) xs
      answer-all h g r [] = refl
      answer-all h g r (x ∷ xs) =
          let a = times-append f.rules.order L.order y (in_place f ahead g x) (in_place_of f ahead (passed f ahead g x) xs) in
          let b = answer-one h g r x in
          let c = answer-all h (passed f ahead g x) (reached-passed g r x) xs in
          let d : answers (g k) (x ∷ xs) ≡ answers (g k) (x ∷ []) + answers (passed f ahead g x k) xs =
          ap (λ z. times_in f.rules.order y (sent f.rules (g k) z)) (filter-append (is_to f k) (x ∷ []) xs) ∙
          (ap (times_in f.rules.order y) (sent-append f.rules (g k) (filter (is_to f k) (x ∷ [])) (filter (is_to f k) xs)) ∙
          (times-append f.rules.order L.order y (sent f.rules (g k) (filter (is_to f k) (x ∷ []))) (sent f.rules (reached f.rules (g k) (filter (is_to f k) (x ∷ []))) (filter (is_to f k) xs)) ∙
          ap (λ s. answers (g k) (x ∷ []) + answers s xs) (sym (passed-one g x k h)))) in
          omega arith

    -- none of it goes to a process that runs ahead
    pub place-behind : ((k : ℕ) → ahead k ≡ true → (s : S) → IsReached f k s → (e m : M) → IsIn f.rules.order m (f.rules.sends s e) → is_ahead f ahead m ≡ false) →
        (g : ℕ → S) → AllReached g → (xs : List M) (y : M) → IsIn f.rules.order y (in_place_of f ahead g xs) → is_ahead f ahead y ≡ false
    place-behind behind g r [] y i = absurd (omega arith)
    place-behind behind g r (x ∷ xs) y i = go (in-append f.rules.order L.order y (in_place f ahead g x) (in_place_of f ahead (passed f ahead g x) xs) i)
        (λ j. place-behind behind (passed f ahead g x) (reached-passed g r x) xs y j)
      where
        one : (b : Bool) → ahead (f.rules.order.receiver x) ≡ b → IsIn f.rules.order y (cond b (f.rules.sends (g (f.rules.order.receiver x)) x) (x ∷ [])) → is_ahead f ahead y ≡ false
        one true h j = behind (f.rules.order.receiver x) h (g (f.rules.order.receiver x)) (r (f.rules.order.receiver x)) x y j
        one false h j = elim (in-cons f.rules.order L.order y x [] j) [ inl e ↦ ap (λ z. ahead (f.rules.order.receiver z)) e ∙ h | inr none ↦ absurd (omega arith) ]

        go : IsIn f.rules.order y (in_place f ahead g x) ⊎ IsIn f.rules.order y (in_place_of f ahead (passed f ahead g x) xs) →
            (IsIn f.rules.order y (in_place_of f ahead (passed f ahead g x) xs) → is_ahead f ahead y ≡ false) → is_ahead f ahead y ≡ false
        go (inl j) k = one (ahead (f.rules.order.receiver x)) refl j
        go (inr j) k = k j
