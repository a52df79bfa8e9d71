-- The messages of one process are numbered on and on, so none is sent twice.
use Rattle.std.proofs.Common.{◌≡◌, ℕ, suc, ◌+◌, ◌<◌, ◌≤◌, ◌⊎◌, inl, inr, false, List, [], ◌∷◌, ◌++◌, length, ap, subst, arith, add-zero}
use Rattle.std.proofs.lemmas.Bool.{cases_lt}
use Rattle.virtual_time.specs.Law.{Rules, IsOrder, sent, IsNumbered, one_if, same, times_in, IsIn}
use Rattle.virtual_time.proofs.Order.{one_if-le, same_cases}
use Rattle.virtual_time.proofs.Lists.{in-cons}

-- lists numbered from n on
pub numbered-append : {M : Type 0} (number : M → ℕ) (n : ℕ) (xs ys : List M) →
    IsNumbered number n xs → IsNumbered number (n + length xs) ys → IsNumbered number n (xs ++ ys)
numbered-append number n [] ys h k = subst (λ i. IsNumbered number i ys) (add-zero n) k
numbered-append number n (x ∷ xs) ys h k =
    (h.0, numbered-append number (suc n) xs ys h.1 (subst (λ i. IsNumbered number i ys) (let e : n + suc (length xs) ≡ suc n + length xs = omega arith in e) k))

module _ {M S K N : Type 0} (r : Rules M S K N) (O : IsOrder r.order) where
  pub numbered-from : (n : ℕ) (xs : List M) → IsNumbered r.order.number n xs → (m : M) → IsIn r.order m xs → n ≤ r.order.number m
  numbered-from n [] h m i = absurd (omega arith)
  numbered-from n (x ∷ xs) h m i = go (in-cons r.order O m x xs i) (λ j. numbered-from (suc n) xs h.1 m j)
    where
      go : (m ≡ x) ⊎ IsIn r.order m xs → (IsIn r.order m xs → suc n ≤ r.order.number m) → n ≤ r.order.number m
      go (inl e) k = let a = ap r.order.number e in let b = h.0 in omega arith
      go (inr j) k = let a = k j in omega arith

  pub numbered-once : (n : ℕ) (xs : List M) → IsNumbered r.order.number n xs → (m : M) → times_in r.order m xs ≤ 1
  numbered-once n [] h m = omega arith
  numbered-once n (x ∷ xs) h m =
      go (same_cases r.order O m x) (cases_lt 0 (times_in r.order m xs)) (numbered-once (suc n) xs h.1 m)
    where
      go : (m ≡ x) ⊎ (same r.order m x ≡ false) → (0 < times_in r.order m xs) ⊎ (times_in r.order m xs ≤ 0) → times_in r.order m xs ≤ 1 →
          one_if (same r.order m x) + times_in r.order m xs ≤ 1
      go (inl e) (inl k) i = absurd (let a = numbered-from (suc n) xs h.1 m k in let b = ap r.order.number e in let c = h.0 in omega arith)
      go (inl e) (inr k) i = let b = one_if-le (same r.order m x) in omega arith
      go (inr d) k i = let b = ap one_if d in omega arith

  -- where each event in a good state numbers its sends on from the counter and raises it by them, and leaves a good state
  module _ (Good : S → Type 0) (keeps : (s : S) (e : M) → Good s → Good (r.after s e))
      (numbered : (s : S) → Good s → (e : M) → IsNumbered r.order.number (r.counter s) (r.sends s e))
      (counter_grows : (s : S) → Good s → (e : M) → r.counter (r.after s e) ≡ r.counter s + length (r.sends s e)) where
    sent-numbered : (s : S) → Good s → (ms : List M) → IsNumbered r.order.number (r.counter s) (sent r s ms)
    sent-numbered s g [] = tt
    sent-numbered s g (e ∷ ms) =
        numbered-append r.order.number (r.counter s) (r.sends s e) _ (numbered s g e)
        (subst (λ n. IsNumbered r.order.number n (sent r (r.after s e) ms)) (counter_grows s g e) (sent-numbered (r.after s e) (keeps s e g) ms))

    pub sent-once : (s : S) → Good s → (ms : List M) (m : M) → times_in r.order m (sent r s ms) ≤ 1
    sent-once s g ms m = numbered-once (r.counter s) (sent r s ms) (sent-numbered s g ms) m
