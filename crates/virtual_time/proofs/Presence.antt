-- Which messages are present in a tally, and which of them are unhandled.
use Rattle.std.proofs.Common.{◌≡◌, ◌+◌, ◌<◌, ◌==◌, ◌⊎◌, inl, inr, true, false, ◌&&◌, nat_lt, List, [], ◌∷◌, map, sym, ap, ◌∙◌, subst, arith, eqb-true, eq-eqb, ltb-true, lt-ltb}
use Rattle.std.proofs.lemmas.Bool.{and_parts, and_from}
use Rattle.virtual_time.specs.Law.{Order, IsOrder, one_if, same, times_in, IsIn, minus_of, pluses, minuses, IsPresent, is_present, unhandled}
use Rattle.virtual_time.specs.declared.letter.Letter.{Letter}
use Rattle.virtual_time.proofs.Order.{same-refl, same_cases}
use Rattle.virtual_time.proofs.Lists.{in-head, in-filter, in-filter_from}
use Rattle.virtual_time.proofs.Letters.{as_other, counts-other}

module _ {M : Type 0} (order : Order M) (O : IsOrder order) where
  pub present-true : (tally : List (Letter M)) (m : M) → is_present order tally m ≡ true → IsPresent order tally m
  unfolding is_present
  present-true tally m h = ltb-true _ _ h

  pub present-from : (tally : List (Letter M)) (m : M) → IsPresent order tally m → is_present order tally m ≡ true
  unfolding is_present
  present-from tally m h = lt-ltb _ _ h

  -- where a letter does not toggle its own message, no message is toggled
  pub present-same : (l : Letter M) (tally : List (Letter M)) → is_present order tally l.message ≡ is_present order (l ∷ tally) l.message →
      (m : M) → is_present order tally m ≡ is_present order (l ∷ tally) m
  unfolding is_present
  present-same l tally e m = go (same_cases order O m l.message)
    where
      go : (m ≡ l.message) ⊎ (same order m l.message ≡ false) → nat_lt (minuses order m tally) (pluses order m tally) ≡ nat_lt (minuses order m (l ∷ tally)) (pluses order m (l ∷ tally))
      go (inl k) = subst (λ z. nat_lt (minuses order z tally) (pluses order z tally) ≡ nat_lt (minuses order z (l ∷ tally)) (pluses order z (l ∷ tally))) (sym k) e
      go (inr n) =
          let a = counts-other order O m l tally n in
          sym (ap (λ i. nat_lt i (pluses order m (l ∷ tally))) a.1 ∙ ap (λ i. nat_lt (minuses order m tally) i) a.0)

  -- when a message whose count is 1 is taken back, what is present is another one, and was so before
  pub present-taken_back : (x m : M) (tally : List (Letter M)) → pluses order m tally ≡ minuses order m tally + 1 → IsPresent order (minus_of m ∷ tally) x →
      (same order x m ≡ false) × IsPresent order tally x
  present-taken_back x m tally e h = go (same_cases order O x m)
    where
      go : (x ≡ m) ⊎ (same order x m ≡ false) → (same order x m ≡ false) × IsPresent order tally x
      go (inl k) = absurd (let a = subst (λ z. IsPresent order (minus_of m ∷ tally) z) k h in let b = ap one_if (same-refl order O m) in omega arith)
      go (inr n) = (n, let a = counts-other order O x (minus_of m) tally n in let b = a.0 in let c = a.1 in omega arith)

  pub in-messages : (m : M) (ls : List (Letter M)) → 0 < pluses order m ls → IsIn order m (map (λ l. l.message) ls)
  in-messages m [] h = absurd (omega arith)
  in-messages m (l ∷ ls) h = go (same_cases order O m l.message) (λ i. in-messages m ls i)
    where
      go : (m ≡ l.message) ⊎ (same order m l.message ≡ false) → (0 < pluses order m ls → IsIn order m (map (λ l. l.message) ls)) → IsIn order m (l.message ∷ map (λ l. l.message) ls)
      go (inl e) ih = subst (λ y. IsIn order y (l.message ∷ map (λ l. l.message) ls)) (sym e) (in-head order O l.message _)
      go (inr n) ih = let a = (as_other order O m l n).0 in let b = ih (omega arith) in omega arith

  pub unhandled-is : (tally : List (Letter M)) (done : List M) (m : M) → IsIn order m (unhandled order tally done) →
      (IsPresent order tally m) × (times_in order m done ≡ 0)
  unfolding unhandled
  unhandled-is tally done m h =
      let a = in-filter order O (λ x. is_present order tally x && (times_in order x done == 0)) m (map (λ l. l.message) tally) h in
      let b = and_parts (is_present order tally m) (times_in order m done == 0) a.0 in
      (present-true tally m b.0, eqb-true _ _ b.1)

  pub unhandled-from : (tally : List (Letter M)) (done : List M) (m : M) → IsPresent order tally m → times_in order m done ≡ 0 →
      IsIn order m (unhandled order tally done)
  unfolding unhandled
  unhandled-from tally done m h e =
      in-filter_from order O (λ x. is_present order tally x && (times_in order x done == 0)) m (map (λ l. l.message) tally)
      (and_from _ _ (present-from tally m h) (eq-eqb _ _ e)) (in-messages m tally (omega arith))
