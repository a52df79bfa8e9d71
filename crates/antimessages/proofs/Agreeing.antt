-- Lists of letters with the same signed counts agree in all that matters of a tally. For code above, whose part of the law has a list of
-- letters of its own.
use Rattle.std.proofs.Common.{◌≡◌, ℕ, ◌+◌, ◌≤◌, inl, inr, Bool, true, false, not, ◌&&◌, cond, nat_lt, List, ◌∷◌, pos, ◌+ℤ◌, ◌-ℤ◌, refl, sym, ap, ◌∙◌, subst, arith, ◌≢◌, lt-ltb, ltb-true}
use Rattle.std.proofs.lemmas.Bool.{cases_lt, false_from_ne_true, both_ways}
use Rattle.std.proofs.lemmas.Int.{ints}
use Rattle.vlink.specs.declared.message.Message.{Message}
use Rattle.virtual_time.specs.declared.letter.Letter.{Letter}
use Rattle.virtual_time.specs.Law.{Order, IsOrder, one_if, same, is_plus, pluses, minuses, is_present, is_toggled}
use Rattle.virtual_time.proofs.Order.{same_cases, same-refl}
use Rattle.virtual_time.proofs.Letters.{counts-other}
use Rattle.antimessages.specs.Letters.{weight}
use Rattle.antimessages.specs.Counting.{signed_count, change_by, change_between, is_toggle, HaveSameCounts}
use Rattle.antimessages.proofs.Counts.{count-mine}

-- more plus letters than minus letters, by the difference of their numbers
same-sides : (p q p' q' : ℕ) → pos p -ℤ pos q ≡ pos p' -ℤ pos q' → nat_lt q p ≡ nat_lt q' p'
same-sides p q p' q' e = elim (cases_lt q p) [
  | inl more ↦ lt-ltb q p more ∙ sym (lt-ltb q' p' (omega (arith, ints)))
  | inr less ↦ none q p less ∙ sym (none q' p' (omega (arith, ints)))
]
  where
    none : (a b : ℕ) → b ≤ a → nat_lt a b ≡ false
    none a b h = false_from_ne_true _ (λ t. let k = ltb-true a b t in omega arith)

same-steps : (p q p' q' a b : ℕ) → pos p -ℤ pos q ≡ pos p' -ℤ pos q' → pos (a + p) -ℤ pos (b + q) ≡ pos (a + p') -ℤ pos (b + q')
same-steps p q p' q' a b e = omega (arith, ints)

module _ {M : Type 0} (order : Order M) where
  -- with the same count a message is present in both, or in none
  pub present-same_count : (m : M) (xs ys : List (Letter M)) → signed_count order m xs ≡ signed_count order m ys → is_present order xs m ≡ is_present order ys m
  unfolding is_present
  present-same_count m xs ys e = same-sides (pluses order m xs) (minuses order m xs) (pluses order m ys) (minuses order m ys) e

  -- the same letter in front of both
  pub same_counts-cons : (l : Letter M) (xs ys : List (Letter M)) → HaveSameCounts order xs ys → HaveSameCounts order (l ∷ xs) (l ∷ ys)
  same_counts-cons l xs ys h = λ m. same-steps (pluses order m xs) (minuses order m xs) (pluses order m ys) (minuses order m ys) (one_if (is_plus l.sign && same order m l.message)) (one_if (not (is_plus l.sign) && same order m l.message)) (h m)

  -- a letter makes the same of its message in both
  pub change-same_counts : (l : Letter M) (xs ys : List (Letter M)) → HaveSameCounts order xs ys → change_by order l xs ≡ change_by order l ys
  change-same_counts l xs ys h =
      ap (λ b. change_between b (is_present order (l ∷ xs) l.message)) (present-same_count l.message xs ys (h l.message)) ∙
      ap (λ b. change_between (is_present order ys l.message) b) (present-same_count l.message (l ∷ xs) (l ∷ ys) (same_counts-cons l xs ys h l.message))

  -- a letter toggles its message just where it makes it present or absent
  pub toggled-is : (l : Letter M) (tally : List (Letter M)) → is_toggled order l tally ≡ is_toggle (change_by order l tally)
  toggled-is l tally = go (is_present order tally l.message) (is_present order (l ∷ tally) l.message)
    where
      go : (b c : Bool) → cond b (not c) c ≡ is_toggle (change_between b c)
      go true true = refl
      go true false = refl
      go false true = refl
      go false false = refl

module _ (order : Order Message) (O : IsOrder order) where
  -- what `add` does to the counts is what the letter in front does
  pub added-same_counts : (l : Letter Message) (new old : List (Letter Message)) → signed_count order l.message new ≡ signed_count order l.message old +ℤ weight l.sign →
      ((m : Message) → m ≢ l.message → signed_count order m new ≡ signed_count order m old) → HaveSameCounts order new (l ∷ old)
  added-same_counts l new old mine others m =
      elim (same_cases order O m l.message) [
        | inl e ↦ subst (λ z. signed_count order z new ≡ signed_count order z (l ∷ old)) (sym e) (mine ∙ sym (count-mine order O l old))
        | inr n ↦ others m (λ e. both_ways _ n (subst (λ z. same order m z ≡ true) e (same-refl order O m))) ∙ sym (signed-other m n)
      ]
    where
      signed-other : (m : Message) → same order m l.message ≡ false → signed_count order m (l ∷ old) ≡ signed_count order m old
      signed-other m n = let a = counts-other order O m l old n in λ i. pos (a.0 i) -ℤ pos (a.1 i)
