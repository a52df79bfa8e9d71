-- The signed counts with one letter in front, or one less.
use Rattle.std.proofs.Common.{◌≡◌, true, not, List, ◌∷◌, ℤ, pos, ◌+ℤ◌, ◌-ℤ◌, refl, sym, ◌∙◌, subst, arith, ◌≢◌, Result, Ok, Err, OnOk}
use Rattle.std.proofs.lemmas.Int.{ints}
use Rattle.vlink.specs.declared.message.Message.{Message}
use Rattle.vlink.specs.Letters.{Letter}
use Rattle.virtual_time.specs.declared.letter.Sign.{Sign}
use Rattle.virtual_time.specs.declared.letter.Sign.TheVariants.{Plus, Minus}
use Rattle.virtual_time.specs.Law.{Order, IsOrder, same, is_plus}
use Rattle.virtual_time.proofs.Order.{same-refl, different}
use Rattle.virtual_time.proofs.Letters.{counts-other}
use Rattle.antimessages.specs.Letters.{weight}
use Rattle.antimessages.specs.Counting.{signed_count, HaveSameCounts}

-- what follows of a call that is not refused
pub where-ok : {A E P Q : Type 0} (x : Result A E) → (P → Q) → OnOk x P → OnOk x Q
where-ok (Ok a) f p = f p
where-ok (Err e) f p = tt

module _ (order : Order Message) (O : IsOrder order) where
  -- the signed counts with one letter in front
  pub count-mine : (l : Letter) (tally : List Letter) →
      signed_count order l.message (l ∷ tally) ≡ signed_count order l.message tally +ℤ weight l.sign
  count-mine l tally = go l.sign refl
    where
      one : same order l.message l.message ≡ true
      one = same-refl order O l.message

      go : (s : Sign) → l.sign ≡ s → signed_count order l.message (l ∷ tally) ≡ signed_count order l.message tally +ℤ weight s
      go Plus e = rw (e, one) (omega (arith, ints))
      go Minus e = rw (e, one) (omega (arith, ints))

  pub count-other : (m : Message) (l : Letter) (tally : List Letter) → m ≢ l.message →
      signed_count order m (l ∷ tally) ≡ signed_count order m tally
  count-other m l tally n =
      let a = counts-other order O m l tally (different order O m l.message n) in
      λ i. pos (a.0 i) -ℤ pos (a.1 i)

  opposite-weight : (s t : Sign) (a b : ℤ) → is_plus t ≡ not (is_plus s) → a ≡ b +ℤ weight t → b ≡ a +ℤ weight s
  opposite-weight Plus Plus a b o e = cc
  opposite-weight Plus Minus a b o e = omega (arith, ints)
  opposite-weight Minus Plus a b o e = omega (arith, ints)
  opposite-weight Minus Minus a b o e = cc

  -- the count of the letter's message changes by its weight, and no other one does
  abbrev pub IsCounted : Letter → List Letter → List Letter → Type 0
  IsCounted l old new = (signed_count order l.message new ≡ signed_count order l.message old +ℤ weight l.sign)
      × ((m : Message) → m ≢ l.message → signed_count order m new ≡ signed_count order m old)

  -- so it is with the letter more, and with one of the other sign less
  pub one-more : (l : Letter) (new : List Letter) {inside old : List Letter} → inside ≡ old → HaveSameCounts order new (l ∷ inside) → IsCounted l old new
  one-more l new {inside} same counts =
      subst (λ z. IsCounted l z new) same (counts l.message ∙ count-mine l inside, λ m n. counts m ∙ count-other m l inside n)

  pub one-less : (l : Letter) (t : Sign) (new : List Letter) {inside old : List Letter} → inside ≡ old → is_plus t ≡ not (is_plus l.sign) →
      HaveSameCounts order inside (record { message = l.message; sign = t } ∷ new) → IsCounted l old new
  one-less l t new same opposite counts =
      let taken : Letter = record { message = l.message; sign = t } in
      subst (λ z. IsCounted l z new) same
      (opposite-weight l.sign t _ _ opposite (counts l.message ∙ count-mine taken new), λ m n. sym (counts m ∙ count-other m taken new n))
