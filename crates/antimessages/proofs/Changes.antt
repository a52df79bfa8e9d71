-- What a letter makes of its message, by the message's signed count before it.
use Rattle.std.proofs.Common.{◌≡◌, sym, subst, ℕ, zero, suc, ◌+◌, ◌≤◌, true, false, nat_lt, List, Option, Some, None, pos, ◌-ℤ◌, refl, arith, ◌≢◌, MatchOption, ltb-true}
use Rattle.std.proofs.lemmas.Bool.{false_from_ne_true}
use Rattle.std.proofs.lemmas.Bool.Decides.{nat_tests}
use Rattle.std.proofs.lemmas.Int.{ints}
use Rattle.vlink.specs.declared.message.Message.{Message}
use Rattle.vlink.specs.Letters.{Letter}
use Rattle.virtual_time.specs.declared.letter.Sign.{Sign}
use Rattle.virtual_time.specs.declared.letter.Sign.TheVariants.{Plus, Minus}
use Rattle.antimessages.specs.Occurrences.{count_with}
use Rattle.virtual_time.specs.Law.{Order, IsOrder, same, pluses, minuses, is_present}
use Rattle.virtual_time.proofs.Order.{same-refl}
use Rattle.antimessages.specs.Counting.{change_by, change_between, signed_count}
use Rattle.antimessages.specs.declared.tally.Change.TheVariants.{BecamePresent, BecameAbsent, Same}

not-lt : (a b : ℕ) → b ≤ a → nat_lt a b ≡ false
not-lt a b h = false_from_ne_true _ (λ t. let k = ltb-true a b t in omega arith)

-- what becomes of presence where there are p plus letters and q minus letters, and then one more of either
plus-none : (p q : ℕ) → pos p -ℤ pos q ≡ pos 0 → change_between (nat_lt q p) (nat_lt (0 + q) (1 + p)) ≡ BecamePresent
plus-none p q h = grind (arith, nat_tests, ints)

plus-some : (p q : ℕ) → pos p -ℤ pos q ≢ pos 0 → change_between (nat_lt q p) (nat_lt (0 + q) (1 + p)) ≡ Same
plus-some p q h = grind (arith, nat_tests, ints)

minus-one : (p q : ℕ) → pos p -ℤ pos q ≡ pos 1 → change_between (nat_lt q p) (nat_lt (1 + q) (0 + p)) ≡ BecameAbsent
minus-one p q h = grind (arith, nat_tests, ints)

minus-other : (p q : ℕ) → pos p -ℤ pos q ≢ pos 1 → change_between (nat_lt q p) (nat_lt (1 + q) (0 + p)) ≡ Same
minus-other p q h = grind (arith, nat_tests, ints)

module _ (order : Order Message) (O : IsOrder order) (l : Letter) (tally : List Letter) where
  one : same order l.message l.message ≡ true
  one = same-refl order O l.message

  pub change-plus_none : l.sign ≡ Plus → signed_count order l.message tally ≡ pos 0 → change_by order l tally ≡ BecamePresent
  unfolding is_present
  change-plus_none e h = rw (e, one) (plus-none (pluses order l.message tally) (minuses order l.message tally) h)

  pub change-plus_some : l.sign ≡ Plus → signed_count order l.message tally ≢ pos 0 → change_by order l tally ≡ Same
  unfolding is_present
  change-plus_some e h = rw (e, one) (plus-some (pluses order l.message tally) (minuses order l.message tally) h)

  pub change-minus_one : l.sign ≡ Minus → signed_count order l.message tally ≡ pos 1 → change_by order l tally ≡ BecameAbsent
  unfolding is_present
  change-minus_one e h = rw (e, one) (minus-one (pluses order l.message tally) (minuses order l.message tally) h)

  pub change-minus_other : l.sign ≡ Minus → signed_count order l.message tally ≢ pos 1 → change_by order l tally ≡ Same
  unfolding is_present
  change-minus_other e h = rw (e, one) (minus-other (pluses order l.message tally) (minuses order l.message tally) h)

  -- a letter by the last ordinal and the sign of those of its message that count
  abbrev pub Tells : Option (ℕ × Sign) → Type 0
  Tells last = MatchOption last (signed_count order l.message tally ≡ pos 0) (λ x. signed_count order l.message tally ≡ count_with x.1 (x.0 + 1))

  pub change-first : l.sign ≡ Plus → Tells None → BecamePresent ≡ change_by order l tally
  change-first e t = sym (change-plus_none e t)

  pub change-next : (x : ℕ × Sign) → l.sign ≡ Plus → Tells (Some x) → Same ≡ change_by order l tally
  change-next (k, Plus) e t = sym (change-plus_some e (λ z. omega (arith, ints)))
  change-next (k, Minus) e t = sym (change-plus_some e (λ z. omega (arith, ints)))

  pub change-only : (last : Option (ℕ × Sign)) → l.sign ≡ Minus → last ≡ Some (0, Plus) → Tells last → BecameAbsent ≡ change_by order l tally
  change-only last e is t = let one = subst Tells is t in sym (change-minus_one e one)

  pub change-not_only : (last : Option (ℕ × Sign)) → l.sign ≡ Minus → (last ≡ Some (0, Plus) → ⊥) → Tells last → Same ≡ change_by order l tally
  change-not_only None e n t = sym (change-minus_other e (λ z. omega (arith, ints)))
  change-not_only (Some (k, Minus)) e n t = sym (change-minus_other e (λ z. omega (arith, ints)))
  change-not_only (Some (zero, Plus)) e n t = absurd (n refl)
  change-not_only (Some (suc k, Plus)) e n t = sym (change-minus_other e (λ z. omega (arith, ints)))
