-- The last place of a message tells its count.
use Rattle.std.proofs.Common.{◌≡◌, ℕ, ◌+◌, ◌<◌, ◌≤◌, true, false, List, [], ◌∷◌, length, Option, Some, None, pos, ◌-ℤ◌, refl, sym, ◌∙◌, arith, IsSome, nat_cmp, is_lt, is_gt, Ordering, Less, Equal, Greater, lt-ltb}
use Rattle.std.specs.Ordering.{ordering_then}
use Rattle.std.specs.Cmp.{IsTotalOrder, tied_itself}
use Rattle.std.specs.Map.{lookup}
use Rattle.std.specs.BTreeMap.{is_at}
use Rattle.std.proofs.lemmas.Bool.{both_ways}
use Rattle.std.proofs.lemmas.Bool.Decides.{nat_tests}
use Rattle.std.proofs.lemmas.Int.{ints}
use Rattle.vlink.specs.declared.message.Message.{Message}
use Rattle.virtual_time.specs.declared.letter.Sign.{Sign}
use Rattle.virtual_time.specs.declared.letter.Sign.TheVariants.{Plus, Minus}
use Rattle.vlink.specs.Order.{message_cmp, message_order}
use Rattle.virtual_time.specs.Law.{pluses, minuses, same}
use Rattle.virtual_time.proofs.Order.{one_if-le}
use Rattle.antimessages.specs.declared.occurrence.Occurrence.{Occurrence}
use Rattle.antimessages.specs.Counting.{signed_count}
use Rattle.antimessages.specs.Occurrences.{occurrence_of, occurrence_cmp, letters_of, count_with, sign_at, AreTallied}

some-of : (o : Option Sign) → (IsSome o → ⊥) → o ≡ None
some-of None h = refl
some-of (Some x) h = absurd (h refl)

pub at-zero : (p n : ℕ) → sign_at p n 0 ≡ None → pos p -ℤ pos n ≡ pos 0
at-zero p n h = grind (arith, nat_tests, ints)

-- the sign s at k and none above
pub at-last : (s : Sign) (p n k : ℕ) → sign_at p n k ≡ Some s → sign_at p n (k + 1) ≡ None → pos p -ℤ pos n ≡ count_with s (k + 1)
at-last Plus p n k h g = grind (arith, nat_tests, ints)
at-last Minus p n k h g = grind (arith, nat_tests, ints)

-- an ordinal that has a sign is below the number of letters
pub within : (s : Sign) (p n k : ℕ) → sign_at p n k ≡ Some s → k < p + n
within s p n k h = grind (arith, nat_tests)

pub at-most : (m : Message) (es : List (Occurrence × Sign)) → pluses message_order m (letters_of es) + minuses message_order m (letters_of es) ≤ length es
at-most m [] = omega arith
at-most m (e ∷ es) = let i = at-most m es in let a = one_if-le (same message_order m e.0.message) in grind arith

module _ (T : IsTotalOrder message_cmp) (X : (a b : Message) → message_cmp a b ≡ Equal → a ≡ b) (m : Message) (top : ℕ) (es : List (Occurrence × Sign)) (st : AreTallied es) where
  -- the places of the message are not beyond the greatest one
  up_to : (k : ℕ) → k ≤ top → is_gt (occurrence_cmp (occurrence_of m k) (occurrence_of m top)) ≡ false
  up_to k h = rw (tied_itself T m) (grind (arith, nat_tests))

  pub count-none : ((q : Occurrence) → is_gt (occurrence_cmp q (occurrence_of m top)) ≡ false → lookup (is_at (occurrence_cmp q)) es ≡ None) →
      signed_count message_order m (letters_of es) ≡ pos 0
  count-none h = at-zero (pluses message_order m (letters_of es)) (minuses message_order m (letters_of es)) (sym (st.signs m 0) ∙ h (occurrence_of m 0) (up_to 0 (omega arith)))

  module _ (e : Occurrence) (s : Sign) (here : lookup (is_at (occurrence_cmp e)) es ≡ Some s) (low : is_gt (occurrence_cmp e (occurrence_of m top)) ≡ false)
      (last : (q : Occurrence) → is_gt (occurrence_cmp q (occurrence_of m top)) ≡ false → IsSome (lookup (is_at (occurrence_cmp q)) es) → is_lt (occurrence_cmp e q) ≡ false) where
    pub count-other_last : (e.message ≡ m → ⊥) → signed_count message_order m (letters_of es) ≡ pos 0
    count-other_last n = at-zero (pluses message_order m (letters_of es)) (minuses message_order m (letters_of es)) (sym (st.signs m 0) ∙ some-of _ (λ i. go (message_cmp e.message m) refl low (last (occurrence_of m 0) (up_to 0 (omega arith)) i)))
      where
        go : (o : Ordering) → message_cmp e.message m ≡ o → is_gt (ordering_then o (nat_cmp e.ordinal top)) ≡ false → is_lt (ordering_then o (nat_cmp e.ordinal 0)) ≡ false → ⊥
        go Less w l k = cc
        go Equal w l k = n (X e.message m w)
        go Greater w l k = cc

  module _ (k : ℕ) (s : Sign) (here : lookup (is_at (occurrence_cmp (occurrence_of m k))) es ≡ Some s) (small : length es < top) where
    pub room : k < length es
    room = let a = within s (pluses message_order m (letters_of es)) (minuses message_order m (letters_of es)) k (sym (st.signs m k) ∙ here) in let b = at-most m es in omega arith

    pub count-last : ((q : Occurrence) → is_gt (occurrence_cmp q (occurrence_of m top)) ≡ false → IsSome (lookup (is_at (occurrence_cmp q)) es) → is_lt (occurrence_cmp (occurrence_of m k) q) ≡ false) →
        signed_count message_order m (letters_of es) ≡ count_with s (k + 1)
    count-last last =
        at-last s (pluses message_order m (letters_of es)) (minuses message_order m (letters_of es)) k (sym (st.signs m k) ∙ here)
        (sym (st.signs m (k + 1)) ∙ some-of _ (λ i. let r = room in
        both_ways _ (last (occurrence_of m (k + 1)) (up_to (k + 1) (omega arith)) i) below))
      where
        below : is_lt (occurrence_cmp (occurrence_of m k) (occurrence_of m (k + 1))) ≡ true
        below = rw (tied_itself T m, lt-ltb k (k + 1) (omega arith)) refl
