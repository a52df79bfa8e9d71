-- The letters of a tally, told by their counts.
use Rattle.std.proofs.Common.{◌≡◌, ℕ, ◌-◌, pos, ◌-ℤ◌, refl, sym, ◌∙◌, arith, nat_cmp, Ordering, Less, Equal, Greater, BTreeMap}
use Rattle.std.specs.Ordering.{ordering_then}
use Rattle.std.specs.Cmp.{IsTotalOrder}
use Rattle.std.specs.BTreeMap.{IsOrdered}
use Rattle.std.proofs.lemmas.Int.{ints}
use Rattle.std.proofs.lemmas.Map.Lookups.{exact_unsigned, btree_map_from_get}
use Rattle.vlink.specs.declared.message.Message.{Message}
use Rattle.virtual_time.specs.declared.letter.Sign.{Sign}
use Rattle.vlink.specs.Order.{message_cmp, message_order}
use Rattle.antimessages.specs.declared.occurrence.Occurrence.{Occurrence}
use Rattle.antimessages.specs.Counting.{HaveSameCounts}
use Rattle.antimessages.specs.Occurrences.{occurrence_cmp, letters_of, sign_at, AreTallied}

-- occurrences that are equal in their order are one
exact : ((a b : Message) → message_cmp a b ≡ Equal → a ≡ b) → (x y : Occurrence) → occurrence_cmp x y ≡ Equal → x ≡ y
exact X x y e = go (message_cmp x.message y.message) refl e
  where
    go : (o : Ordering) → message_cmp x.message y.message ≡ o → ordering_then o (nat_cmp x.ordinal y.ordinal) ≡ Equal → x ≡ y
    go Less w t = cc
    go Equal w t =
        let m = X x.message y.message w in
        let k = exact_unsigned x.ordinal y.ordinal t in
        λ i. record { message = m i; ordinal = k i }
    go Greater w t = cc

-- the sign at an ordinal is told by the count
same-sign : (p n q o k : ℕ) → pos p -ℤ pos n ≡ pos q -ℤ pos o → sign_at p n k ≡ sign_at q o k
same-sign p n q o k h =
    let a : p - n ≡ q - o = omega (arith, ints) in
    let b : n - p ≡ o - q = omega (arith, ints) in
    rw (a, b) refl

-- two tallies with the same counts
pub one-tally : IsTotalOrder occurrence_cmp → ((a b : Message) → message_cmp a b ≡ Equal → a ≡ b) → (m n : BTreeMap Occurrence Sign) →
    IsOrdered occurrence_cmp m → IsOrdered occurrence_cmp n → AreTallied m.entries → AreTallied n.entries →
    HaveSameCounts message_order (letters_of m.entries) (letters_of n.entries) → m.entries ≡ n.entries
one-tally U X m n up up' st st' h = btree_map_from_get U m n up up'
    (λ q. st.signs q.message q.ordinal ∙ (same-sign _ _ _ _ q.ordinal (h q.message) ∙ sym (st'.signs q.message q.ordinal))) (exact X)
