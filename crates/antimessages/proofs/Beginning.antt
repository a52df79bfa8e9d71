-- The first letter of a message, put where none counts; and the letters at the beginning, where they are one plus letter of a message.
use Rattle.std.proofs.Common.{◌≡◌, ℕ, zero, suc, ◌<◌, true, cond, List, [], ◌∷◌, slice_get, Some, None, Result, Ok, Err, OnOk, pos, refl, sym, ap, ◌∙◌, subst, arith, OnErr, nat_cmp, is_eq, is_lt, Ordering, Less, Equal, Greater, lt-ltb}
use Rattle.std.specs.List.Sorted.{IsStrictlySortedBy}
use Rattle.std.specs.Ordering.{ordering_then, match_ordering}
use Rattle.std.specs.Cmp.{IsTotalOrder, tied_itself}
use Rattle.std.specs.Map.{lookup, keys_of}
use Rattle.std.specs.BTreeMap.{is_at, insert_entry}
use Rattle.std.proofs.lemmas.Bool.Decides.{nat_tests}
use Rattle.std.proofs.lemmas.Int.{ints}
use Rattle.std.proofs.lemmas.Map.{lookup-none}
use Rattle.std.proofs.lemmas.Map.Entries.{none_below_head}
use Rattle.vlink.specs.declared.message.Message.{Message}
use Rattle.virtual_time.specs.declared.letter.Sign.{Sign}
use Rattle.virtual_time.specs.declared.letter.Sign.TheVariants.{Plus, Minus}
use Rattle.vlink.specs.Order.{message_cmp, message_order}
use Rattle.virtual_time.specs.Law.{IsOrder, pluses, minuses}
use Rattle.antimessages.specs.declared.occurrence.Occurrence.{Occurrence}
use Rattle.antimessages.specs.Counting.{signed_count, HaveSameCounts}
use Rattle.antimessages.specs.Occurrences.{occurrence_of, occurrence_cmp, letter_at, letters_of, count_with, sign_at, AreTallied, BeginsWithOne, IsNextOther}
use Rattle.antimessages.proofs.Last.{at-zero, at-last}
use Rattle.antimessages.proofs.Entering.{IsOneMore, counts-more, take-tallied}

-- where a key has a value, another one and then that one again change nothing
pub restored : {K X : Type 0} {R : K → K → Ordering} → IsTotalOrder R → (es : List (K × X)) (q : K) (v old : X) → IsStrictlySortedBy R (keys_of es) →
    lookup (is_at (R q)) es ≡ Some old → insert_entry R (insert_entry R es q v) q old ≡ es
unfolding IsStrictlySortedBy
restored T [] q v old up h = absurd (let z : ⊥ = cc in z)
restored {K} {X} {R} T (e ∷ es) q v old up h = go (R q e.0) refl h (restored T es q v old up.1)
  where
    go : (o : Ordering) → R q e.0 ≡ o → cond (is_eq o) (Some e.1) (lookup (is_at (R q)) es) ≡ Some old →
        (lookup (is_at (R q)) es ≡ Some old → insert_entry R (insert_entry R es q v) q old ≡ es) →
        insert_entry R (match_ordering o ((q, v) ∷ e ∷ es) ((e.0, v) ∷ es) (e ∷ insert_entry R es q v)) q old ≡ e ∷ es
    go Less w k ih = absurd (let n = lookup-none (is_at (R q)) (e ∷ es) (none_below_head T q e es up w) in let z : ⊥ = cc in z)
    go Equal w k ih = let t : old ≡ e.1 = cc in rw w (ap (λ x. (e.0, x) ∷ es) t)
    go Greater w k ih = rw w (ap (λ z. e ∷ z) (ih k))

pub none-with : (s : Sign) → pos 0 ≡ count_with s 0
none-with Plus = refl
none-with Minus = omega (arith, ints)

-- no letter of the message counts where none stands at ordinal 0
pub none-counts : (m : Message) (es : List (Occurrence × Sign)) → AreTallied es → lookup (is_at (occurrence_cmp (occurrence_of m 0))) es ≡ None →
    signed_count message_order m (letters_of es) ≡ pos 0
none-counts m es st h = at-zero (pluses message_order m (letters_of es)) (minuses message_order m (letters_of es)) (sym (st.signs m 0) ∙ h)

-- where a plus stands at an ordinal, one stands at each lesser one
plus-below : (p n k j : ℕ) → sign_at p n k ≡ Some Plus → j < k → sign_at p n j ≡ Some Plus
plus-below p n k j h l = grind (arith, nat_tests)

module _ (T : IsTotalOrder message_cmp) (U : IsTotalOrder occurrence_cmp) (X : (a b : Message) → message_cmp a b ≡ Equal → a ≡ b) (m : Message) where
  below : (j k : ℕ) → j < k → occurrence_cmp (occurrence_of m j) (occurrence_of m k) ≡ Less
  below j k h = rw (tied_itself T m, lt-ltb j k h) refl

  -- a lesser occurrence than the first one is not there
  not-there : (q : Occurrence) (e : Occurrence × Sign) (es : List (Occurrence × Sign)) → IsStrictlySortedBy occurrence_cmp (keys_of (e ∷ es)) →
      occurrence_cmp q e.0 ≡ Less → lookup (is_at (occurrence_cmp q)) (e ∷ es) ≡ None
  not-there q e es up l = lookup-none (is_at (occurrence_cmp q)) (e ∷ es) (none_below_head U q e es up l)

  -- a message that comes before that of the first letter does not count
  pub before-first : (o : Occurrence) (s : Sign) (es : List (Occurrence × Sign)) → AreTallied es → IsStrictlySortedBy occurrence_cmp (keys_of es) →
      slice_get es 0 ≡ Some (o, s) → message_order.less m o.message ≡ true → signed_count message_order m (letters_of es) ≡ pos 0
  before-first o s [] st up at less = cc
  before-first o s (e ∷ es) st up at less =
      let same : e ≡ (o, s) = cc in
      none-counts m (e ∷ es) st (not-there (occurrence_of m 0) e es up
      (subst (λ (z : Occurrence × Sign). occurrence_cmp (occurrence_of m 0) z.0 ≡ Less) (sym same) (go (message_cmp m o.message) less)))
    where
      go : (c : Ordering) → is_lt c ≡ true → ordering_then c (nat_cmp 0 o.ordinal) ≡ Less
      go Less h = refl
      go Equal h = cc
      go Greater h = cc

  module _ (k : ℕ) (rest : List (Occurrence × Sign)) (st : AreTallied ((occurrence_of m k, Plus) ∷ rest))
      (up : IsStrictlySortedBy occurrence_cmp (keys_of ((occurrence_of m k, Plus) ∷ rest))) where
    abbrev all : List (Occurrence × Sign)
    all = (occurrence_of m k, Plus) ∷ rest

    sign-here : sign_at (pluses message_order m (letters_of all)) (minuses message_order m (letters_of all)) k ≡ Some Plus
    sign-here = sym (st.signs m k) ∙ rw (tied_itself U (occurrence_of m k)) refl

    -- its first letter has the ordinal 0
    first-ordinal : k ≡ 0
    first-ordinal = go k refl
      where
        go : (j : ℕ) → k ≡ j → k ≡ 0
        go zero e = e
        go (suc j) e = absurd (
            let a = st.signs m 0 ∙ plus-below _ _ k 0 sign-here (omega arith) in
            let b = not-there (occurrence_of m 0) (occurrence_of m k, Plus) rest up (below 0 k (omega arith)) in
            let z : ⊥ = cc in z)

    next-none : k ≡ 0 → IsNextOther m rest → lookup (is_at (occurrence_cmp (occurrence_of m 1))) rest ≡ None
    unfolding IsStrictlySortedBy
    next-none z n = go rest up n
      where
        go : (es : List (Occurrence × Sign)) → IsStrictlySortedBy occurrence_cmp (keys_of ((occurrence_of m k, Plus) ∷ es)) → IsNextOther m es →
            lookup (is_at (occurrence_cmp (occurrence_of m 1))) es ≡ None
        go [] u o = refl
        go (f ∷ fs) u o = later (message_cmp m f.0.message) refl u.0.0
          where
            later : (r : Ordering) → message_cmp m f.0.message ≡ r → ordering_then r (nat_cmp k f.0.ordinal) ≡ Less →
                lookup (is_at (occurrence_cmp (occurrence_of m 1))) (f ∷ fs) ≡ None
            later Less w l = not-there (occurrence_of m 1) f fs u.1 (rw w refl)
            later Equal w l = absurd (o (sym (X m f.0.message w)))
            later Greater w l = absurd (let z : ⊥ = cc in z)

    one-there : IsNextOther m rest → signed_count message_order m (letters_of all) ≡ pos 1
    one-there n =
        let z = first-ordinal in
        at-last Plus (pluses message_order m (letters_of all)) (minuses message_order m (letters_of all)) 0
        (subst (λ j. sign_at (pluses message_order m (letters_of all)) (minuses message_order m (letters_of all)) j ≡ Some Plus) z sign-here)
        (sym (st.signs m 1) ∙ (beyond z ∙ next-none z n))
      where
        beyond : k ≡ 0 → lookup (is_at (occurrence_cmp (occurrence_of m 1))) all ≡ lookup (is_at (occurrence_cmp (occurrence_of m 1))) rest
        beyond z = rw (z, tied_itself T m) refl

  is-one : (e : Occurrence × Sign) → e.0.message ≡ m → e.1 ≡ Plus → e ≡ (occurrence_of m e.0.ordinal, Plus)
  is-one e h k = λ i. (record { message = h i; ordinal = e.0.ordinal }, k i)

  module _ (es : List (Occurrence × Sign)) (st : AreTallied es) (up : IsStrictlySortedBy occurrence_cmp (keys_of es)) (h : BeginsWithOne m es) where
    -- the count of the message is 1
    pub begins-one : signed_count message_order m (letters_of es) ≡ pos 1
    begins-one = go es st up h
      where
        go : (es : List (Occurrence × Sign)) → AreTallied es → IsStrictlySortedBy occurrence_cmp (keys_of es) → BeginsWithOne m es → signed_count message_order m (letters_of es) ≡ pos 1
        go [] st up h = absurd h
        go (e ∷ rest) st up h =
            let same : e ≡ (occurrence_of m e.0.ordinal, Plus) = is-one e h.0 h.1 in
            subst (λ x. signed_count message_order m (letters_of (x ∷ rest)) ≡ pos 1) (sym same)
            (one-there e.0.ordinal rest (subst (λ x. AreTallied (x ∷ rest)) same st) (subst (λ x. IsStrictlySortedBy occurrence_cmp (keys_of (x ∷ rest))) same up) h.2)

    -- its letter is the first one
    begins-first : (p : Occurrence × Sign) (rest : List (Occurrence × Sign)) → es ≡ p ∷ rest → p ≡ (occurrence_of m 0, Plus)
    begins-first p rest e = go es st up h e
      where
        go : (es : List (Occurrence × Sign)) → AreTallied es → IsStrictlySortedBy occurrence_cmp (keys_of es) → BeginsWithOne m es → es ≡ p ∷ rest → p ≡ (occurrence_of m 0, Plus)
        go [] st up h e = absurd h
        go (x ∷ xs) st up h e =
            let same : x ≡ (occurrence_of m x.0.ordinal, Plus) = is-one x h.0 h.1 in
            let z = first-ordinal x.0.ordinal xs (subst (λ y. AreTallied (y ∷ xs)) same st) (subst (λ y. IsStrictlySortedBy occurrence_cmp (keys_of (y ∷ xs))) same up) in
            let here : x ≡ p = cc in
            sym here ∙ (same ∙ ap (λ k. (occurrence_of m k, Plus)) z)

    -- its letter leaves the map of signs: what the map tells by an order that is that of occurrences
    pub begins-taken : IsOrder message_order → (p : Occurrence × Sign) (rest : List (Occurrence × Sign)) → es ≡ p ∷ rest →
        {f : Occurrence → Occurrence → Ordering} → f ≡ occurrence_cmp →
        ((x : Occurrence) → lookup (is_at (f x)) rest ≡ cond (is_at (f p.0) x) None (lookup (is_at (f x)) es)) →
        AreTallied rest × HaveSameCounts message_order (letters_of es) (letter_at (occurrence_of m 0, Plus) ∷ letters_of rest)
    begins-taken O p rest e w updates =
        let first = begins-first p rest e in
        let more : IsOneMore (occurrence_of m 0, Plus) rest es =
        subst (λ (x : Occurrence × Sign). IsOneMore x rest es) first
        (subst (λ xs. IsOneMore p rest xs) (sym e) (record { pluses_are = λ m. refl; minuses_are = λ m. refl })) in
        let u = subst (λ (f : Occurrence → Occurrence → Ordering). (x : Occurrence) → lookup (is_at (f x)) rest ≡ cond (is_at (f p.0) x) None (lookup (is_at (f x)) es))
        w updates in (
          take-tallied T X O m 0 Plus rest es st begins-one more
              (subst (λ (z : Occurrence × Sign). (x : Occurrence) → lookup (is_at (occurrence_cmp x)) rest ≡ cond (is_at (occurrence_cmp z.0) x) None (lookup (is_at (occurrence_cmp x)) es)) first u),
          counts-more (occurrence_of m 0, Plus) rest es more,
        )

-- a call that is refused only where something holds that does not hold succeeds
pub settled : {A E : Type 0} (x : Result A E) (P Q : Type 0) → OnOk x P → OnErr x Q → (Q → ⊥) → P
settled (Ok a) P Q p q n = p
settled (Err e) P Q p q n = absurd (n q)
