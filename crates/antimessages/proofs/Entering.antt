-- What a letter put on its count_with, or taken off it, makes of the counts.
use Rattle.std.proofs.Common.{◌≡◌, ℕ, ◌+◌, ◌<◌, ◌==◌, ◌⊎◌, inl, inr, Bool, true, false, not, ◌&&◌, cond, nat_lt, List, [], ◌∷◌, Option, Some, None, pos, ◌-ℤ◌, refl, sym, ap, ◌∙◌, subst, arith, nat_cmp, is_eq, Ordering, Less, Equal, Greater, lt-ltb, ltb-true}
use Rattle.std.specs.Ordering.{ordering_then, match_ordering}
use Rattle.std.specs.Cmp.{IsTotalOrder, tied_itself}
use Rattle.std.specs.Map.{lookup, remove_entry}
use Rattle.std.specs.BTreeMap.{is_at, insert_entry}
use Rattle.std.proofs.lemmas.Bool.{both_ways, false_from_ne_true}
use Rattle.std.proofs.lemmas.Bool.Decides.{nat_tests}
use Rattle.std.proofs.lemmas.Int.{ints}
use Rattle.vlink.specs.declared.message.Message.{Message}
use Rattle.virtual_time.specs.declared.letter.Sign.{Sign}
use Rattle.virtual_time.specs.declared.letter.Sign.TheVariants.{Plus, Minus}
use Rattle.vlink.specs.Order.{message_cmp, message_order}
use Rattle.virtual_time.specs.Law.{IsOrder, one_if, same, pluses, minuses, is_plus}
use Rattle.virtual_time.proofs.Order.{same-refl, same_cases}
use Rattle.virtual_time.proofs.Letters.{counts-other}
use Rattle.antimessages.specs.declared.occurrence.Occurrence.{Occurrence}
use Rattle.antimessages.specs.Counting.{signed_count, HaveSameCounts}
use Rattle.antimessages.specs.Occurrences.{occurrence_of, occurrence_cmp, letter_at, letters_of, count_with, sign_at, AreTallied}

not-lt : (a b : ℕ) → (a < b → ⊥) → nat_lt a b ≡ false
not-lt a b h = false_from_ne_true _ (λ t. h (ltb-true a b t))

pub first-equal : (o p : Ordering) → is_eq (ordering_then o p) ≡ true → o ≡ Equal
first-equal Less p h = cc
first-equal Equal p h = refl
first-equal Greater p h = cc

cmp-eqb : (j k : ℕ) → is_eq (nat_cmp j k) ≡ (j == k)
cmp-eqb j k = grind (arith, nat_tests)

-- the sign at an ordinal of a count_with
pub sign-count_with : (s : Sign) (p n k j : ℕ) → pos p -ℤ pos n ≡ count_with s k → sign_at p n j ≡ cond (nat_lt j k) (Some s) None
sign-count_with Plus p n k j h = grind (arith, nat_tests, ints)
sign-count_with Minus p n k j h = grind (arith, nat_tests, ints)

next : {X : Type 0} (x : Option X) (k j : ℕ) → cond (k == j) x (cond (nat_lt j k) x None) ≡ cond (nat_lt j (k + 1)) x None
next x k j = grind (arith, nat_tests)

less : {X : Type 0} (x : Option X) (k j : ℕ) → cond (k == j) None (cond (nat_lt j (k + 1)) x None) ≡ cond (nat_lt j k) x None
less x k j = grind (arith, nat_tests)

-- one letter of a sign more
more : (s : Sign) (p n q o k : ℕ) → q ≡ one_if (is_plus s && true) + p → o ≡ one_if (not (is_plus s) && true) + n →
    pos p -ℤ pos n ≡ count_with s k → pos q -ℤ pos o ≡ count_with s (k + 1)
more Plus p n q o k e f h = omega (arith, ints)
more Minus p n q o k e f h = omega (arith, ints)

fewer : (s : Sign) (p n q o k : ℕ) → p ≡ one_if (is_plus s && true) + q → n ≡ one_if (not (is_plus s) && true) + o →
    pos p -ℤ pos n ≡ count_with s (k + 1) → pos q -ℤ pos o ≡ count_with s k
fewer Plus p n q o k e f h = omega (arith, ints)
fewer Minus p n q o k e f h = omega (arith, ints)

-- the letters of fs are those of es and this one
pub record IsOneMore (e : Occurrence × Sign) (es fs : List (Occurrence × Sign)) : Type 0 where
  pub pluses_are : (m : Message) → pluses message_order m (letters_of fs) ≡ pluses message_order m (letter_at e ∷ letters_of es)
  pub minuses_are : (m : Message) → minuses message_order m (letters_of fs) ≡ minuses message_order m (letter_at e ∷ letters_of es)

pub counts-more : (e : Occurrence × Sign) (es fs : List (Occurrence × Sign)) → IsOneMore e es fs → (m : Message) →
    signed_count message_order m (letters_of fs) ≡ signed_count message_order m (letter_at e ∷ letters_of es)
counts-more e es fs h m = λ i. pos (h.pluses_are m i) -ℤ pos (h.minuses_are m i)

insert-more : (es : List (Occurrence × Sign)) (q : Occurrence) (s : Sign) → lookup (is_at (occurrence_cmp q)) es ≡ None →
    IsOneMore (q, s) es (insert_entry occurrence_cmp es q s)
insert-more [] q s h = record { pluses_are = λ m. refl; minuses_are = λ m. refl }
insert-more (e ∷ es) q s h = go (occurrence_cmp q e.0) h (λ k. insert-more es q s k)
  where
    go : (o : Ordering) → cond (is_eq o) (Some e.1) (lookup (is_at (occurrence_cmp q)) es) ≡ None →
        (lookup (is_at (occurrence_cmp q)) es ≡ None → IsOneMore (q, s) es (insert_entry occurrence_cmp es q s)) →
        IsOneMore (q, s) (e ∷ es) (match_ordering o ((q, s) ∷ e ∷ es) ((e.0, s) ∷ es) (e ∷ insert_entry occurrence_cmp es q s))
    go Less k ih = record { pluses_are = λ m. refl; minuses_are = λ m. refl }
    go Equal k ih = absurd (let z : ⊥ = cc in z)
    go Greater k ih =
        let a = ih k in
        record { pluses_are = λ m. let b = a.pluses_are m in omega arith; minuses_are = λ m. let b = a.minuses_are m in omega arith }

module _ (T : IsTotalOrder message_cmp) (X : (a b : Message) → message_cmp a b ≡ Equal → a ≡ b) (O : IsOrder message_order) where
  at-same : (m : Message) (j k : ℕ) → is_at (occurrence_cmp (occurrence_of m j)) (occurrence_of m k) ≡ (j == k)
  at-same m j k = rw (tied_itself T m) (cmp-eqb j k)

  at-other : (m x : Message) (k j : ℕ) → same message_order x m ≡ false → is_at (occurrence_cmp (occurrence_of m k)) (occurrence_of x j) ≡ false
  at-other m x k j n =
      false_from_ne_true _ (λ t.
      let e : m ≡ x = X m x (first-equal (message_cmp m x) (nat_cmp k j) t) in
      both_ways _ (subst (λ y. same message_order y m ≡ false) (sym e) n) (same-refl message_order O m))

  remove-more : (es : List (Occurrence × Sign)) (q : Occurrence) (s : Sign) → lookup (is_at (occurrence_cmp q)) es ≡ Some s →
      IsOneMore (q, s) (remove_entry (is_at (occurrence_cmp q)) es) es
  remove-more [] q s h = absurd (let z : ⊥ = cc in z)
  remove-more (e ∷ es) q s h = go (is_at (occurrence_cmp q) e.0) refl h (λ k. remove-more es q s k)
    where
      go : (b : Bool) → is_at (occurrence_cmp q) e.0 ≡ b → cond b (Some e.1) (lookup (is_at (occurrence_cmp q)) es) ≡ Some s →
          (lookup (is_at (occurrence_cmp q)) es ≡ Some s → IsOneMore (q, s) (remove_entry (is_at (occurrence_cmp q)) es) es) →
          IsOneMore (q, s) (cond b es (e ∷ remove_entry (is_at (occurrence_cmp q)) es)) (e ∷ es)
      go true w k ih =
          let t : e.1 ≡ s = cc in
          let u : q.message ≡ e.0.message = X q.message e.0.message (first-equal _ (nat_cmp q.ordinal e.0.ordinal) w) in
          record {
            pluses_are = λ m i. one_if (is_plus (t i) && same message_order m (sym u i)) + pluses message_order m (letters_of es);
            minuses_are = λ m i. one_if (not (is_plus (t i)) && same message_order m (sym u i)) + minuses message_order m (letters_of es);
          }
      go false w k ih =
          let a = ih k in
          record { pluses_are = λ m. let b = a.pluses_are m in omega arith; minuses_are = λ m. let b = a.minuses_are m in omega arith }

  module _ (m : Message) (k : ℕ) (s : Sign) (es fs : List (Occurrence × Sign)) where
    own-pluses : IsOneMore (occurrence_of m k, s) es fs → pluses message_order m (letters_of fs) ≡ one_if (is_plus s && true) + pluses message_order m (letters_of es)
    own-pluses h = h.pluses_are m ∙ ap (λ b. one_if (is_plus s && b) + pluses message_order m (letters_of es)) (same-refl message_order O m)

    own-minuses : IsOneMore (occurrence_of m k, s) es fs → minuses message_order m (letters_of fs) ≡ one_if (not (is_plus s) && true) + minuses message_order m (letters_of es)
    own-minuses h = h.minuses_are m ∙ ap (λ b. one_if (not (is_plus s) && b) + minuses message_order m (letters_of es)) (same-refl message_order O m)

    other-signs : IsOneMore (occurrence_of m k, s) es fs → (x : Message) (j : ℕ) → same message_order x m ≡ false →
        sign_at (pluses message_order x (letters_of fs)) (minuses message_order x (letters_of fs)) j
        ≡ sign_at (pluses message_order x (letters_of es)) (minuses message_order x (letters_of es)) j
    other-signs h x j n =
        let a = counts-other message_order O x (letter_at (occurrence_of m k, s)) (letters_of es) n in
        let p = h.pluses_are x ∙ a.0 in
        let q = h.minuses_are x ∙ a.1 in
        λ i. sign_at (p i) (q i) j

    -- the signs are those of the counts where they are at the message and at each other one
    tallied-by : (old new : List (Occurrence × Sign)) (v : Option Sign) → AreTallied old →
        ((q : Occurrence) → lookup (is_at (occurrence_cmp q)) new ≡ cond (is_at (occurrence_cmp (occurrence_of m k)) q) v (lookup (is_at (occurrence_cmp q)) old)) →
        ((j : ℕ) → cond (k == j) v (sign_at (pluses message_order m (letters_of old)) (minuses message_order m (letters_of old)) j)
        ≡ sign_at (pluses message_order m (letters_of new)) (minuses message_order m (letters_of new)) j) →
        ((x : Message) (j : ℕ) → same message_order x m ≡ false → sign_at (pluses message_order x (letters_of old)) (minuses message_order x (letters_of old)) j
        ≡ sign_at (pluses message_order x (letters_of new)) (minuses message_order x (letters_of new)) j) → AreTallied new
    tallied-by old new v st u mine others = record { signs = λ x j. go x j (same_cases message_order O x m) }
      where
        go : (x : Message) (j : ℕ) → (x ≡ m) ⊎ (same message_order x m ≡ false) →
            lookup (is_at (occurrence_cmp (occurrence_of x j))) new ≡ sign_at (pluses message_order x (letters_of new)) (minuses message_order x (letters_of new)) j
        go x j (inl e) =
            subst (λ y. lookup (is_at (occurrence_cmp (occurrence_of y j))) new ≡ sign_at (pluses message_order y (letters_of new)) (minuses message_order y (letters_of new)) j) (sym e)
            (u (occurrence_of m j) ∙ (ap (λ b. cond b v (lookup (is_at (occurrence_cmp (occurrence_of m j))) old)) (at-same m k j) ∙
            (ap (λ o. cond (k == j) v o) (st.signs m j) ∙ mine j)))
        go x j (inr n) =
            u (occurrence_of x j) ∙ (ap (λ b. cond b v (lookup (is_at (occurrence_cmp (occurrence_of x j))) old)) (at-other m x k j n) ∙ (st.signs x j ∙ others x j n))

    put-tallied : AreTallied es → signed_count message_order m (letters_of es) ≡ count_with s k → IsOneMore (occurrence_of m k, s) es fs →
        ((q : Occurrence) → lookup (is_at (occurrence_cmp q)) fs ≡ cond (is_at (occurrence_cmp (occurrence_of m k)) q) (Some s) (lookup (is_at (occurrence_cmp q)) es)) → AreTallied fs
    put-tallied st c h u =
        let a = more s _ _ _ _ k (own-pluses h) (own-minuses h) c in
        tallied-by es fs (Some s) st u
        (λ j. ap (λ o. cond (k == j) (Some s) o) (sign-count_with s _ _ k j c) ∙ (next (Some s) k j ∙ sym (sign-count_with s _ _ (k + 1) j a)))
        (λ x j n. sym (other-signs h x j n))

    pub take-tallied : AreTallied fs → signed_count message_order m (letters_of fs) ≡ count_with s (k + 1) → IsOneMore (occurrence_of m k, s) es fs →
        ((q : Occurrence) → lookup (is_at (occurrence_cmp q)) es ≡ cond (is_at (occurrence_cmp (occurrence_of m k)) q) None (lookup (is_at (occurrence_cmp q)) fs)) → AreTallied es
    take-tallied st c h u =
        let a = fewer s _ _ _ _ k (own-pluses h) (own-minuses h) c in
        tallied-by fs es None st u
        (λ j. ap (λ o. cond (k == j) None o) (sign-count_with s _ _ (k + 1) j c) ∙ (less (Some s) k j ∙ sym (sign-count_with s _ _ k j a)))
        (other-signs h)

    nothing-on_top : AreTallied es → signed_count message_order m (letters_of es) ≡ count_with s k → lookup (is_at (occurrence_cmp (occurrence_of m k))) es ≡ None
    nothing-on_top st c = st.signs m k ∙ (sign-count_with s _ _ k k c ∙ ap (λ b. cond b (Some s) None) (not-lt k k (λ t. omega arith)))

    last-stands : AreTallied fs → signed_count message_order m (letters_of fs) ≡ count_with s (k + 1) → lookup (is_at (occurrence_cmp (occurrence_of m k))) fs ≡ Some s
    last-stands st c = st.signs m k ∙ (sign-count_with s _ _ (k + 1) k c ∙ ap (λ b. cond b (Some s) None) (lt-ltb k (k + 1) (omega arith)))

    -- the letter enters a map of signs, or leaves it: what the map tells by an order that is that of occurrences
    pub put-both : {f : Occurrence → Occurrence → Ordering} → f ≡ occurrence_cmp → AreTallied es → signed_count message_order m (letters_of es) ≡ count_with s k →
        fs ≡ insert_entry f es (occurrence_of m k) s →
        ((q : Occurrence) → lookup (is_at (f q)) fs ≡ cond (is_at (f (occurrence_of m k)) q) (Some s) (lookup (is_at (f q)) es)) →
        AreTallied fs × HaveSameCounts message_order (letters_of fs) (letter_at (occurrence_of m k, s) ∷ letters_of es)
    put-both w st c entries updates =
        let e = subst (λ (f : Occurrence → Occurrence → Ordering). fs ≡ insert_entry f es (occurrence_of m k) s) w entries in
        let u = subst (λ (f : Occurrence → Occurrence → Ordering). (q : Occurrence) → lookup (is_at (f q)) fs ≡ cond (is_at (f (occurrence_of m k)) q) (Some s) (lookup (is_at (f q)) es)) w updates in
        let o = subst (λ gs. IsOneMore (occurrence_of m k, s) es gs) (sym e) (insert-more es (occurrence_of m k) s (nothing-on_top st c)) in
        (put-tallied st c o u, counts-more (occurrence_of m k, s) es fs o)

    pub take-both : {f : Occurrence → Occurrence → Ordering} → f ≡ occurrence_cmp → AreTallied fs → signed_count message_order m (letters_of fs) ≡ count_with s (k + 1) →
        es ≡ remove_entry (is_at (f (occurrence_of m k))) fs →
        ((q : Occurrence) → lookup (is_at (f q)) es ≡ cond (is_at (f (occurrence_of m k)) q) None (lookup (is_at (f q)) fs)) →
        AreTallied es × HaveSameCounts message_order (letters_of fs) (letter_at (occurrence_of m k, s) ∷ letters_of es)
    take-both w st c entries updates =
        let e = subst (λ (f : Occurrence → Occurrence → Ordering). es ≡ remove_entry (is_at (f (occurrence_of m k))) fs) w entries in
        let u = subst (λ (f : Occurrence → Occurrence → Ordering). (q : Occurrence) → lookup (is_at (f q)) es ≡ cond (is_at (f (occurrence_of m k)) q) None (lookup (is_at (f q)) fs)) w updates in
        let o = subst (λ gs. IsOneMore (occurrence_of m k, s) gs fs) (sym e) (remove-more fs (occurrence_of m k) s (last-stands st c)) in
        (take-tallied st c o u, counts-more (occurrence_of m k, s) es fs o)
