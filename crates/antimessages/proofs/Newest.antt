-- The newest of several events, and what comes after it.
use Rattle.std.proofs.Common.{◌≡◌, suc, ◌-◌, inl, inr, true, false, List, [], ◌∷◌, ◌++◌, length, Option, Some, None, refl, sym, ap, ◌∙◌, subst, arith}
use Rattle.virtual_time.specs.Law.{Rules, IsOrder, IsIn, IsAscending}
use Rattle.virtual_time.proofs.Lists.{in-head, in-cons}
use Rattle.virtual_time.proofs.Order.{less-asym, not_less-cases}
use Rattle.antimessages.specs.Counting.{is_after, newest_of}

-- the newest of two or more is that of the rest
pub newest-more : {M : Type 0} (x y : M) (ys : List M) → newest_of (x ∷ (y ∷ ys)) ≡ newest_of (y ∷ ys)
newest-more x y ys = let e : length (x ∷ (y ∷ ys)) - 1 ≡ suc (length (y ∷ ys) - 1) = omega arith in rw e refl

-- there is a newest of all lists but the empty one
pub none-newest : {M : Type 0} (ds : List M) → newest_of ds ≡ None → ds ≡ []
none-newest [] e = refl
none-newest (x ∷ []) e = cc
none-newest (x ∷ (y ∷ ys)) e = let k = none-newest (y ∷ ys) (sym (newest-more x y ys) ∙ e) in cc

-- the newest stands at the end
pub newest-end : {M : Type 0} (ds : List M) (d : M) → newest_of ds ≡ Some d → (front : List M) × (ds ≡ front ++ d ∷ [])
newest-end [] d e = cc
newest-end (x ∷ []) d e = let k : x ≡ d = cc in ([], ap (λ z. z ∷ []) k)
newest-end (x ∷ (y ∷ ys)) d e =
    let k = newest-end (y ∷ ys) d (sym (newest-more x y ys) ∙ e) in
    (x ∷ k.0, ap (λ z. x ∷ z) k.1)

module _ {M S K N : Type 0} (r : Rules M S K N) (O : IsOrder r.order) where
  -- the newest is in the list, and it comes before none of them
  pub newest-in : (ds : List M) (d : M) → newest_of ds ≡ Some d → IsIn r.order d ds
  newest-in [] d e = cc
  newest-in (x ∷ []) d e = let k : x ≡ d = cc in subst (λ z. IsIn r.order d (z ∷ [])) (sym k) (in-head r.order O d [])
  newest-in (x ∷ (y ∷ ys)) d e = let k = newest-in (y ∷ ys) d (sym (newest-more x y ys) ∙ e) in omega arith

  pub newest-last : (ds : List M) (d x : M) → IsAscending r.order ds → newest_of ds ≡ Some d → IsIn r.order x ds → r.order.less d x ≡ false
  newest-last [] d x up e j = absurd (omega arith)
  newest-last (z ∷ []) d x up e j =
      let k : z ≡ d = cc in
      elim (in-cons r.order O x z [] j) [
        | inl f ↦ subst (λ a. r.order.less a x ≡ false) k (subst (λ a. r.order.less z a ≡ false) (sym f) (O.irreflexive z))
        | inr i ↦ absurd (omega arith)
      ]
  newest-last (z ∷ (y ∷ ys)) d x up e j =
      let k = sym (newest-more z y ys) ∙ e in
      elim (in-cons r.order O x z (y ∷ ys) j) [
        | inl f ↦ subst (λ a. r.order.less d a ≡ false) (sym f) (less-asym r.order O z d (up.0 d (newest-in (y ∷ ys) d k)))
        | inr i ↦ newest-last (y ∷ ys) d x up.1 k i
      ]

  -- what comes after the newest event comes after all of them
  pub after-all : (ds : List M) (m : M) → IsAscending r.order ds → is_after r.order (newest_of ds) m ≡ true → (d : M) → IsIn r.order d ds → r.order.less d m ≡ true
  after-all ds m up a d j = go (newest_of ds) refl a
    where
      go : (o : Option M) → newest_of ds ≡ o → is_after r.order o m ≡ true → r.order.less d m ≡ true
      go None e b = absurd (let k = subst (λ xs. IsIn r.order d xs) (none-newest ds e) j in omega arith)
      go (Some n) e b =
          elim (not_less-cases r.order O n d (newest-last ds n d up e j)) [
            | inl same ↦ subst (λ x. r.order.less x m ≡ true) (sym same) b
            | inr before ↦ O.transitive d n m before b
          ]

  -- what does not come after the newest event has one that it does not come after: there is a newest, and it stands at the end
  pub not_after-end : (ds : List M) (m : M) → is_after r.order (newest_of ds) m ≡ false → (front : List M) × (e : M) × (ds ≡ front ++ e ∷ []) × (r.order.less e m ≡ false)
  not_after-end ds m a = go (newest_of ds) refl a
    where
      go : (o : Option M) → newest_of ds ≡ o → is_after r.order o m ≡ false → (front : List M) × (e : M) × (ds ≡ front ++ e ∷ []) × (r.order.less e m ≡ false)
      go None e b = cc
      go (Some n) e b = let k = newest-end ds n e in (k.0, n, k.1, b)
