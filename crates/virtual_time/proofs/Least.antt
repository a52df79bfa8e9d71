-- The message of a list that comes first.
use Rattle.std.proofs.Common.{◌≡◌, inl, inr, Bool, true, false, cond, List, [], ◌∷◌, Option, Some, None, refl, sym, ap, subst, arith}
use Rattle.std.proofs.lemmas.Bool.{false_from_ne_true, both_ways}
use Rattle.virtual_time.specs.Law.{Order, IsOrder, times_in, IsIn, least, lesser}
use Rattle.virtual_time.proofs.Order.{less-asym, less-not_less}
use Rattle.virtual_time.proofs.Lists.{in-head, in-cons}

module _ {M : Type 0} (order : Order M) (O : IsOrder order) where
  pub least-none : (xs : List M) → least order xs ≡ None → xs ≡ []
  least-none [] h = refl
  least-none (x ∷ xs) h = absurd (go (least order xs) h)
    where
      go : (o : Option M) → lesser order x o ≡ None → ⊥
      go None e = cc
      go (Some y) e = pick (order.less y x) e
        where
          pick : (b : Bool) → cond b (Some y) (Some x) ≡ None → ⊥
          pick true e = cc
          pick false e = cc

  -- m is in the list, and nothing there comes before it
  pub record IsLeast (m : M) (xs : List M) : Type 0 where
    pub inside : IsIn order m xs
    pub lowest : (x : M) → IsIn order x xs → order.less x m ≡ false

  pub least-some : (xs : List M) (m : M) → least order xs ≡ Some m → IsLeast m xs
  least-some [] m h = absurd (let k : ⊥ = cc in k)
  least-some (x ∷ xs) m h = go (least order xs) refl h (λ y e. least-some xs y e)
    where
      at_x : ((y : M) → IsIn order y xs → order.less y x ≡ false) → IsLeast x (x ∷ xs)
      at_x c = record {
        inside = in-head order O x xs;
        lowest = λ y i. elim (in-cons order O y x xs i) [ inl e ↦ subst (λ z. order.less z x ≡ false) (sym e) (O.irreflexive x) | inr k ↦ c y k ];
      }

      pick : (y : M) → IsLeast y xs → (b : Bool) → order.less y x ≡ b → cond b (Some y) (Some x) ≡ Some m → IsLeast m (x ∷ xs)
      pick y i true e k =
          let same_one : y ≡ m = cc in
          subst (λ z. IsLeast z (x ∷ xs)) same_one
          (record {
            inside = let a = i.inside in omega arith;
            lowest = λ z j. elim (in-cons order O z x xs j) [ inl s ↦ subst (λ w. order.less w y ≡ false) (sym s) (less-asym order O y x e) | inr t ↦ i.lowest z t ];
          })
      pick y i false e k =
          let same_one : x ≡ m = cc in
          subst (λ z. IsLeast z (x ∷ xs)) same_one
          (at_x (λ z j. false_from_ne_true _ (λ t. both_ways _ (i.lowest z j) (below_y z t))))
        where
          below_y : (z : M) → order.less z x ≡ true → order.less z y ≡ true
          below_y z t = less-not_less order O z x y t e

      go : (o : Option M) → least order xs ≡ o → lesser order x o ≡ Some m → ((y : M) → least order xs ≡ Some y → IsLeast y xs) → IsLeast m (x ∷ xs)
      go None e k ih =
          let same_one : x ≡ m = cc in
          let empty : xs ≡ [] = least-none xs e in
          subst (λ z. IsLeast z (x ∷ xs)) same_one
          (at_x (λ y i. absurd (let n = ap (times_in order y) empty in omega arith)))
      go (Some y) e k ih = pick y (ih y e) (order.less y x) refl k

  pub least-from : (xs : List M) (m : M) → IsLeast m xs → least order xs ≡ Some m
  least-from xs m l = go (least order xs) refl
    where
      go : (o : Option M) → least order xs ≡ o → o ≡ Some m
      go None e = absurd (let a = ap (times_in order m) (least-none xs e) in let b = l.inside in omega arith)
      go (Some y) e =
          let k = least-some xs y e in
          ap (λ z. Some z) (O.total y m (l.lowest y k.inside) (k.lowest m l.inside))
