-- Some of a list, and each of it.
use Rattle.std.proofs.Common.{inl, inr, All, List, [], ◌∷◌, ◌++◌, refl, sym, subst, ◌∙◌}
use Rattle.std.specs.Prelude.{⊤}
use Rattle.std.proofs.lemmas.List.Elements.{All-head, All-tail}
use Rattle.port_bounds.specs.Sublists.{Every, IsSublist}

module _ {X : Type 0} where
  pub sub-trans : (xs ys zs : List X) → IsSublist xs ys → IsSublist ys zs → IsSublist xs zs
  sub-trans [] ys zs a b = tt
  sub-trans (x ∷ xs) [] zs a b = absurd a
  sub-trans (x ∷ xs) (y ∷ ys) [] a b = absurd b
  sub-trans (x ∷ xs) (y ∷ ys) (z ∷ zs) a (inr k) = inr (sub-trans (x ∷ xs) (y ∷ ys) zs a k)
  sub-trans (x ∷ xs) (y ∷ ys) (z ∷ zs) (inl e) (inl f) = inl (e.0 ∙ f.0, sub-trans xs ys zs e.1 f.1)
  sub-trans (x ∷ xs) (y ∷ ys) (z ∷ zs) (inr k) (inl f) = inr (sub-trans (x ∷ xs) ys zs k f.1)

  -- the first elements, the last ones, and a part in the middle
  pub sub-front : (xs ys : List X) → IsSublist xs (xs ++ ys)
  sub-front [] ys = tt
  sub-front (x ∷ xs) ys = inl (refl, sub-front xs ys)

  sub-later : (xs : List X) (y : X) (ys : List X) → IsSublist xs ys → IsSublist xs (y ∷ ys)
  sub-later [] y ys h = tt
  sub-later (x ∷ xs) y ys h = inr h

  pub sub-behind : (xs ys zs : List X) → IsSublist xs zs → IsSublist xs (ys ++ zs)
  sub-behind xs [] zs h = h
  sub-behind xs (y ∷ ys) zs h = sub-later xs y (ys ++ zs) (sub-behind xs ys zs h)

  pub sub-part : (xs ys zs : List X) → IsSublist ys (xs ++ (ys ++ zs))
  sub-part xs ys zs = sub-behind ys xs (ys ++ zs) (sub-front ys zs)

  pub sub-both : (xs ys us vs : List X) → IsSublist xs us → IsSublist ys vs → IsSublist (xs ++ ys) (us ++ vs)
  sub-both [] ys us vs s t = sub-behind ys us vs t
  sub-both (x ∷ xs) ys [] vs s t = absurd s
  sub-both (x ∷ xs) ys (u ∷ us) vs (inl e) t = inl (e.0, sub-both xs ys us vs e.1 t)
  sub-both (x ∷ xs) ys (u ∷ us) vs (inr k) t = inr (sub-both (x ∷ xs) ys us vs k t)

  pub every-true : (xs : List X) → Every (λ x. ⊤) xs
  every-true [] = tt
  every-true (x ∷ xs) = (tt, every-true xs)

  pub every-weaker : (P Q : X → Type 0) → ((x : X) → P x → Q x) → (xs : List X) → Every P xs → Every Q xs
  every-weaker P Q h [] k = tt
  every-weaker P Q h (x ∷ xs) k = (h x k.0, every-weaker P Q h xs k.1)

  module _ (P : X → Type 0) where
    pub every-append : (xs ys : List X) → Every P xs → Every P ys → Every P (xs ++ ys)
    every-append [] ys h k = k
    every-append (x ∷ xs) ys h k = (h.0, every-append xs ys h.1 k)

    pub every-push : (xs : List X) (x : X) → Every P xs → P x → Every P (xs ++ x ∷ [])
    every-push xs x h k = every-append xs (x ∷ []) h (k, tt)

    pub every-split : (xs ys : List X) → Every P (xs ++ ys) → Every P xs × Every P ys
    every-split [] ys h = (tt, h)
    every-split (x ∷ xs) ys h = let rest = every-split xs ys h.1 in ((h.0, rest.0), rest.1)

    pub every-sub : (xs ys : List X) → IsSublist xs ys → Every P ys → Every P xs
    every-sub [] ys h k = tt
    every-sub (x ∷ xs) [] h k = absurd h
    every-sub (x ∷ xs) (y ∷ ys) (inl e) k = (subst P (sym e.0) k.0, every-sub xs ys e.1 k.1)
    every-sub (x ∷ xs) (y ∷ ys) (inr h) k = every-sub (x ∷ xs) ys h k.1

    pub every-from-all : (xs : List X) → All P xs → Every P xs
    every-from-all [] h = tt
    every-from-all (x ∷ xs) h = (All-head P x xs h, every-from-all xs (All-tail P x xs h))

    pub every-both : (Q : X → Type 0) (xs : List X) → Every P xs → Every Q xs → Every (λ x. P x × Q x) xs
    every-both Q [] h k = tt
    every-both Q (x ∷ xs) h k = ((h.0, k.0), every-both Q xs h.1 k.1)
