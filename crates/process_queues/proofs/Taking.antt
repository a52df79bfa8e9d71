-- The last of a list, and what is in front of it.
use Rattle.std.proofs.Common.{◌≡◌, ◌<◌, List, [], ◌∷◌, ◌++◌, length, refl, ap, arith}

-- two lists with one element more at the end are equal where both are
pub snoc-equal : {A : Type 0} (xs ys : List A) (a b : A) → xs ++ a ∷ [] ≡ ys ++ b ∷ [] → (xs ≡ ys) × (a ≡ b)
snoc-equal [] [] a b h = (refl, cc)
snoc-equal [] (y ∷ []) a b h = cc
snoc-equal [] (y ∷ (z ∷ zs)) a b h = cc
snoc-equal (x ∷ []) [] a b h = cc
snoc-equal (x ∷ (z ∷ zs)) [] a b h = cc
snoc-equal (x ∷ xs) (y ∷ ys) a b h =
    let front : x ≡ y = cc in
    let rest : xs ++ a ∷ [] ≡ ys ++ b ∷ [] = cc in
    let e = snoc-equal xs ys a b rest in
    (λ i. front i ∷ e.0 i, e.1)

-- a list with something in it has a last element
pub split-last : {A : Type 0} (xs : List A) → 0 < length xs → (front : List A) × (e : A) × (xs ≡ front ++ e ∷ [])
split-last [] h = absurd (omega arith)
split-last (x ∷ []) h = ([], x, refl)
split-last (x ∷ (y ∷ ys)) h = let k = split-last (y ∷ ys) (omega arith) in (x ∷ k.0, k.1, ap (λ z. x ∷ z) k.2)
