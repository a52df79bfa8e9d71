-- A list from its first item on.
use Rattle.std.proofs.Common.{◌≡◌, ◌<◌, List, [], ◌∷◌, ◌++◌, Option, Some, length, get_or, option_to_list, refl, sym, ap, ◌∙◌, arith}

-- an empty list
pub none-long : {X : Type 0} (xs : List X) → length xs ≡ 0 → xs ≡ []
none-long [] e = refl
none-long (x ∷ xs) e = absurd (omega arith)

-- a list from its first on
pub first-rest : {X : Type 0} (xs : List X) (x : X) → 0 < length xs → x ≡ get_or xs 0 x → (rest : List X) × (xs ≡ x ∷ rest)
first-rest [] x l e = absurd (omega arith)
first-rest (y ∷ ys) x l e = (ys, ap (λ z. z ∷ ys) (sym e))

-- what is left of it
pub rest-left : {X : Type 0} (xs ys rest : List X) (o : Option X) (x z : X) → xs ≡ option_to_list o ++ ys → xs ≡ x ∷ rest → o ≡ Some z → ys ≡ rest
rest-left xs ys rest o x z a b e = let k : z ∷ ys ≡ x ∷ rest = ap (λ w. option_to_list w ++ ys) (sym e) ∙ (sym a ∙ b) in cc
