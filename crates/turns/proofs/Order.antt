-- Groups in the order of their moments: those before a limit come first.
use Rattle.std.proofs.Common.{ℕ, ◌+◌, ◌<◌, ◌≤◌, All, List, drop, take, length, get_or, ap, sym, subst, arith, length-drop}
use Rattle.std.proofs.lemmas.List.{get_or-drop, get_or_default, take_more}
use Rattle.std.proofs.lemmas.List.Elements.{All-push}
use Rattle.std.specs.List.Sorted.{IsNonDecreasingBy}

-- where one is not before the limit, none behind it is
pub late-behind : {X : Type 0} (n : X → ℕ) (limit k : ℕ) (xs : List X) (x : X) → IsNonDecreasingBy n xs → k < length xs → limit ≤ n (get_or xs k x) → All (λ y. limit ≤ n y) (drop k xs)
late-behind n limit k xs x up l late = λ i d h.
    let len = length-drop k xs in
    let a = up k (k + i) d (omega arith) (omega (arith, h, len, l)) in
    let b = ap n (get_or-drop k xs i d) in
    let c = ap n (get_or_default xs k x d l) in
    omega (arith, a, b, c, late)

-- one more is before the limit
pub early-more : {X : Type 0} (n : X → ℕ) (limit k : ℕ) (xs : List X) (x : X) → k < length xs → n (get_or xs k x) < limit → All (λ y. n y < limit) (take k xs) → All (λ y. n y < limit) (take (k + 1) xs)
early-more n limit k xs x l early all = subst (All (λ y. n y < limit)) (sym (take_more xs k x l)) (All-push (λ y. n y < limit) (take k xs) (get_or xs k x) all early)
