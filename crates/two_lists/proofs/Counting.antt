-- How often messages are in a list, whatever its order.
use Rattle.std.proofs.Common.{◌≡◌, ◌+◌, ◌∙◌, List, [], ◌∷◌, IsPermutation, refl, sym, ap, sum_by}
use Rattle.std.proofs.lemmas.List.Sorted.{sum_by-IsPermutation}
use Rattle.std.proofs.lemmas.List.Sums.{sum_by-cons}
use Rattle.virtual_time.specs.Law.{Order, one_if, same, times_in}

module _ {M : Type 0} (order : Order M) where
  times-sum : (m : M) (xs : List M) → times_in order m xs ≡ sum_by (λ x. one_if (same order m x)) xs
  times-sum m [] = refl
  times-sum m (x ∷ xs) = ap (λ n. one_if (same order m x) + n) (times-sum m xs) ∙ sym (sum_by-cons (λ x. one_if (same order m x)) x xs)

  -- a list and its permutation have the same messages, each as often
  pub times-permutation : (m : M) (xs ys : List M) → IsPermutation xs ys → times_in order m ys ≡ times_in order m xs
  times-permutation m xs ys p =
      times-sum m ys ∙ (sum_by-IsPermutation (λ x. one_if (same order m x)) xs ys p ∙ sym (times-sum m xs))
