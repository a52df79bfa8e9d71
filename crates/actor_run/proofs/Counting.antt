-- The first of a list that was taken out is its least, and that of each list with the same messages.
use Rattle.std.proofs.Common.{◌≡◌, List, [], ◌∷◌, All, Some, false, IsPermutation, refl, ap, arith}
use Rattle.virtual_time.specs.Law.{Order, IsOrder, least, times_in}
use Rattle.virtual_time.proofs.Lists.{in-head}
use Rattle.virtual_time.proofs.Least.{IsLeast, least-from}
use Rattle.reverse.proofs.Members.{in-all}
use Rattle.two_lists.proofs.Counting.{times-permutation}

module _ {M : Type 0} (order : Order M) where
  -- what was taken out of a list, and than which nothing in the list is less, is its least
  pub taken-least : (O : IsOrder order) (m : M) (xs rest : List M) → IsPermutation xs (m ∷ rest) → All (λ x. order.less x m ≡ false) xs → IsLeast order O m xs
  taken-least O m xs rest p a =
      record {
        inside = let e = times-permutation order m xs (m ∷ rest) p in let i = in-head order O m rest in omega arith;
        lowest = λ x i. in-all order O (λ y. order.less y m ≡ false) x xs a i;
      }

  -- of two lists with the same messages, each as often, the least is the same
  pub least-same : (O : IsOrder order) (xs ys : List M) → ((x : M) → times_in order x xs ≡ times_in order x ys) → (m : M) → IsLeast order O m xs → least order ys ≡ Some m
  least-same O xs ys same m l =
      least-from order O ys m
      (record {
        inside = let a = same m in let b = l.inside in omega arith;
        lowest = λ x i. l.lowest x (let a = same x in omega arith);
      })

  -- and where nothing is in the first, nothing is in the second
  pub none-same : (O : IsOrder order) (xs ys : List M) → ((x : M) → times_in order x xs ≡ times_in order x ys) → xs ≡ [] → ys ≡ []
  none-same O xs [] same e = refl
  none-same O xs (y ∷ ys) same e = absurd (let a = same y in let b = ap (times_in order y) e in let i = in-head order O y ys in omega arith)
