-- The virtual links of a network without a fault differ in their numbers, and so these rise.
use Rattle.std.proofs.Common.{◌≡◌, ℕ, false, ◌==◌, List, [], ◌∷◌, ◌++◌, sym, ◌∙◌, arith, inl, inr, Contains, eqb}
use Rattle.std.specs.List.{AllByRecursion, IsDistinct, list_any}
use Rattle.std.specs.List.Sorted.{IsStrictlyIncreasing}
use Rattle.std.proofs.lemmas.Bool.{cases_Bool, false≢true}
use Rattle.std.proofs.lemmas.Bool.Decides.{nat_tests}
use Rattle.std.proofs.lemmas.List.Elements.{Contains-append_left, Contains-push}
use Rattle.std.proofs.lemmas.List.Sorted.{IsPermutation-map}
use Rattle.std.proofs.lemmas.Map.Keys.{IsDistinct-IsPermutation, IsStrictlyIncreasing-from_distinct}
use Rattle.network.specs.Words.{each, each_after, Plan, VlPlan, plan_of, unknown_names, double_names, double_at_vl, IsAccepted, id_of, ids_of}
use Rattle.network.proofs.BuildLemmas.{front-none, behind-none, when-none}
use Rattle.network.proofs.EachLemmas.{list_any-contains}

-- no later virtual link has the number of an earlier one
none-later : (other : VlPlan) (earlier vls : List VlPlan) → Contains earlier other → each_after double_at_vl earlier vls ≡ [] → AllByRecursion (λ id. eqb (id_of other) id ≡ false) (ids_of vls)
none-later other earlier [] there none = tt
none-later other earlier (vl ∷ vls) there none = (apart, none-later other (earlier ++ vl ∷ []) vls (Contains-append_left earlier (vl ∷ []) other there) (behind-none _ _ none))
  where
    passed : list_any (λ one. one.link.id.0 == vl.link.id.0) earlier ≡ false
    passed = when-none _ _ (front-none _ _ none)

    apart : eqb (id_of other) (id_of vl) ≡ false
    apart = elim (cases_Bool (eqb (id_of other) (id_of vl))) [
      | inl same ↦ absurd (false≢true (sym passed ∙ list_any-contains (λ one. one.link.id.0 == vl.link.id.0) earlier other there same))
      | inr differ ↦ differ
    ]

distinct : (earlier vls : List VlPlan) → each_after double_at_vl earlier vls ≡ [] → IsDistinct eqb (ids_of vls)
unfolding IsDistinct
distinct earlier [] none = tt
distinct earlier (vl ∷ vls) none =
    let later = behind-none _ _ none in
    (none-later vl (earlier ++ vl ∷ []) vls (Contains-push earlier vl) later, distinct (earlier ++ vl ∷ []) vls later)

flips : (m n : ℕ) → eqb m n ≡ eqb n m
flips m n = grind (arith, nat_tests)

pub ids-rise : (plan : Plan) → IsAccepted plan → IsStrictlyIncreasing (ids_of plan.vls)
ids-rise plan accepted =
    let rows = accepted.rows in
    let stands = accepted.stands in
    let double : double_names (plan_of rows) ≡ [] = behind-none (unknown_names rows) _ (front-none _ _ (front-none _ _ (front-none _ _ stands.none))) in
    let none : each double_at_vl (plan_of rows).vls ≡ [] = behind-none _ _ double in
    let moved = IsPermutation-map id_of (plan_of rows).vls plan.vls stands.vls in
    IsStrictlyIncreasing-from_distinct (ids_of plan.vls) stands.in_order (IsDistinct-IsPermutation eqb flips _ _ moved (distinct [] (plan_of rows).vls none))
