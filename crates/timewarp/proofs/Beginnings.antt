-- Beginnings of a list of steps.
use Rattle.std.proofs.Common.{◌≡◌, ℕ, zero, suc, ◌≤◌, List, [], ◌∷◌, ◌++◌, take, drop, refl, sym, ap, subst, arith}
use Rattle.virtual_time.specs.Law.{earlier, history}
use Rattle.virtual_time.specs.declared.step.Step.{Step}
use Rattle.network.specs.Words.{Plan}
use Rattle.nodes.specs.Words.{simulation_of}
use Rattle.seqsim.specs.Committed.{after}

-- a longer beginning is a shorter one with more behind it
beginning-more : {X : Type 0} (n m : ℕ) (xs : List X) → n ≤ m → take m xs ≡ take n xs ++ drop n (take m xs)
beginning-more zero m xs h = refl
beginning-more (suc n) zero xs h = absurd (omega arith)
beginning-more (suc n) (suc m) [] h = refl
beginning-more (suc n) (suc m) (x ∷ xs) h = ap (λ z. x ∷ z) (beginning-more n m xs (omega arith))

-- so GVT is no later after the shorter one
pub beginnings-rise : (plan : Plan) → ((steps more : List Step) → (after plan steps).gvt ≤ (after plan (steps ++ more)).gvt) →
    (xs : List Step) (n m : ℕ) → n ≤ m → (after plan (take n xs)).gvt ≤ (after plan (take m xs)).gvt
beginnings-rise plan law xs n m h =
    subst (λ (ys : List Step). (after plan (take n xs)).gvt ≤ (after plan ys).gvt) (sym (beginning-more n m xs h)) (law (take n xs) (drop n (take m xs)))

-- and what was below it then is the same after the longer one
pub beginnings-stay : (plan : Plan) → ((steps more : List Step) (p : ℕ) →
    earlier (simulation_of plan).rules.order (after plan steps).gvt (history (simulation_of plan) (after plan (steps ++ more)) p)
    ≡ earlier (simulation_of plan).rules.order (after plan steps).gvt (history (simulation_of plan) (after plan steps) p)) →
    (xs : List Step) (n m : ℕ) → n ≤ m → (p : ℕ) →
    earlier (simulation_of plan).rules.order (after plan (take n xs)).gvt (history (simulation_of plan) (after plan (take m xs)) p)
    ≡ earlier (simulation_of plan).rules.order (after plan (take n xs)).gvt (history (simulation_of plan) (after plan (take n xs)) p)
beginnings-stay plan law xs n m h p =
    subst (λ (ys : List Step). earlier (simulation_of plan).rules.order (after plan (take n xs)).gvt (history (simulation_of plan) (after plan ys) p)
    ≡ earlier (simulation_of plan).rules.order (after plan (take n xs)).gvt (history (simulation_of plan) (after plan (take n xs)) p))
    (sym (beginning-more n m xs h)) (law (take n xs) (drop n (take m xs)) p)
