-- The numbers of the virtual links of a network rise, and are those of the first streams.
use Rattle.std.proofs.Common.{◌≡◌, ℕ, suc, ◌+◌, ◌<◌, ◌≤◌, List, [], ◌∷◌, length, Some, refl, ap, arith, slice_get, option_map}
use Rattle.std.specs.List.{AllByRecursion}
use Rattle.std.proofs.lemmas.List.Kept.{AllPairs-from_increasing}
use Rattle.network.specs.Words.{IsAccepted, Plan, VlPlan, id_of, ids_of}
use Rattle.network.proofs.LimitLemmas.{link-read}
use Rattle.network.proofs.RisingLemmas.{ids-rise}
use Rattle.traffic.specs.Offers.{FIRST_ROW, streams_of}
use Rattle.traffic.proofs.AllStreams.{IdsRise, Rises, ids-rise-from, streams-rise}

-- what holds of each that is read holds of all
by-place : {X : Type 0} (P : X → Type 0) (xs : List X) → ((i : ℕ) (x : X) → slice_get xs i ≡ Some x → P x) → AllByRecursion P xs
by-place P [] each = tt
by-place P (x ∷ xs) each = (each 0 x refl, by-place P xs (λ i. each (suc i)))

few-ids : (plan : Plan) → IsAccepted plan → AllByRecursion (λ vl. id_of vl < FIRST_ROW) plan.vls
few-ids plan accepted =
    by-place (λ vl. id_of vl < FIRST_ROW) plan.vls
    (λ i vl at. let limits = link-read plan i vl.link accepted (ap (option_map (λ (v : VlPlan). v.link)) at) in let most = limits.id in omega arith)

all-rise : (plan : Plan) → IsAccepted plan → IdsRise 0 plan.vls
all-rise plan accepted = ids-rise-from 0 plan.vls (AllPairs-from_increasing (ids_of plan.vls) (ids-rise plan accepted)) (λ d some. omega arith)

pub numbers-rise : (plan : Plan) → IsAccepted plan → Rises 0 (streams_of plan)
numbers-rise plan accepted = streams-rise plan (all-rise plan accepted) (few-ids plan accepted)

count-below : (n : ℕ) (vls : List VlPlan) → n ≤ FIRST_ROW → IdsRise n vls → AllByRecursion (λ vl. id_of vl < FIRST_ROW) vls → n + length vls ≤ FIRST_ROW
count-below n [] le ids few = omega arith
count-below n (vl ∷ vls) le ids few =
    let first = ids.0 in
    let less = few.0 in
    let later = count-below (id_of vl + 1) vls (omega arith) ids.1 few.1 in
    omega arith

-- so there are few of them
pub few-vls : (plan : Plan) → IsAccepted plan → length plan.vls ≤ FIRST_ROW
few-vls plan accepted = let all = count-below 0 plan.vls (omega arith) (all-rise plan accepted) (few-ids plan accepted) in omega arith
