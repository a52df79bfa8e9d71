-- The virtual link with a number, where the numbers rise.
use Rattle.std.proofs.Common.{◌≡◌, ℕ, ◌+◌, ◌<◌, Bool, true, false, cond, List, [], ◌∷◌, ◌++◌, append_assoc, length, take, drop, Option, Some, None, refl, ap, sym, ◌∙◌, arith, slice_get, flat_map, option_map, option_and_then, option_to_list}
use Rattle.row_types.specs.declared.rows.VirtualLink.{VirtualLink}
use Rattle.network.specs.declared.wiring.Way.{Way}
use Rattle.network.specs.Words.{place_by, Plan, VlPlan, place_of_vl}
use Rattle.nodes.specs.Words.{ports_by, groups, met, met_by, all_met}
use Rattle.nodes.specs.declared.opening.meeting.Meeting.{Meeting}

-- a place is one of the list
pub place_by-within : {X : Type 0} (test : X → Bool) (xs : List X) (k : ℕ) → place_by test xs ≡ Some k → k < length xs
place_by-within test [] k e = absurd (cc)
place_by-within test (x ∷ xs) k e = go (test x) (place_by test xs) refl (place_by-within test xs) e
  where
    go : (b : Bool) (o : Option ℕ) → place_by test xs ≡ o → ((j : ℕ) → place_by test xs ≡ Some j → j < length xs) → cond b (Some 0) (option_map (λ n. n + 1) o) ≡ Some k → k < length (x ∷ xs)
    go true o is later e = let zero_is : 0 ≡ k = cc in omega arith
    go false None is later e = absurd (cc)
    go false (Some j) is later e = let below = later j is in let next : j + 1 ≡ k = cc in omega arith

-- the virtual link of a group, found by its first way
pub met-made : (plan : Plan) (ways : List Way) (way : Way) (place : ℕ) (link : VirtualLink) (ports : List Bool) → Some way ≡ slice_get ways 0 → place_of_vl plan.vls way.vl.0 ≡ Some place → option_map (λ vl. vl.link) (slice_get plan.vls place) ≡ Some link → ports ≡ ports_by ways
    → record { link = link; first = way.port; ports = ports } ∷ [] ≡ met plan ways
met-made plan [] way place link ports first placed read marked = absurd (cc)
met-made plan (w ∷ ways) way place link ports first placed read marked =
    let same : way ≡ w = cc in
    let here : place_of_vl plan.vls w.vl.0 ≡ Some place = ap (λ (x : Way). place_of_vl plan.vls x.vl.0) (sym same) ∙ placed in
    ap (λ (x : Way). record { link = link; first = x.port; ports = ports } ∷ []) same
    ∙ ap (λ (marks : List Bool). record { link = link; first = w.port; ports = marks } ∷ []) marked
    ∙ go (slice_get plan.vls place) read
    ∙ ap (λ o. option_to_list (option_map (met_by (w ∷ ways) w.port) (option_and_then (slice_get plan.vls) o))) (sym here)
  where
    go : (o : Option VlPlan) → option_map (λ vl. vl.link) o ≡ Some link → record { link = link; first = w.port; ports = ports_by (w ∷ ways) } ∷ [] ≡ option_to_list (option_map (met_by (w ∷ ways) w.port) o)
    go None e = absurd (cc)
    go (Some vl) e = let is : link ≡ vl.link = cc in ap (λ (l : VirtualLink). record { link = l; first = w.port; ports = ports_by (w ∷ ways) } ∷ []) is

pub met-pushed : (plan : Plan) (old new : List Meeting) (m : Meeting) (ways : List Way) → new ≡ old ++ m ∷ [] → m ∷ [] ≡ met plan ways → new ≡ old ++ met plan ways
met-pushed plan old new m ways pushed made = pushed ∙ ap (λ ms. old ++ ms) made

-- one group more, of the first n ways that are left
pub all_met-more : (plan : Plan) (found more : List Meeting) (rest group later : List Way) (n : ℕ) → groups rest ≡ take n rest ∷ groups (drop n rest) → group ≡ take n rest → later ≡ drop n rest → more ≡ found ++ met plan group
    → more ++ all_met plan later ≡ found ++ all_met plan rest
all_met-more plan found more rest group later n grouped front back pushed =
    let split : groups rest ≡ group ∷ groups later = grouped ∙ ap (λ g. g ∷ groups (drop n rest)) (sym front) ∙ ap (λ ws. group ∷ groups ws) (sym back) in
    ap (λ ms. ms ++ all_met plan later) pushed ∙ append_assoc found (met plan group) (all_met plan later) ∙ ap (λ gs. found ++ flat_map (met plan) gs) (sym split)
