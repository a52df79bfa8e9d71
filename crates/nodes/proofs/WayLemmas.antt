-- The ways of virtual links at a node of an accepted network.
use Rattle.std.proofs.Common.{◌≡◌, ℕ, ◌+◌, ◌<◌, ◌==◌, Less, not, Bool, true, false, cond, List, [], ◌∷◌, ◌++◌, map, Option, Some, None, refl, ap, sym, ◌∙◌, arith, add-one, All, filter, slice_get, flat_map, option_map, option_and_then, option_to_list, nat_cmp}
use Rattle.std.specs.List.{AllByRecursion}
use Rattle.std.specs.List.Sorted.{IsStrictlySortedBy}
use Rattle.std.proofs.lemmas.Bool.Decides.{nat_tests}
use Rattle.std.proofs.lemmas.List.Elements.{All-from_recursion}
use Rattle.std.proofs.lemmas.Map.Keys.{sorted_head, sorted_tail, sorted_from_strictly_increasing}
use Rattle.network.specs.declared.limits.TheConstants.{GREATEST_PORTS}
use Rattle.network.specs.declared.wiring.LinePlan.{LinePlan}
use Rattle.network.specs.declared.wiring.Way.{Way}
use Rattle.network.specs.Words.{Plan, VlPlan, IsAccepted, ids_of, is_none, lines_of, out_at, in_at, ways_over, route_over, place_of_vl}
use Rattle.network.proofs.PortLemmas.{line-within}
use Rattle.network.proofs.RisingLemmas.{ids-rise}
use Rattle.nodes.specs.declared.opening.meeting.Side.{Side}
use Rattle.nodes.specs.declared.opening.meeting.Side.TheVariants.{Out, In}
use Rattle.nodes.specs.Words.{ways_at, with_ways, first_port, ports_by, meeting, meetings, IsRising, number_met, met, met_by, vl_with, all_met}
use Rattle.nodes.proofs.GroupLemmas.{AreOf, below, groups-flat_map}

abbrev pub IsFound : List VlPlan → VlPlan → Type 0
IsFound vls vl = vl_with vls vl.link.id.0 ≡ Some vl

-- what holds of each item of each list, holds of all
all-of-each : {X Y : Type 0} (P : Y → Type 0) (f : X → List Y) → ((x : X) → AllByRecursion P (f x)) → (xs : List X) → AllByRecursion P (flat_map f xs)
all-of-each P f each [] = tt
all-of-each {Y = Y} P f each (x ∷ xs) = joined (f x) (each x) (all-of-each P f each xs)
  where
    joined : (ys : List Y) → AllByRecursion P ys → AllByRecursion P (flat_map f xs) → AllByRecursion P (ys ++ flat_map f xs)
    joined [] all later = later
    joined (y ∷ ys) all later = (all.0, joined ys all.1 later)

-- a way is made of a line that there is
all-ways : (P : Way → Type 0) (way : LinePlan → Option Way) (lines : List LinePlan) → ((k : ℕ) (line : LinePlan) → slice_get lines k ≡ Some line → AllByRecursion P (option_to_list (way line))) → (route : List ℕ) → AllByRecursion P (ways_over way lines route)
all-ways P way lines each route = all-of-each P (λ k. option_to_list (option_and_then way (slice_get lines k))) at route
  where
    at : (k : ℕ) → AllByRecursion P (option_to_list (option_and_then way (slice_get lines k)))
    at k = go (slice_get lines k) refl
      where
        go : (o : Option LinePlan) → slice_get lines k ≡ o → AllByRecursion P (option_to_list (option_and_then way o))
        go None e = tt
        go (Some line) e = each k line e

passing : (P : Way → Type 0) (b : Bool) (way : Way) → P way → AllByRecursion P (option_to_list (cond b (Some way) None))
passing P true way h = (h, tt)
passing P false way h = tt

-- the ways of a virtual link have its number
pub ways-own : (plan : Plan) (n : ℕ) (side : Side) (vl : VlPlan) → AreOf vl.link.id.0 (ways_at plan n side vl)
ways-own plan n Out vl = all-ways (λ way. way.vl.0 ≡ vl.link.id.0) (out_at n vl.link.id) (lines_of plan) (λ k line e. passing _ (line.from == n) _ refl) (route_over plan.links vl)
ways-own plan n In vl = all-ways (λ way. way.vl.0 ≡ vl.link.id.0) (in_at n vl.link.id) (lines_of plan) (λ k line e. passing _ (line.to == n) _ refl) (route_over plan.links vl)

-- their ports are within the limit
pub ways-within : (plan : Plan) (n : ℕ) (side : Side) → IsAccepted plan → All (λ way. way.port < GREATEST_PORTS) (flat_map (ways_at plan n side) plan.vls)
ways-within plan n side accepted = All-from_recursion (λ way. way.port < GREATEST_PORTS) _ (all-of-each (λ way. way.port < GREATEST_PORTS) (ways_at plan n side) (own side) plan.vls)
  where
    own : (side : Side) (vl : VlPlan) → AllByRecursion (λ way. way.port < GREATEST_PORTS) (ways_at plan n side vl)
    own Out vl = all-ways (λ way. way.port < GREATEST_PORTS) (out_at n vl.link.id) (lines_of plan) (λ k line e. passing _ (line.from == n) _ (line-within plan k line accepted e).from_port) (route_over plan.links vl)
    own In vl = all-ways (λ way. way.port < GREATEST_PORTS) (in_at n vl.link.id) (lines_of plan) (λ k line e. passing _ (line.to == n) _ (line-within plan k line accepted e).to_port) (route_over plan.links vl)

-- each virtual link is found by its number
vl_with-cons : (first : VlPlan) (vls : List VlPlan) (id : ℕ) → vl_with (first ∷ vls) id ≡ cond (first.link.id.0 == id) (Some first) (vl_with vls id)
vl_with-cons first vls id = go (first.link.id.0 == id) (place_of_vl vls id)
  where
    go : (b : Bool) (o : Option ℕ) → option_and_then (slice_get (first ∷ vls)) (cond b (Some 0) (option_map (λ n. n + 1) o)) ≡ cond b (Some first) (option_and_then (slice_get vls) o)
    go true o = refl
    go false None = refl
    go false (Some k) = rw (add-one k) refl

found-behind : (first : VlPlan) (vls some : List VlPlan) → AllByRecursion (λ id. nat_cmp first.link.id.0 id ≡ Less) (ids_of some) → AllByRecursion (IsFound vls) some → AllByRecursion (IsFound (first ∷ vls)) some
found-behind first vls [] less found = tt
found-behind first vls (vl ∷ some) less found =
    (vl_with-cons first vls vl.link.id.0 ∙ rw (below first.link.id.0 vl.link.id.0 less.0) found.0, found-behind first vls some less.1 found.1)

all-found : (vls : List VlPlan) → IsStrictlySortedBy nat_cmp (ids_of vls) → AllByRecursion (IsFound vls) vls
all-found [] rising = tt
all-found (first ∷ vls) rising =
    let same : (first.link.id.0 == first.link.id.0) ≡ true = grind (arith, nat_tests) in
    let later = all-found vls (sorted_tail nat_cmp first.link.id.0 (ids_of vls) rising) in
    (vl_with-cons first vls first.link.id.0 ∙ rw same refl, found-behind first vls vls (sorted_head nat_cmp first.link.id.0 (ids_of vls) rising) later)

-- the group of a virtual link tells it
met-own : (plan : Plan) (by : VlPlan → List Way) (vl : VlPlan) (way : Way) (ways : List Way) → by vl ≡ way ∷ ways → way.vl.0 ≡ vl.link.id.0 → IsFound plan.vls vl → met plan (by vl) ≡ meeting by vl ∷ []
met-own plan by vl way ways e own found =
    ap (met plan) e
    ∙ ap (λ id. option_to_list (option_map (met_by (way ∷ ways) way.port) (vl_with plan.vls id))) own
    ∙ ap (λ o. option_to_list (option_map (met_by (way ∷ ways) way.port) o)) found
    ∙ ap (λ (ws : List Way). record { link = vl.link; first = first_port ws; ports = ports_by ws } ∷ []) (sym e)

all-told : (plan : Plan) (by : VlPlan → List Way) → ((vl : VlPlan) → AreOf vl.link.id.0 (by vl)) → (some : List VlPlan) → AllByRecursion (IsFound plan.vls) some → flat_map (met plan) (map by (with_ways by some)) ≡ map (meeting by) (with_ways by some)
all-told plan by own [] found = refl
all-told plan by own (vl ∷ some) found = go (by vl) refl (own vl) (all-told plan by own some found.1)
  where
    go : (ways : List Way) → by vl ≡ ways → AreOf vl.link.id.0 ways → flat_map (met plan) (map by (with_ways by some)) ≡ map (meeting by) (with_ways by some)
        → flat_map (met plan) (map by (cond (not (is_none ways)) (vl ∷ with_ways by some) (with_ways by some))) ≡ map (meeting by) (cond (not (is_none ways)) (vl ∷ with_ways by some) (with_ways by some))
    go [] e of told = told
    go (way ∷ ways) e of told = ap (λ ms. ms ++ flat_map (met plan) (map by (with_ways by some))) (met-own plan by vl way ways e of.0 found.0) ∙ ap (λ ms. meeting by vl ∷ ms) told

-- what the ways of all virtual links tell
pub all_met-is : (plan : Plan) (by : VlPlan → List Way) → ((vl : VlPlan) → AreOf vl.link.id.0 (by vl)) → IsAccepted plan → all_met plan (flat_map by plan.vls) ≡ map (meeting by) (with_ways by plan.vls)
all_met-is plan by own accepted =
    let rising = sorted_from_strictly_increasing (ids_of plan.vls) (ids-rise plan accepted) in
    ap (flat_map (met plan)) (groups-flat_map by own plan.vls rising) ∙ all-told plan by own plan.vls (all-found plan.vls rising)

-- the virtual links at a node rise
below-kept : (by : VlPlan → List Way) (test : VlPlan → Bool) (id : ℕ) (vls : List VlPlan) → AllByRecursion (λ other. nat_cmp id other ≡ Less) (ids_of vls) → AllByRecursion (λ other. nat_cmp id other ≡ Less) (map number_met (map (meeting by) (filter test vls)))
below-kept by test id [] less = tt
below-kept by test id (vl ∷ vls) less = go (test vl) (below-kept by test id vls less.1)
  where
    go : (b : Bool) → AllByRecursion (λ other. nat_cmp id other ≡ Less) (map number_met (map (meeting by) (filter test vls))) → AllByRecursion (λ other. nat_cmp id other ≡ Less) (map number_met (map (meeting by) (cond b (vl ∷ filter test vls) (filter test vls))))
    go true later = (less.0, later)
    go false later = later

rising-kept : (by : VlPlan → List Way) (test : VlPlan → Bool) (vls : List VlPlan) → IsStrictlySortedBy nat_cmp (ids_of vls) → IsStrictlySortedBy nat_cmp (map number_met (map (meeting by) (filter test vls)))
unfolding IsStrictlySortedBy
rising-kept by test [] rising = tt
rising-kept by test (vl ∷ vls) rising = go (test vl) (rising-kept by test vls rising.1)
  where
    go : (b : Bool) → IsStrictlySortedBy nat_cmp (map number_met (map (meeting by) (filter test vls))) → IsStrictlySortedBy nat_cmp (map number_met (map (meeting by) (cond b (vl ∷ filter test vls) (filter test vls))))
    go true later = (below-kept by test vl.link.id.0 vls rising.0, later)
    go false later = later

pub meetings-rise : (plan : Plan) (n : ℕ) (side : Side) → IsAccepted plan → IsRising (map number_met (meetings plan n side))
meetings-rise plan n side accepted = rising-kept (ways_at plan n side) _ plan.vls (sorted_from_strictly_increasing (ids_of plan.vls) (ids-rise plan accepted))
