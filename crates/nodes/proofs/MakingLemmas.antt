-- What is made of the virtual links at a node, against the virtual links of the network.
use Rattle.std.proofs.Common.{◌≡◌, ℕ, suc, ◌+◌, ◌<◌, ◌++◌, ◌==◌, ◌&&◌, Less, not, Bool, true, false, cond, List, [], ◌∷◌, map, take, length, get_or, Option, Some, None, refl, ap, sym, ◌∙◌, arith, add-one, filter, replicate, slice_get, option_map, option_and_then, nat_cmp}
use Rattle.std.specs.List.{AllByRecursion}
use Rattle.std.specs.List.Sorted.{IsStrictlySortedBy}
use Rattle.std.proofs.lemmas.Bool.Decides.{nat_tests}
use Rattle.std.proofs.lemmas.List.{take_more, map-append}
use Rattle.std.proofs.lemmas.Map.Keys.{sorted_head, sorted_tail, sorted_from_strictly_increasing}
use Rattle.network.specs.declared.limits.TheConstants.{GREATEST_PORTS}
use Rattle.nodes.specs.declared.opening.meeting.Meeting.{Meeting}
use Rattle.network.specs.declared.wiring.Way.{Way}
use Rattle.network.specs.Words.{Plan, VlPlan, IsAccepted, ids_of, is_none}
use Rattle.network.proofs.RisingLemmas.{ids-rise}
use Rattle.nodes.specs.declared.opening.meeting.Side.TheVariants.{Out, In}
use Rattle.nodes.specs.Words.{ways_at, with_ways, ports_by, meeting, meetings, source_number, reception_number, transit_number, source_of, reception_of, transit_of, place_of, found_at, number_met, ports_among, ports_found, source_met, reception_met, transit_met}
use Rattle.nodes.proofs.GroupLemmas.{below}

-- the ports of the first virtual link, or of a later one
ports_among-cons : (m : Meeting) (meetings : List Meeting) (id : ℕ) → ports_among (m ∷ meetings) id ≡ cond (m.link.id.0 == id) m.ports (ports_among meetings id)
ports_among-cons m meetings id = go (m.link.id.0 == id) (place_of (map number_met meetings) id)
  where
    same : (i j : ℕ) (o : Option Meeting) → ports_found (option_map (λ x. record { place = i; entry = x }) o) ≡ ports_found (option_map (λ x. record { place = j; entry = x }) o)
    same i j None = refl
    same i j (Some x) = refl

    go : (b : Bool) (o : Option ℕ) → ports_found (option_and_then (found_at (m ∷ meetings)) (cond b (Some 0) (option_map (λ k. k + 1) o)))
        ≡ cond b m.ports (ports_found (option_and_then (found_at meetings) o))
    go true o = refl
    go false None = refl
    go false (Some k) = rw (add-one k) (same (suc k) k (slice_get meetings k))

-- one more is made
pub made-more : {X Y : Type 0} (f : X → Y) (xs : List X) (i : ℕ) (x : X) (y : Y) (ys zs : List Y) → i < length xs → x ≡ get_or xs i x →
    ys ≡ map f (take i xs) → zs ≡ ys ++ y ∷ [] → y ≡ f x → zs ≡ map f (take (i + 1) xs)
made-more f xs i x y ys zs within here before pushed made =
    pushed ∙ (ap (λ z. z ++ y ∷ []) before ∙ (ap (λ z. map f (take i xs) ++ z ∷ []) (made ∙ ap f here) ∙
    (sym (map-append f (take i xs) (get_or xs i x ∷ [])) ∙ ap (map f) (sym (take_more xs i x within)))))

-- ---- what is made of the virtual links that meet a node is what is made of those of the network

map-map : {X Y Z : Type 0} (g : Y → Z) (f : X → Y) (xs : List X) → map g (map f xs) ≡ map (λ x. g (f x)) xs
map-map g f [] = refl
map-map g f (x ∷ xs) = ap (λ zs. g (f x) ∷ zs) (map-map g f xs)

pub sources-made : (by : VlPlan → List Way) (vls : List VlPlan) → map source_met (map (meeting by) vls) ≡ map (source_of by) vls
unfolding ports_by
sources-made by vls = map-map source_met (meeting by) vls

pub receptions-made : (by : VlPlan → List Way) (vls : List VlPlan) → map reception_met (map (meeting by) vls) ≡ map (reception_of by) vls
unfolding ports_by
receptions-made by vls = map-map reception_met (meeting by) vls

-- the numbers stay
pub source-numbers : (meetings : List Meeting) → map source_number (map source_met meetings) ≡ map number_met meetings
source-numbers meetings = map-map source_number source_met meetings

pub reception-numbers : (meetings : List Meeting) → map reception_number (map reception_met meetings) ≡ map number_met meetings
reception-numbers meetings = map-map reception_number reception_met meetings

pub transit-numbers : (departing meetings : List Meeting) → map transit_number (map (transit_met departing) meetings) ≡ map number_met meetings
transit-numbers departing meetings = map-map transit_number (transit_met departing) meetings

-- ---- a virtual link leaves a switch by the ports of its ways out, also where it has none

same-made : {X Y : Type 0} (f g : X → Y) (test : X → Bool) (xs : List X) → AllByRecursion (λ x. f x ≡ g x) xs → map f (filter test xs) ≡ map g (filter test xs)
same-made f g test [] same = refl
same-made {X} f g test (x ∷ xs) same = go (test x) (same-made f g test xs same.1)
  where
    go : (b : Bool) → map f (filter test xs) ≡ map g (filter test xs) → map f (cond b (x ∷ filter test xs) (filter test xs)) ≡ map g (cond b (x ∷ filter test xs) (filter test xs))
    go true later = ap (λ y. y ∷ map f (filter test xs)) same.0 ∙ ap (λ ys. g x ∷ ys) later
    go false later = later

ports-first : (by : VlPlan → List Way) (vl : VlPlan) (vls : List VlPlan) (id : ℕ) (ways : List Way)
    → ports_among (map (meeting by) (cond (not (is_none ways)) (vl ∷ with_ways by vls) (with_ways by vls))) id ≡ cond (not (is_none ways) && (vl.link.id.0 == id)) (ports_by (by vl)) (ports_among (map (meeting by) (with_ways by vls)) id)
ports-first by vl vls id [] = refl
ports-first by vl vls id (way ∷ ways) = ports_among-cons (meeting by vl) (map (meeting by) (with_ways by vls)) id

-- a number below all others has no ports
ports-absent : (by : VlPlan → List Way) (id : ℕ) (vls : List VlPlan) → AllByRecursion (λ other. nat_cmp id other ≡ Less) (ids_of vls) → ports_among (map (meeting by) (with_ways by vls)) id ≡ replicate GREATEST_PORTS false
ports-absent by id [] less = refl
ports-absent by id (vl ∷ vls) less = ports-first by vl vls id (by vl) ∙ go (not (is_none (by vl))) (ports-absent by id vls less.1)
  where
    other : (vl.link.id.0 == id) ≡ false
    other = let apart : (id == vl.link.id.0) ≡ false = below id vl.link.id.0 less.0 in grind (arith, nat_tests)

    go : (b : Bool) → ports_among (map (meeting by) (with_ways by vls)) id ≡ replicate GREATEST_PORTS false → cond (b && (vl.link.id.0 == id)) (ports_by (by vl)) (ports_among (map (meeting by) (with_ways by vls)) id) ≡ replicate GREATEST_PORTS false
    go true later = rw other later
    go false later = later

abbrev KeepsPorts : (VlPlan → List Way) → List VlPlan → VlPlan → Type 0
KeepsPorts by vls vl = ports_among (map (meeting by) (with_ways by vls)) vl.link.id.0 ≡ ports_by (by vl)

ports-behind : (by : VlPlan → List Way) (first : VlPlan) (vls some : List VlPlan) → AllByRecursion (λ other. nat_cmp first.link.id.0 other ≡ Less) (ids_of some) → AllByRecursion (KeepsPorts by vls) some → AllByRecursion (KeepsPorts by (first ∷ vls)) some
ports-behind by first vls [] less kept = tt
ports-behind by first vls (vl ∷ some) less kept = (ports-first by first vls vl.link.id.0 (by first) ∙ go (not (is_none (by first))), ports-behind by first vls some less.1 kept.1)
  where
    go : (b : Bool) → cond (b && (first.link.id.0 == vl.link.id.0)) (ports_by (by first)) (ports_among (map (meeting by) (with_ways by vls)) vl.link.id.0) ≡ ports_by (by vl)
    go true = rw (below first.link.id.0 vl.link.id.0 less.0) kept.0
    go false = kept.0

ports_by-none : ports_by [] ≡ replicate GREATEST_PORTS false
unfolding ports_by
ports_by-none = refl

ports-kept : (by : VlPlan → List Way) (vls : List VlPlan) → IsStrictlySortedBy nat_cmp (ids_of vls) → AllByRecursion (KeepsPorts by vls) vls
ports-kept by [] rising = tt
ports-kept by (first ∷ vls) rising =
    let less = sorted_head nat_cmp first.link.id.0 (ids_of vls) rising in
    let later = ports-kept by vls (sorted_tail nat_cmp first.link.id.0 (ids_of vls) rising) in
    (ports-first by first vls first.link.id.0 (by first) ∙ own (by first) refl (ports-absent by first.link.id.0 vls less), ports-behind by first vls vls less later)
  where
    same : (first.link.id.0 == first.link.id.0) ≡ true
    same = grind (arith, nat_tests)

    own : (ways : List Way) → by first ≡ ways → ports_among (map (meeting by) (with_ways by vls)) first.link.id.0 ≡ replicate GREATEST_PORTS false
        → cond (not (is_none ways) && (first.link.id.0 == first.link.id.0)) (ports_by (by first)) (ports_among (map (meeting by) (with_ways by vls)) first.link.id.0) ≡ ports_by (by first)
    own [] e none = none ∙ sym (ap ports_by e ∙ ports_by-none)
    own (way ∷ ways) e none = rw same refl

transits-same : (n : ℕ) (plan : Plan) (some : List VlPlan) → AllByRecursion (KeepsPorts (ways_at plan n Out) plan.vls) some
    → AllByRecursion (λ vl. transit_met (meetings plan n Out) (meeting (ways_at plan n In) vl) ≡ transit_of plan n vl) some
transits-same n plan [] kept = tt
transits-same n plan (vl ∷ some) kept = (ap (λ (ports : List Bool). record (transit_of plan n vl) { outputs = ports }) kept.0, transits-same n plan some kept.1)

pub transits-made : (plan : Plan) (n : ℕ) → IsAccepted plan → map (transit_met (meetings plan n Out)) (meetings plan n In) ≡ map (transit_of plan n) (with_ways (ways_at plan n In) plan.vls)
transits-made plan n accepted =
    let rising = sorted_from_strictly_increasing (ids_of plan.vls) (ids-rise plan accepted) in
    map-map (transit_met (meetings plan n Out)) (meeting (ways_at plan n In)) (with_ways (ways_at plan n In) plan.vls)
    ∙ same-made (λ vl. transit_met (meetings plan n Out) (meeting (ways_at plan n In) vl)) (transit_of plan n) _ plan.vls (transits-same n plan plan.vls (ports-kept (ways_at plan n Out) plan.vls rising))
