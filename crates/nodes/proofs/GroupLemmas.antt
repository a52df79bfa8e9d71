-- Groups of ways: those of one virtual link, where ways stand together by their virtual links.
use Rattle.std.proofs.Common.{◌≡◌, ℕ, ◌≤◌, ◌==◌, zero, suc, Less, not, Bool, true, false, cond, length, take, drop, get_or, List, [], ◌∷◌, ◌++◌, map, refl, ap, sym, ◌∙◌, arith, All, flat_map, nat_cmp, take-append-drop}
use Rattle.std.specs.List.{AllByRecursion}
use Rattle.std.specs.List.Sorted.{IsStrictlySortedBy}
use Rattle.std.proofs.lemmas.Bool.{false≢true}
use Rattle.std.proofs.lemmas.Bool.Decides.{nat_tests}
use Rattle.std.proofs.lemmas.List.Elements.{recursion_from_All}
use Rattle.std.proofs.lemmas.Map.Keys.{sorted_head, sorted_tail}
use Rattle.network.specs.declared.wiring.Way.{Way}
use Rattle.network.specs.Words.{VlPlan, ids_of}
use Rattle.nodes.specs.Words.{with_ways, groups, grouped}

-- the ways are all of the virtual link with this number; the first of them, if there is one, is not
abbrev pub AreOf : ℕ → List Way → Type 0
AreOf id ways = AllByRecursion (λ way. way.vl.0 ≡ id) ways

abbrev pub BeginsApart : ℕ → List Way → Type 0
BeginsApart id [] = Unit {0}
BeginsApart id (way ∷ ways) = (id == way.vl.0) ≡ false

abbrev pub no_way : Way
no_way = record { vl = record { 0 = 0 }; port = 0 }

grouped-alone : (way next : Way) (later : List Way) (rest : List (List Way)) → (way.vl.0 == next.vl.0) ≡ false → grouped way (grouped next rest) ≡ (way ∷ []) ∷ grouped next rest
grouped-alone way next later [] apart = rw apart refl
grouped-alone way next later ([] ∷ others) apart = rw apart refl
grouped-alone way next later ((w ∷ group) ∷ others) apart = go (next.vl.0 == w.vl.0)
  where
    go : (b : Bool) → grouped way (cond b ((next ∷ w ∷ group) ∷ others) ((next ∷ []) ∷ (w ∷ group) ∷ others)) ≡ (way ∷ []) ∷ cond b ((next ∷ w ∷ group) ∷ others) ((next ∷ []) ∷ (w ∷ group) ∷ others)
    go true = rw apart refl
    go false = rw apart refl

-- the first group: ways of one virtual link, and behind them none or a way of another one
pub groups-first : (id : ℕ) (way : Way) (own later : List Way) → way.vl.0 ≡ id → AreOf id own → BeginsApart id later → groups (way ∷ own ++ later) ≡ (way ∷ own) ∷ groups later
groups-first id way [] [] e all apart = refl
groups-first id way [] (next ∷ later) e all apart =
    let differ : (way.vl.0 == next.vl.0) ≡ false = grind (arith, nat_tests) in
    grouped-alone way next later (groups later) differ
groups-first id way (next ∷ own) later e all apart =
    let same : (way.vl.0 == next.vl.0) ≡ true = let f : next.vl.0 ≡ id = all.0 in grind (arith, nat_tests) in
    ap (grouped way) (groups-first id next own later all.0 all.1 apart) ∙ rw same refl

pub below : (a b : ℕ) → nat_cmp a b ≡ Less → (a == b) ≡ false
below a b h = grind (arith, nat_tests)

-- behind a virtual link with a lower number stands no way of it
begins-apart : (by : VlPlan → List Way) → ((vl : VlPlan) → AreOf vl.link.id.0 (by vl)) → (id : ℕ) (vls : List VlPlan) → AllByRecursion (λ other. nat_cmp id other ≡ Less) (ids_of vls) → BeginsApart id (flat_map by vls)
begins-apart by own id [] less = tt
begins-apart by own id (vl ∷ vls) less = go (by vl) (own vl) (begins-apart by own id vls less.1)
  where
    go : (ways : List Way) → AreOf vl.link.id.0 ways → BeginsApart id (flat_map by vls) → BeginsApart id (ways ++ flat_map by vls)
    go [] of later = later
    go (way ∷ ways) of later = rw of.0 (below id vl.link.id.0 less.0)

-- each virtual link that has ways makes one group
pub groups-flat_map : (by : VlPlan → List Way) → ((vl : VlPlan) → AreOf vl.link.id.0 (by vl)) → (vls : List VlPlan) → IsStrictlySortedBy nat_cmp (ids_of vls) → groups (flat_map by vls) ≡ map by (with_ways by vls)
groups-flat_map by own [] rising = refl
groups-flat_map by own (vl ∷ vls) rising = go (by vl) refl (own vl) (groups-flat_map by own vls (sorted_tail nat_cmp vl.link.id.0 (ids_of vls) rising))
  where
    go : (ways : List Way) → by vl ≡ ways → AreOf vl.link.id.0 ways → groups (flat_map by vls) ≡ map by (with_ways by vls) → groups (by vl ++ flat_map by vls) ≡ map by (with_ways by (vl ∷ vls))
    go [] e of later = rw e later
    go (way ∷ ways) e of later =
        let apart = begins-apart by own vl.link.id.0 vls (sorted_head nat_cmp vl.link.id.0 (ids_of vls) rising) in
        rw e (groups-first vl.link.id.0 way ways (flat_map by vls) of.0 of.1 apart ∙ ap (λ gs. (way ∷ ways) ∷ gs) later ∙ ap (λ g. g ∷ map by (with_ways by vls)) (sym e))

-- the same by places
pub group-at : (ways : List Way) (n : ℕ) → 1 ≤ n → All (λ way. way.vl.0 ≡ (get_or ways 0 no_way).vl.0) (take n ways) → BeginsApart (get_or ways 0 no_way).vl.0 (drop n ways) → 1 ≤ length ways → groups ways ≡ take n ways ∷ groups (drop n ways)
group-at [] n least all apart some = absurd (omega arith)
group-at (way ∷ ways) zero least all apart some = absurd (omega arith)
group-at (way ∷ ways) (suc n) least all apart some =
    let own = recursion_from_All (λ other. other.vl.0 ≡ way.vl.0) (way ∷ take n ways) all in
    ap (λ ws. groups (way ∷ ws)) (sym (take-append-drop n ways)) ∙ groups-first way.vl.0 way (take n ways) (drop n ways) refl own.1 apart

-- a way of another virtual link than the first one stands later
pub apart-later : (ways : List Way) (i : ℕ) → not ((get_or ways i no_way).vl.0 == (get_or ways 0 no_way).vl.0) ≡ true → 1 ≤ i
apart-later ways zero h = absurd (false≢true (sym (ap not same) ∙ h))
  where
    same : ((get_or ways 0 no_way).vl.0 == (get_or ways 0 no_way).vl.0) ≡ true
    same = grind (arith, nat_tests)
apart-later ways (suc i) h = omega arith
