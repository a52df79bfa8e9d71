-- The virtual links that can be put to a port are those that leave its node there, as the bounds of the network count them.
use Rattle.std.proofs.Common.{◌≡◌, ℕ, ◌+◌, ◌==◌, Bool, true, false, cond, List, [], ◌∷◌, ◌++◌, Option, Some, None, inl, inr, refl, ap, sym, ◌∙◌, subst, arith, slice_get, flat_map, option_map, option_and_then, nat_cmp, Less, eqb-true, eq-eqb, add-one}
use Rattle.std.specs.List.{AllByRecursion}
use Rattle.std.specs.List.Sorted.{IsStrictlySortedBy}
use Rattle.std.specs.Option.{option_map_or}
use Rattle.std.proofs.lemmas.Bool.Decides.{nat_tests}
use Rattle.std.proofs.lemmas.Map.Keys.{sorted_head, sorted_tail, sorted_from_strictly_increasing}
use Rattle.std.proofs.lemmas.Option.{none-some, same_Some}
use Rattle.network.specs.declared.wiring.Way.{Way}
use Rattle.network.specs.Words.{IsAccepted, Plan, VlPlan, departures_of, id_of, ids_of, is_end_system, place_of_vl}
use Rattle.network.proofs.RisingLemmas.{ids-rise}
use Rattle.network_faults.proofs.MemberLemmas.{Has, contains-from_has, flat_map-has, has-flat_map, has-from_contains}
use Rattle.nodes.specs.declared.opening.meeting.Side.TheVariants.{In}
use Rattle.nodes.specs.laws.Grouping.{vl_with}
use Rattle.nodes.specs.rules.Meeting.{first_port, ways_at}
use Rattle.nodes.proofs.GroupLemmas.{AreOf}
use Rattle.nodes.proofs.WayLemmas.{ways-own}
use Rattle.plan_ports.specs.Links.{LeavesBy}
use Rattle.network_bounds.specs.declared.passing.Passing.{Passing}
use Rattle.network_bounds.specs.declared.sizes.LinkSizes.{LinkSizes}
use Rattle.network_bounds.specs.Passing.{first_port_of, input_of, passing_at, passing_by, passing_of, passings, sizes_at}

-- ---- a virtual link is found by its number

pub with-cons : (first : VlPlan) (vls : List VlPlan) (id : ℕ) → vl_with (first ∷ vls) id ≡ cond (first.link.id.0 == id) (Some first) (vl_with vls id)
with-cons first vls id = go (first.link.id.0 == id) (place_of_vl vls id)
  where
    go : (b : Bool) (o : Option ℕ) → option_and_then (slice_get (first ∷ vls)) (cond b (Some 0) (option_map (λ n. n + 1) o)) ≡ cond b (Some first) (option_and_then (slice_get vls) o)
    go true o = refl
    go false None = refl
    go false (Some k) = rw (add-one k) refl

below : (n : ℕ) (vls : List VlPlan) (vl : VlPlan) → AllByRecursion (λ m. nat_cmp n m ≡ Less) (ids_of vls) → Has vls vl → (n == vl.link.id.0) ≡ false
below n [] vl all there = absurd there
below n (v ∷ vls) vl all (inl same) = let less : nat_cmp n v.link.id.0 ≡ Less = all.0 in
    let apart : (n == v.link.id.0) ≡ false = grind (arith, nat_tests) in subst (λ (w : VlPlan). (n == w.link.id.0) ≡ false) same apart
below n (v ∷ vls) vl all (inr there) = below n vls vl all.1 there

pub with-there : (vls : List VlPlan) (vl : VlPlan) → IsStrictlySortedBy nat_cmp (ids_of vls) → Has vls vl → vl_with vls vl.link.id.0 ≡ Some vl
with-there [] vl rising there = absurd there
with-there (first ∷ vls) vl rising (inl same) = with-cons first vls vl.link.id.0 ∙ rw (eq-eqb first.link.id.0 vl.link.id.0 (ap id_of same)) (ap Some same)
with-there (first ∷ vls) vl rising (inr there) =
    with-cons first vls vl.link.id.0 ∙ rw (below first.link.id.0 vls vl (sorted_head nat_cmp first.link.id.0 (ids_of vls) rising) there) (with-there vls vl (sorted_tail nat_cmp first.link.id.0 (ids_of vls) rising) there)

-- and what is found has the number and is there
with-is : (vls : List VlPlan) (id : ℕ) (vl : VlPlan) → vl_with vls id ≡ Some vl → Has vls vl × (vl.link.id.0 ≡ id)
with-is [] id vl e = absurd (none-some vl e)
with-is (first ∷ vls) id vl e = go (first.link.id.0 == id) refl (sym (with-cons first vls id) ∙ e) (with-is vls id vl)
  where
    go : (b : Bool) → (first.link.id.0 == id) ≡ b → cond b (Some first) (vl_with vls id) ≡ Some vl → (vl_with vls id ≡ Some vl → Has vls vl × (vl.link.id.0 ≡ id)) → Has (first ∷ vls) vl × (vl.link.id.0 ≡ id)
    go true same e later = let is = same_Some first vl e in (inl is, ap id_of (sym is) ∙ eqb-true first.link.id.0 id same)
    go false apart e later = let found = later e in (inr found.0, found.1)

-- ---- by which port it comes in

-- ways of other virtual links are passed over
passed-over : (id other : ℕ) (ways later : List Way) → AreOf other ways → (other == id) ≡ false → first_port_of (ways ++ later) id ≡ first_port_of later id
passed-over id other [] later own apart = refl
passed-over id other (way ∷ ways) later own apart = let differ : (way.vl.0 == id) ≡ false = ap (λ n. n == id) own.0 ∙ apart in rw differ (passed-over id other ways later own.1 apart)

all-over : (id : ℕ) (by : VlPlan → List Way) → ((vl : VlPlan) → AreOf vl.link.id.0 (by vl)) → (vls : List VlPlan) → AllByRecursion (λ m. nat_cmp id m ≡ Less) (ids_of vls) → first_port_of (flat_map by vls) id ≡ 0
all-over id by own [] all = refl
all-over id by own (vl ∷ vls) all =
    let less : nat_cmp id vl.link.id.0 ≡ Less = all.0 in
    let apart : (vl.link.id.0 == id) ≡ false = grind (arith, nat_tests) in
    passed-over id vl.link.id.0 (by vl) (flat_map by vls) (own vl) apart ∙ all-over id by own vls all.1

first-is : (by : VlPlan → List Way) → ((vl : VlPlan) → AreOf vl.link.id.0 (by vl)) → (vls : List VlPlan) (vl : VlPlan) → IsStrictlySortedBy nat_cmp (ids_of vls) → Has vls vl → first_port_of (flat_map by vls) vl.link.id.0 ≡ first_port (by vl)
first-is by own [] vl rising there = absurd there
first-is by own (first ∷ vls) vl rising (inl same) =
    subst (λ (v : VlPlan). first_port_of (by first ++ flat_map by vls) v.link.id.0 ≡ first_port (by v)) same (here (by first) (own first))
  where
    here : (ways : List Way) → AreOf first.link.id.0 ways → first_port_of (ways ++ flat_map by vls) first.link.id.0 ≡ first_port ways
    here [] mine = all-over first.link.id.0 by own vls (sorted_head nat_cmp first.link.id.0 (ids_of vls) rising)
    here (way ∷ ways) mine = rw (eq-eqb way.vl.0 first.link.id.0 mine.0) refl
first-is by own (first ∷ vls) vl rising (inr there) =
    passed-over vl.link.id.0 first.link.id.0 (by first) (flat_map by vls) (own first) (below first.link.id.0 vls vl (sorted_head nat_cmp first.link.id.0 (ids_of vls) rising) there)
    ∙ first-is by own vls vl (sorted_tail nat_cmp first.link.id.0 (ids_of vls) rising) there

-- what is counted of a virtual link at node p
abbrev pub passed : (ℕ → LinkSizes) → Plan → ℕ → VlPlan → Passing
passed known plan p vl = record { link = vl.link; sizes = sizes_at (is_end_system plan.nodes p) (known vl.link.id.0); input = input_of plan p vl.link.id.0 }

module _ (plan : Plan) (accepted : IsAccepted plan) where
  pub rising : IsStrictlySortedBy nat_cmp (ids_of plan.vls)
  rising = sorted_from_strictly_increasing (ids_of plan.vls) (ids-rise plan accepted)

  -- the port by which it comes in at a switch
  pub input-is : (p : ℕ) (vl : VlPlan) → Has plan.vls vl → is_end_system plan.nodes p ≡ false → input_of plan p vl.link.id.0 ≡ first_port (ways_at plan p In vl)
  input-is p vl there switch = rw switch (first-is (ways_at plan p In) (ways-own plan p In) plan.vls vl rising there)

  -- it is counted where it leaves
  pub leaves-passed : (known : ℕ → LinkSizes) (p q : ℕ) (vl : VlPlan) → LeavesBy plan p q vl → Has (passings known plan p q) (passed known plan p vl)
  leaves-passed known p q vl l =
      let passing = passed known plan p vl in
      let found = with-there plan.vls vl rising (has-from_contains plan.vls vl l.is_vl) in
      let way : Way = record { vl = vl.link.id; port = q } in
      let here : (way.port == q) ≡ true = eq-eqb q q refl in
      let made : passing_at known plan p q way ≡ passing_by known plan p way vl = rw here (ap (λ o. option_map_or (passing_by known plan p way) o []) found) in
      has-flat_map (passing_at known plan p q) (departures_of plan p) way passing (has-from_contains (departures_of plan p) way l.way) (subst (λ ps. Has ps passing) (sym made) (inl refl))

  -- and what is counted leaves
  pub record IsPassing (known : ℕ → LinkSizes) (p q : ℕ) (passing : Passing) : Type 0 where
    pub vl : VlPlan
    pub leaves : LeavesBy plan p q vl
    pub is : passing ≡ passed known plan p vl

  pub passed-leaves : (known : ℕ → LinkSizes) (p q : ℕ) (passing : Passing) → Has (passings known plan p q) passing → IsPassing known p q passing
  passed-leaves known p q passing there =
      let (way, departs, made) = flat_map-has (passing_at known plan p q) (departures_of plan p) passing there in
      at way departs (way.port == q) refl made
    where
      go : (way : Way) → Has (departures_of plan p) way → way.port ≡ q → (o : Option VlPlan) → vl_with plan.vls way.vl.0 ≡ o → Has (option_map_or (passing_by known plan p way) o []) passing → IsPassing known p q passing
      go way departs port None e made = absurd made
      go way departs port (Some vl) e (inr made) = absurd made
      go way departs port (Some vl) e (inl made) =
          let (is_vl, id) = with-is plan.vls way.vl.0 vl e in
          let own : way ≡ record { vl = vl.link.id; port = q } = λ i. record { vl = record { 0 = sym id i }; port = port i } in
          record {
            vl = vl;
            leaves = record { is_vl = contains-from_has plan.vls vl is_vl; way = contains-from_has (departures_of plan p) _ (subst (Has (departures_of plan p)) own departs) };
            is = sym made ∙ ap (λ n. record { link = vl.link; sizes = sizes_at (is_end_system plan.nodes p) (known n); input = input_of plan p n }) (sym id);
          }

      at : (way : Way) → Has (departures_of plan p) way → (b : Bool) → (way.port == q) ≡ b → Has (cond b (passing_of known plan p way) []) passing → IsPassing known p q passing
      at way departs false e made = absurd made
      at way departs true e made = go way departs (eqb-true way.port q e) (vl_with plan.vls way.vl.0) refl made
