-- A map from nodes to where they are reached from, one hop after another.
use Rattle.std.proofs.Common.{◌≡◌, ℕ, ◌<◌, Bool, true, false, cond, ◌==◌, List, [], ◌∷◌, ◌++◌, length, take, get_or, Option, Some, None, refl, ap, sym, ◌∙◌, subst, arith, inl, inr, Contains, HashMap, take-append-drop}
use Rattle.std.specs.List.{list_any}
use Rattle.std.specs.HashMap.{get, UpdatesBy}
use Rattle.std.proofs.lemmas.Bool.{cases_Bool}
use Rattle.std.proofs.lemmas.Bool.Decides.{nat_tests}
use Rattle.std.proofs.lemmas.List.Elements.{Contains-append_left, Contains-push, Contains-push_cases, Contains-get_or}
use Rattle.std.proofs.lemmas.List.Folds.{list_any_none}
use Rattle.network.specs.declared.wiring.Hop.{Hop}
use Rattle.network.specs.Words.{is_other_way, has_other_way}
use Rattle.network.proofs.EachLemmas.{list_any-contains}
use Rattle.network_paths.specs.Findings.{AreWaysBy, AreWays}

pub none-contains : {X : Type 0} (p : X → Bool) (xs : List X) → ((x : X) → Contains xs x → p x ≡ false) → list_any p xs ≡ false
none-contains p xs h = list_any_none p xs (λ k d lt. h (get_or xs k d) (Contains-get_or xs k d lt))

-- a hop that leads to a node from where it was reached already
pub AreWays-kept : (ways : ℕ → Option ℕ) (hops : List Hop) (t : Hop) → AreWaysBy ways hops → ways t.to ≡ Some t.from → AreWaysBy ways (hops ++ t ∷ [])
AreWays-kept ways hops t are here = (
  (λ s there. elim (Contains-push_cases hops t s there) [ inl old ↦ are.0 s old | inr same ↦ subst (λ (u : Hop). ways u.to ≡ Some u.from) same here ]),
  (λ to from found. Contains-append_left hops (t ∷ []) _ (are.1 to from found)),
)

-- a hop to a node that was not reached
pub AreWays-more : (old new : ℕ → Option ℕ) (hops : List Hop) (t : Hop) → AreWaysBy old hops → old t.to ≡ None
    → ((to : ℕ) → new to ≡ cond (t.to == to) (Some t.from) (old to)) → AreWaysBy new (hops ++ t ∷ [])
AreWays-more old new hops t are absent at = (first, second)
  where
    new_here : new t.to ≡ Some t.from
    new_here = let same : (t.to == t.to) ≡ true = grind (arith, nat_tests) in at t.to ∙ rw same refl

    first : (s : Hop) → Contains (hops ++ t ∷ []) s → new s.to ≡ Some s.from
    first s there = elim (Contains-push_cases hops t s there) [
      | inl before ↦ elim (cases_Bool (t.to == s.to)) [
        | inl same ↦ (let equal : t.to ≡ s.to = grind (arith, nat_tests) in
            let gone : Some s.from ≡ None = sym (are.0 s before) ∙ ap old (sym equal) ∙ absent in cc)
        | inr apart ↦ at s.to ∙ rw apart (are.0 s before)
      ]
      | inr same ↦ subst (λ (u : Hop). new u.to ≡ Some u.from) same new_here
    ]

    second : (to from : ℕ) → new to ≡ Some from → Contains (hops ++ t ∷ []) (record { from = from; to = to })
    second to from found = elim (cases_Bool (t.to == to)) [
      | inl same ↦ (let to_is : t.to ≡ to = grind (arith, nat_tests) in
          let here : Some t.from ≡ Some from = sym (at to ∙ rw same refl) ∙ found in
          let from_is : t.from ≡ from = cc in
          let is_t : t ≡ record { from = from; to = to } = ap (λ n. record { from = n; to = t.to }) from_is ∙ ap (λ n. record { from = from; to = n }) to_is in
          subst (λ (u : Hop). Contains (hops ++ t ∷ []) u) is_t (Contains-push hops t))
      | inr apart ↦ (let before : old to ≡ Some from = sym (at to ∙ rw apart refl) ∙ found in Contains-append_left hops (t ∷ []) _ (are.1 to from before))
    ]

pub AreWays-put : {S : Type 0} (old new : HashMap ℕ ℕ S) (hops : List Hop) (t : Hop) → AreWays old hops → get (λ x y. x == y) old t.to ≡ None
    → UpdatesBy (λ x y. x == y) (λ k. t.to == k) old new (Some t.from) → AreWays new (hops ++ t ∷ [])
AreWays-put old new hops t are absent put = AreWays-more (get (λ x y. x == y) old) (get (λ x y. x == y) new) hops t are absent (λ to. put.0 to)

-- a hop that leads to a node from another one than it was reached from
pub other-way : (ways : ℕ → Option ℕ) (hops : List Hop) (t : Hop) (from : ℕ) → AreWaysBy ways hops → ways t.to ≡ Some from → (from == t.from) ≡ false
    → (s : Hop) × Contains hops s × (is_other_way s t ≡ true)
other-way ways hops t from are found apart =
    let same : (t.to == t.to) ≡ true = grind (arith, nat_tests) in
    (record { from = from; to = t.to }, are.1 t.to from found, rw (same, apart) refl)

-- where all hops agree with the map, no two of them lead to one node from different ones
pub no-other-way : (ways : ℕ → Option ℕ) (hops : List Hop) → AreWaysBy ways hops → has_other_way hops ≡ false
no-other-way ways hops are =
    none-contains (λ s. list_any (is_other_way s) hops) hops (λ s s_there. none-contains (is_other_way s) hops (λ t t_there. agree s t s_there t_there))
  where
    agree : (s t : Hop) → Contains hops s → Contains hops t → is_other_way s t ≡ false
    agree s t s_there t_there = elim (cases_Bool (s.to == t.to)) [
      | inl same ↦ (let equal : s.to ≡ t.to = grind (arith, nat_tests) in
          let both : Some s.from ≡ Some t.from = sym (are.0 s s_there) ∙ ap ways equal ∙ are.0 t t_there in
          let from_is : s.from ≡ t.from = cc in
          let test : (s.from == t.from) ≡ true = grind (arith, nat_tests) in rw (same, test) refl)
      | inr apart ↦ rw apart refl
    ]

-- a hop before i and the one at i lead to one node from different ones
pub other-way-at : (hops : List Hop) (i : ℕ) (d s : Hop) → i < length hops → Contains (take i hops) s → is_other_way s (get_or hops i d) ≡ true → has_other_way hops ≡ true
other-way-at hops i d s lt there other =
    let whole : Contains hops s = subst (λ (xs : List Hop). Contains xs s) (take-append-drop i hops) (Contains-append_left (take i hops) _ s there) in
    list_any-contains (λ u. list_any (is_other_way u) hops) hops s whole (list_any-contains (is_other_way s) hops (get_or hops i d) (Contains-get_or hops i d lt) other)

-- what is read where there is no hop
abbrev pub no_hop : Hop
no_hop = record { from = 0; to = 0 }
