-- The hops of the paths of a virtual link, and what a path without a fault says of its nodes.
use Rattle.std.proofs.Common.{◌≡◌, ℕ, suc, ◌-◌, Bool, true, false, ◌||◌, ◌==◌, not, List, [], ◌∷◌, ◌++◌, length, take, Option, Some, inl, inr, refl, ap, sym, ◌∙◌, subst, arith, ◌⊎◌, slice_get, eqb-true}
use Rattle.std.specs.List.{list_any}
use Rattle.std.proofs.lemmas.Bool.{false≢true}
use Rattle.std.proofs.lemmas.Bool.Decides.{nat_tests}
use Rattle.vlink.specs.declared.frame.Net.{Net}
use Rattle.vlink.specs.declared.frame.Net.TheVariants.{A, B}
use Rattle.network.specs.declared.wiring.Hop.{Hop}
use Rattle.network.specs.Words.{NodePlan, VlPlan, passes, is_end_system, is_switch_of, first_of, last_of, inner_of, is_bad_path, has_other_way, is_other_way, hops_after, hops_of, all_hops}
use Rattle.network_tables.specs.PortLaws.{paths_on, IsPredecessor, Precedes}
use Rattle.network.proofs.BuildLemmas.{not-false}
use Rattle.network_faults.proofs.MemberLemmas.{Has, has-from_contains, contains-from_has, has-left, has-right, has-either, has-flat_map, flat_map-has}

-- ---- the hops of a path are its neighbours

abbrev pub hop : ℕ → ℕ → Hop
hop from to = record { from = from; to = to }

hop-is-next : (first : ℕ) (path : List ℕ) (s : Hop) → Has (hops_after first path) s → IsPredecessor (first ∷ path) s.from s.to
hop-is-next first [] s there = absurd there
hop-is-next first (next ∷ path) s (inl same) =
    subst (λ (t : Hop). IsPredecessor (first ∷ next ∷ path) t.from t.to) same (record { before = []; behind = path; split = refl })
hop-is-next first (next ∷ path) s (inr there) =
    let later = hop-is-next next path s there in
    record { before = first ∷ later.before; behind = later.behind; split = ap (λ xs. first ∷ xs) later.split }

next-is-hop : (before behind : List ℕ) (from to : ℕ) → Has (hops_of (before ++ from ∷ to ∷ behind)) (hop from to)
next-is-hop [] behind from to = inl refl
next-is-hop (x ∷ []) behind from to = inr (inl refl)
next-is-hop (x ∷ y ∷ before) behind from to = inr (next-is-hop (y ∷ before) behind from to)

neighbours-of : (path : List ℕ) (s : Hop) → Has (hops_of path) s → IsPredecessor path s.from s.to
neighbours-of [] s there = absurd there
neighbours-of (first ∷ path) s there = hop-is-next first path s there

hop-of : (path : List ℕ) (from to : ℕ) → IsPredecessor path from to → Has (hops_of path) (hop from to)
hop-of path from to next = subst (λ (p : List ℕ). Has (hops_of p) (hop from to)) (sym next.split) (next-is-hop next.before next.behind from to)

-- a hop of the paths on a network
pub hop-on : (net : Net) (vl : VlPlan) (from to : ℕ) → Precedes net vl from to → Has (all_hops (paths_on net vl)) (hop from to)
hop-on net vl from to precedes =
    has-flat_map hops_of (paths_on net vl) precedes.path (hop from to)
    (has-from_contains (paths_on net vl) precedes.path precedes.is_path) (hop-of precedes.path from to precedes.neighbours)

on-hop : (net : Net) (vl : VlPlan) (s : Hop) → Has (all_hops (paths_on net vl)) s → Precedes net vl s.from s.to
on-hop net vl s there =
    let (path, is_path, of_path) = flat_map-has hops_of (paths_on net vl) s there in
    record { path = path; is_path = contains-from_has (paths_on net vl) path is_path; neighbours = neighbours-of path s of_path }

-- a hop of both networks
pub hop-of-both : (net : Net) (vl : VlPlan) (from to : ℕ) → Precedes net vl from to → Has (all_hops vl.a ++ all_hops vl.b) (hop from to)
hop-of-both A vl from to precedes = has-left (all_hops vl.a) (all_hops vl.b) _ (hop-on A vl from to precedes)
hop-of-both B vl from to precedes = has-right (all_hops vl.a) (all_hops vl.b) _ (hop-on B vl from to precedes)

-- the hop is of one of the networks
pub record IsHopOf (vl : VlPlan) (s : Hop) : Type 0 where
  pub net : Net
  pub precedes : Precedes net vl s.from s.to

pub both-of-hop : (vl : VlPlan) (s : Hop) → Has (all_hops vl.a ++ all_hops vl.b) s → IsHopOf vl s
both-of-hop vl s there = elim (has-either (all_hops vl.a) (all_hops vl.b) s there) [
  | inl on_a ↦ record { net = A; precedes = on-hop A vl s on_a }
  | inr on_b ↦ record { net = B; precedes = on-hop B vl s on_b }
]

-- ---- the nodes of a path without a fault

pub or-left : (a b : Bool) → (a || b) ≡ false → a ≡ false
or-left true b h = absurd (false≢true (sym h))
or-left false b h = refl

pub or-right : (a b : Bool) → (a || b) ≡ false → b ≡ false
or-right true b h = absurd (false≢true (sym h))
or-right false b h = h

-- an element does not pass a test that none passes
pub none-has : {X : Type 0} (p : X → Bool) (xs : List X) (x : X) → list_any p xs ≡ false → Has xs x → p x ≡ false
none-has p [] x none there = absurd there
none-has p (y ∷ ys) x none (inl same) = ap p (sym same) ∙ or-left (p y) (list_any p ys) none
none-has p (y ∷ ys) x none (inr there) = none-has p ys x (or-right (p y) (list_any p ys) none) there

-- an element of a list is the last one, or before it
last-or-before : (y : ℕ) (ys : List ℕ) (x : ℕ) → Has (y ∷ ys) x → (slice_get (y ∷ ys) (length ys) ≡ Some x) ⊎ Has (take (length ys) (y ∷ ys)) x
last-or-before y [] x (inl same) = inl (ap Some same)
last-or-before y [] x (inr there) = absurd there
last-or-before y (z ∷ zs) x (inl same) = inr (inl same)
last-or-before y (z ∷ zs) x (inr there) = elim (last-or-before z zs x there) [ inl last ↦ inl last | inr before ↦ inr (inr before) ]

less-one : (n : ℕ) → suc n - 1 ≡ n
less-one n = omega arith

-- a node of a path is at one of its ends, or an inner one
ends-or-inner : (path : List ℕ) (x : ℕ) → Has path x → (first_of path ≡ Some x) ⊎ ((last_of path ≡ Some x) ⊎ Has (inner_of path) x)
ends-or-inner [] x there = absurd there
ends-or-inner (first ∷ others) x (inl same) = inl (ap Some same)
ends-or-inner (first ∷ []) x (inr there) = absurd there
ends-or-inner (first ∷ y ∷ ys) x (inr there) = elim (last-or-before y ys x there) [
  | inl last ↦ inr (inl (ap (slice_get (first ∷ y ∷ ys)) (less-one (suc (length ys))) ∙ last))
  | inr before ↦ inr (inr (subst (λ n. Has (take n (y ∷ ys)) x) (sym (less-one (length ys))) before))
]

-- an end of such a path is an end system
end-passes : (nodes : List NodePlan) (end : Option ℕ) (x : ℕ) → passes (is_end_system nodes) end ≡ true → end ≡ Some x → is_end_system nodes x ≡ true
end-passes nodes end x passed is = subst (λ (o : Option ℕ). passes (is_end_system nodes) o ≡ true) is passed

module _ (nodes : List NodePlan) (net : Net) (path : List ℕ) (good : is_bad_path nodes net path ≡ false) where
  first-end : passes (is_end_system nodes) (first_of path) ≡ true
  first-end = not-false _ (or-left _ _ (or-left _ _ (or-left _ _ good)))

  last-end : passes (is_end_system nodes) (last_of path) ≡ true
  last-end = not-false _ (or-right (not (passes (is_end_system nodes) (first_of path))) _ (or-left _ _ (or-left _ _ good)))

  inner-switch : (x : ℕ) → Has (inner_of path) x → is_switch_of nodes net x ≡ true
  inner-switch x there = not-false _ (none-has (λ node. not (is_switch_of nodes net node)) (inner_of path) x (or-right _ _ (or-left _ _ good)) there)

  -- a node that is no end system is a switch of the network
  pub is-switch : (x : ℕ) → Has path x → is_end_system nodes x ≡ false → is_switch_of nodes net x ≡ true
  is-switch x there no_end = elim (ends-or-inner path x there) [
    | inl first ↦ absurd (false≢true (sym no_end ∙ end-passes nodes (first_of path) x first-end first))
    | inr (inl last) ↦ absurd (false≢true (sym no_end ∙ end-passes nodes (last_of path) x last-end last))
    | inr (inr inner) ↦ inner-switch x inner
  ]

  -- and it has a predecessor
  pub has-predecessor : (x : ℕ) → Has path x → is_end_system nodes x ≡ false → (from : ℕ) × IsPredecessor path from x
  has-predecessor x there no_end = go path first-end there
    where
      behind : (first : ℕ) (others : List ℕ) → Has others x → (from : ℕ) × IsPredecessor (first ∷ others) from x
      behind first [] there = absurd there
      behind first (y ∷ ys) (inl same) = (first, record { before = []; behind = ys; split = ap (λ n. first ∷ n ∷ ys) same })
      behind first (y ∷ ys) (inr there) =
          let later = behind y ys there in
          (later.0, record { before = first ∷ later.1.before; behind = later.1.behind; split = ap (λ xs. first ∷ xs) later.1.split })

      go : (path : List ℕ) → passes (is_end_system nodes) (first_of path) ≡ true → Has path x → (from : ℕ) × IsPredecessor path from x
      go [] end there = absurd there
      go (first ∷ others) end (inl same) = absurd (false≢true (sym no_end ∙ end-passes nodes (Some first) x end (ap Some same)))
      go (first ∷ others) end (inr there) = behind first others there

-- neighbours of a path are on it
has-behind : (before : List ℕ) (x : ℕ) (behind : List ℕ) → Has (before ++ x ∷ behind) x
has-behind before x behind = has-right before (x ∷ behind) x (inl refl)

pub from-there : (path : List ℕ) (from to : ℕ) → IsPredecessor path from to → Has path from
from-there path from to next = subst (λ (p : List ℕ). Has p from) (sym next.split) (has-behind next.before from (to ∷ next.behind))

pub to-there : (path : List ℕ) (from to : ℕ) → IsPredecessor path from to → Has path to
to-there path from to next =
    subst (λ (p : List ℕ). Has p to) (sym next.split) (has-right next.before (from ∷ to ∷ next.behind) to (inr (inl refl)))

-- ---- a tree reaches a node from one node

pub one-way : (hops : List Hop) (s t : Hop) → has_other_way hops ≡ false → Has hops s → Has hops t → s.to ≡ t.to → s.from ≡ t.from
one-way hops s t tree s_there t_there same = go (s.from == t.from) refl
  where
    none : is_other_way s t ≡ false
    none = none-has (is_other_way s) hops t (none-has (λ u. list_any (is_other_way u) hops) hops s tree s_there) t_there

    go : (b : Bool) → (s.from == t.from) ≡ b → s.from ≡ t.from
    go true e = eqb-true s.from t.from e
    go false e = let here : (s.to == t.to) ≡ true = grind (arith, nat_tests) in
        let other : is_other_way s t ≡ true = rw (here, e) refl in
        absurd (false≢true (sym none ∙ other))
