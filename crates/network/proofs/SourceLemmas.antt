-- Each virtual link of a network without a fault begins at an end system.
use Rattle.std.proofs.Common.{◌≡◌, ℕ, get_or, arith, ◌<◌, Bool, true, false, ◌&&◌, ◌||◌, List, [], ◌∷◌, ◌++◌, length, Option, Some, None, All, refl, ap, sym, ◌∙◌, subst, slice_get}
use Rattle.std.specs.List.{AllByRecursion}
use Rattle.std.proofs.lemmas.Bool.{false≢true}
use Rattle.std.proofs.lemmas.List.Elements.{All-from_recursion}
use Rattle.std.proofs.lemmas.List.Sorted.{All-permutation}
use Rattle.std.proofs.lemmas.Option.{slice_get_read, slice_get_within}
use Rattle.vlink.specs.declared.frame.Net.{Net}
use Rattle.vlink.specs.declared.frame.Net.TheVariants.{A, B}
use Rattle.network.specs.Words.{each_after, Plan, NodePlan, VlPlan, plan_of, passes, is_end_kind, is_end_system, first_of, is_bad_path, is_no_tree, source_among, source_of, differ, is_none, unknown_names, double_names, not_links, not_trees, too_many, no_tree_at_vl, IsAccepted}
use Rattle.network.proofs.BuildLemmas.{front-none, behind-none, when-none, not-false, read-item}

-- an end system that is there
pub record IsEndSystem (nodes : List NodePlan) (at : Option ℕ) : Type 0 where
  pub node : ℕ
  pub is : at ≡ Some node
  pub end_system : is_end_system nodes node ≡ true

abbrev pub HasSource : List NodePlan → VlPlan → Type 0
HasSource nodes vl = IsEndSystem nodes (source_of vl)

or-left : (a b : Bool) → (a || b) ≡ false → a ≡ false
or-left true b h = absurd (false≢true (sym h))
or-left false b h = refl

or-right : (a b : Bool) → (a || b) ≡ false → b ≡ false
or-right true b h = absurd (false≢true (sym h))
or-right false b h = h

there : (nodes : List NodePlan) (at : Option ℕ) → passes (is_end_system nodes) at ≡ true → IsEndSystem nodes at
there nodes None h = absurd (false≢true h)
there nodes (Some n) h = record { node = n; is = refl; end_system = h }

-- the first path of a tree begins at an end system
tree-begins : (nodes : List NodePlan) (net : Net) (path : List ℕ) (paths : List (List ℕ)) → is_no_tree nodes net (path ∷ paths) ≡ false → IsEndSystem nodes (first_of path)
tree-begins nodes net path paths tree =
    let good : is_bad_path nodes net path ≡ false = or-left _ _ (or-left _ _ (or-left _ _ (or-left _ _ tree))) in
    there nodes (first_of path) (not-false _ (or-left _ _ (or-left _ _ (or-left _ _ good))))

vl-begins : (nodes : List NodePlan) (earlier : List VlPlan) (vl : VlPlan) → no_tree_at_vl nodes earlier vl ≡ [] → HasSource nodes vl
vl-begins nodes earlier vl none = go vl.a vl.b (when-none _ _ (front-none _ _ none)) (when-none _ _ (behind-none _ _ none))
  where
    go : (a b : List (List ℕ)) → ((is_none a && is_none b) || is_no_tree nodes A a) ≡ false → (is_no_tree nodes B b || differ (source_among a) (source_among b)) ≡ false → IsEndSystem nodes (source_among (a ++ b))
    go (path ∷ a) b on_a on_b = tree-begins nodes A path a (or-right (is_none (path ∷ a) && is_none b) _ on_a)
    go [] (path ∷ b) on_a on_b = tree-begins nodes B path b (or-left _ _ on_b)
    go [] [] on_a on_b = absurd (false≢true (sym on_a))

all-begin : (nodes : List NodePlan) (earlier vls : List VlPlan) → each_after (no_tree_at_vl nodes) earlier vls ≡ [] → AllByRecursion (HasSource nodes) vls
all-begin nodes earlier [] none = tt
all-begin nodes earlier (vl ∷ vls) none = (vl-begins nodes earlier vl (front-none _ _ none), all-begin nodes (earlier ++ vl ∷ []) vls (behind-none (no_tree_at_vl nodes earlier vl) _ none))

pub all-have : (plan : Plan) → IsAccepted plan → All (HasSource plan.nodes) plan.vls
all-have plan accepted =
    let rows = accepted.rows in
    let stands = accepted.stands in
    let made = plan_of rows in
    let none : not_trees made ≡ [] = behind-none (unknown_names rows ++ double_names made ++ not_links made) (not_trees made) (front-none _ (too_many made) stands.none) in
    let in_rows : All (HasSource made.nodes) made.vls = All-from_recursion (HasSource made.nodes) made.vls (all-begin made.nodes [] made.vls none) in
    subst (λ (nodes : List NodePlan). All (HasSource nodes) plan.vls) (sym stands.nodes) (All-permutation (HasSource made.nodes) made.vls plan.vls stands.vls in_rows)

-- the virtual link that is read in an accepted network, and its source
pub vl-read : (plan : Plan) (vls : List VlPlan) (n k : ℕ) (vl : VlPlan) → IsAccepted plan → vls ≡ plan.vls → n ≡ length vls → k < length plan.vls → vl ≡ get_or vls k vl
    → (slice_get plan.vls k ≡ Some vl) × HasSource plan.nodes vl
vl-read plan vls n k vl accepted same len below read =
    let lt : k < n = omega (arith, ap length same) in
    let here : slice_get plan.vls k ≡ Some vl = ap (λ xs. slice_get xs k) (sym same) ∙ slice_get_read vls n k vl len lt read in
    (here, read-item (HasSource plan.nodes) plan.vls k vl (all-have plan accepted) here)

-- the end system that is there
pub end-system-is : (nodes : List NodePlan) (at : Option ℕ) (n : ℕ) → IsEndSystem nodes at → at ≡ Some n → is_end_system nodes n ≡ true
end-system-is nodes at n has is = let same : has.node ≡ n = cc in subst (λ k. is_end_system nodes k ≡ true) same has.end_system

-- an end system is a node
pub end-system-below : (nodes : List NodePlan) (n : ℕ) → is_end_system nodes n ≡ true → n < length nodes
end-system-below nodes n h = go (slice_get nodes n) refl h
  where
    go : (o : Option NodePlan) → slice_get nodes n ≡ o → passes (λ node. is_end_kind node.kind) o ≡ true → n < length nodes
    go None at h = absurd (false≢true h)
    go (Some node) at h = slice_get_within nodes n node at
