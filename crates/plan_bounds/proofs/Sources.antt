-- A virtual link leaves no end system but its source, and ends at end systems.
use Rattle.std.proofs.Common.{◌≡◌, ℕ, suc, length-append, ◌+◌, ◌-◌, ◌==◌, not, true, false, List, [], ◌∷◌, ◌++◌, length, take, Option, Some, None, inl, inr, refl, ap, sym, ◌∙◌, subst, arith, slice_get, Contains, eqb-true}
use Rattle.std.specs.List.{AllByRecursion, list_any}
use Rattle.std.proofs.lemmas.Bool.{false≢true}
use Rattle.std.proofs.lemmas.Option.{none-some}
use Rattle.std.proofs.lemmas.List.Elements.{All-contains, All-from_recursion}
use Rattle.std.proofs.lemmas.List.Sorted.{All-permutation}
use Rattle.vlink.specs.declared.frame.Net.{Net}
use Rattle.vlink.specs.declared.frame.Net.TheVariants.{A, B}
use Rattle.row_types.specs.declared.rows.NodeKind.{NodeKind}
use Rattle.row_types.specs.declared.rows.NodeKind.TheVariants.{EndSystem, Switch}
use Rattle.network.specs.Words.{IsAccepted, NodePlan, Plan, VlPlan, destinations_of, differ, double_names, each_after, end_of, ends_of, first_of, inner_of, is_bad_path, is_end_kind, is_end_system, is_no_tree, is_switch_kind, is_switch_of, last_of, leaves, lines_of, no_tree_at_vl, not_links, not_trees, passes, plan_of, source_among, source_of, too_many, unknown_names}
use Rattle.network.specs.Trees.{begin_apart}
use Rattle.network.proofs.BuildLemmas.{behind-none, front-none, not-false, when-none}
use Rattle.network_faults.proofs.MemberLemmas.{Has, contains-from_has, flat_map-has, has-either, has-from_contains, option-has, rising-has}
use Rattle.network_tables.specs.PortLaws.{IsOutput, paths_on}
use Rattle.network_tables.proofs.HopLemmas.{none-has, or-left, or-right}
use Rattle.network_tables.proofs.RouteLemmas.{output-faces}
use Rattle.network_tables.proofs.RoutedLemmas.{routed}
use Rattle.plan_ports.specs.Links.{LeavesBy}
use Rattle.plan_ports.proofs.Linked.{own-way}

-- what stands between the first and the last
between : (before : List ℕ) (p next : ℕ) (behind : List ℕ) → Has (take (length (before ++ p ∷ next ∷ behind) - 1) (before ++ p ∷ next ∷ behind)) p
between [] p next behind =
    let count : length (p ∷ next ∷ behind) - 1 ≡ suc (length behind) = omega arith in
    subst (λ n. Has (take n (p ∷ next ∷ behind)) p) (sym count) (inl refl)
between (x ∷ before) p next behind =
    let some : length (before ++ p ∷ next ∷ behind) ≡ length before + suc (suc (length behind)) = omega (arith, length-append before (p ∷ next ∷ behind)) in
    let count : length (x ∷ before ++ p ∷ next ∷ behind) - 1 ≡ suc (length (before ++ p ∷ next ∷ behind) - 1) = omega (arith, some) in
    subst (λ n. Has (take n (x ∷ before ++ p ∷ next ∷ behind)) p) (sym count) (inr (between before p next behind))

no-both : (nodes : List NodePlan) (net : Net) (p : ℕ) → is_end_system nodes p ≡ true → is_switch_of nodes net p ≡ true → ⊥
no-both nodes net p end switch = go (slice_get nodes p) end switch
  where
    at : (kind : NodeKind) → is_end_kind kind ≡ true → is_switch_kind net kind ≡ true → ⊥
    at EndSystem h k = false≢true k
    at (Switch own latency_ns) h k = false≢true h

    go : (o : Option NodePlan) → passes (λ node. is_end_kind node.kind) o ≡ true → passes (λ node. is_switch_kind net node.kind) o ≡ true → ⊥
    go None h k = false≢true h
    go (Some node) h k = at node.kind h k

not-differ : (x y : ℕ) → differ (Some x) (Some y) ≡ false → x ≡ y
not-differ x y h = eqb-true x y (not-false (x == y) h)

there-is : (nodes : List NodePlan) (o : Option ℕ) → passes (is_end_system nodes) o ≡ true → (n : ℕ) × (o ≡ Some n) × (is_end_system nodes n ≡ true)
there-is nodes None h = absurd (false≢true h)
there-is nodes (Some n) h = (n, refl, h)

-- paths on A and on B begin at one node
HasOneSource : VlPlan → Type 0
HasOneSource vl = differ (source_among vl.a) (source_among vl.b) ≡ false

all-one : (nodes : List NodePlan) (earlier vls : List VlPlan) → each_after (no_tree_at_vl nodes) earlier vls ≡ [] → AllByRecursion HasOneSource vls
unfolding HasOneSource
all-one nodes earlier [] none = tt
all-one nodes earlier (vl ∷ vls) none =
    (or-right (is_no_tree nodes B vl.b) _ (when-none _ _ (behind-none _ _ (front-none (no_tree_at_vl nodes earlier vl) _ none))), all-one nodes (earlier ++ vl ∷ []) vls (behind-none (no_tree_at_vl nodes earlier vl) _ none))

module _ (plan : Plan) (accepted : IsAccepted plan) (vl : VlPlan) (is_vl : Contains plan.vls vl) where
  good : (net : Net) (path : List ℕ) → Has (paths_on net vl) path → is_bad_path plan.nodes net path ≡ false
  good net path there = none-has (is_bad_path plan.nodes net) (paths_on net vl) path (or-left _ _ (or-left _ _ (or-left _ _ ((routed plan accepted vl is_vl).trees net)))) there

  first-end : (net : Net) (path : List ℕ) → Has (paths_on net vl) path → (n : ℕ) × (first_of path ≡ Some n) × (is_end_system plan.nodes n ≡ true)
  first-end net path there = there-is plan.nodes (first_of path) (not-false _ (or-left _ _ (or-left _ _ (or-left _ _ (good net path there)))))

  last-end : (net : Net) (path : List ℕ) → Has (paths_on net vl) path → passes (is_end_system plan.nodes) (last_of path) ≡ true
  last-end net path there = not-false _ (or-right (not (passes (is_end_system plan.nodes) (first_of path))) _ (or-left _ _ (or-left _ _ (good net path there))))

  inner-switch : (net : Net) (path : List ℕ) → Has (paths_on net vl) path → (n : ℕ) → Has (inner_of path) n → is_switch_of plan.nodes net n ≡ true
  inner-switch net path there n inside =
      not-false _ (none-has (λ node. not (is_switch_of plan.nodes net node)) (inner_of path) n (or-right _ (list_any (λ node. not (is_switch_of plan.nodes net node)) (inner_of path)) (or-left _ _ (good net path there))) inside)

  -- an end system that another node follows is the first of its path
  begins : (net : Net) (p next : ℕ) (before behind : List ℕ) → Has (paths_on net vl) (before ++ p ∷ next ∷ behind) → is_end_system plan.nodes p ≡ true → first_of (before ++ p ∷ next ∷ behind) ≡ Some p
  begins net p next [] behind there end = refl
  begins net p next (x ∷ before) behind there end =
      absurd (no-both plan.nodes net p end (inner-switch net (x ∷ before ++ p ∷ next ∷ behind) there p (between before p next behind)))

  -- the paths of a network begin there
  among : (net : Net) (path : List ℕ) (p : ℕ) → Has (paths_on net vl) path → first_of path ≡ Some p → source_among (paths_on net vl) ≡ Some p
  among net path p there first = go (paths_on net vl) refl there
    where
      apart : begin_apart (paths_on net vl) ≡ false
      apart = or-right _ (begin_apart (paths_on net vl)) (or-left _ _ (or-left _ _ ((routed plan accepted vl is_vl).trees net)))

      same : differ (source_among (paths_on net vl)) (Some p) ≡ false
      same = subst (λ o. differ (source_among (paths_on net vl)) o ≡ false) first (none-has (λ path. differ (source_among (paths_on net vl)) (first_of path)) (paths_on net vl) path apart there)

      go : (paths : List (List ℕ)) → paths_on net vl ≡ paths → Has paths path → source_among (paths_on net vl) ≡ Some p
      go [] e h = absurd h
      go (one ∷ paths) e h =
          let (n, is, end) = first-end net one (subst (λ ps. Has ps one) (sym e) (inl refl)) in
          let source : source_among (paths_on net vl) ≡ Some n = ap source_among e ∙ is in
          source ∙ ap Some (not-differ n p (subst (λ o. differ o (Some p) ≡ false) source same))

  one-source : differ (source_among vl.a) (source_among vl.b) ≡ false
  unfolding HasOneSource
  one-source =
      let made = plan_of accepted.rows in
      let none : not_trees made ≡ [] = behind-none (unknown_names accepted.rows ++ double_names made ++ not_links made) (not_trees made) (front-none _ (too_many made) accepted.stands.none) in
      All-contains HasOneSource plan.vls vl (All-permutation HasOneSource made.vls plan.vls accepted.stands.vls (All-from_recursion HasOneSource made.vls (all-one made.nodes [] made.vls none))) is_vl

  source-on : (net : Net) (p : ℕ) → source_among (paths_on net vl) ≡ Some p → source_of vl ≡ Some p
  source-on A p h = go vl.a h
    where
      go : (a : List (List ℕ)) → source_among a ≡ Some p → source_among (a ++ vl.b) ≡ Some p
      go [] h = absurd (none-some p h)
      go (path ∷ a) h = h
  source-on B p h = go vl.a refl
    where
      go : (a : List (List ℕ)) → vl.a ≡ a → source_among (a ++ vl.b) ≡ Some p
      go [] e = h
      go (path ∷ a) e =
          let (n, is, end) = first-end A path (subst (λ ps. Has ps path) (sym e) (inl refl)) in
          is ∙ ap Some (not-differ n p (subst (λ o. differ o (Some p) ≡ false) (ap source_among e ∙ is) (subst (λ o. differ (source_among vl.a) o ≡ false) h one-source)))

  pub leaves-source : (p q : ℕ) → LeavesBy plan p q vl → is_end_system plan.nodes p ≡ true → source_of vl ≡ Some p
  leaves-source p q l end =
      let out : IsOutput plan vl p q = contains-from_has (leaves p (lines_of plan) plan.links vl) _ (own-way plan accepted p q vl l) in
      let faces = output-faces plan vl p q out in
      let next = faces.precedes.neighbours in
      let there = subst (Has (paths_on faces.net vl)) next.split (has-from_contains (paths_on faces.net vl) faces.precedes.path faces.precedes.is_path) in
      let first = begins faces.net p faces.successor next.before next.behind there end in
      source-on faces.net p (among faces.net (next.before ++ p ∷ faces.successor ∷ next.behind) p there first)

  ends-at : (net : Net) (n : ℕ) → Has (ends_of (paths_on net vl)) n → is_end_system plan.nodes n ≡ true
  ends-at net n there =
      let (path, is_path, last) = flat_map-has end_of (paths_on net vl) n there in
      subst (λ o. passes (is_end_system plan.nodes) o ≡ true) (option-has (last_of path) n last) (last-end net path is_path)

  pub destination-end : (n : ℕ) → Has (destinations_of vl) n → is_end_system plan.nodes n ≡ true
  destination-end n there = elim (has-either (ends_of vl.a) (ends_of vl.b) n (rising-has _ n there)) [
    | inl a ↦ ends-at A n a
    | inr b ↦ ends-at B n b
  ]
