-- The virtual links of an accepted network have trees along its links as paths.
use Rattle.std.proofs.Common.{◌≡◌, false, List, [], ◌∷◌, ◌++◌, All, ap, sym, ◌∙◌, subst, Contains}
use Rattle.std.specs.List.{AllByRecursion}
use Rattle.std.proofs.lemmas.List.Elements.{All-from_recursion, All-contains}
use Rattle.std.proofs.lemmas.List.Sorted.{All-permutation}
use Rattle.vlink.specs.declared.frame.Net.{Net}
use Rattle.vlink.specs.declared.frame.Net.TheVariants.{A, B}
use Rattle.network.specs.declared.wiring.Link.{Link}
use Rattle.network_rows.specs.declared.fault.DescFault.{DescFault}
use Rattle.network.specs.Words.{each, each_after, Plan, NodePlan, VlPlan, plan_of, is_no_link, is_no_tree, unknown_names, double_names, not_links, not_trees, too_many, double_at_node, double_at_link, double_at_vl, no_link_at_link, no_link_at_outage, no_link_at_vl, no_tree_at_vl, has_gap, IsAccepted}
use Rattle.network_tables.specs.PortLaws.{paths_on}
use Rattle.network.proofs.EachLemmas.{each_after-append}
use Rattle.network.proofs.BuildLemmas.{front-none, behind-none, when-none}
use Rattle.network_tables.proofs.HopLemmas.{or-left, or-right}
use Rattle.network_tables.proofs.LineLemmas.{AreLinks}
use Rattle.network_tables.proofs.SwitchLemmas.{IsRouted}

vl-trees : (nodes : List NodePlan) (earlier : List VlPlan) (vl : VlPlan) (net : Net) → no_tree_at_vl nodes earlier vl ≡ [] → is_no_tree nodes net (paths_on net vl) ≡ false
vl-trees nodes earlier vl A none = or-right _ _ (when-none _ _ (front-none _ _ none))
vl-trees nodes earlier vl B none = or-left _ _ (when-none _ _ (behind-none _ _ none))

vl-linked : (links : List Link) (earlier : List VlPlan) (vl : VlPlan) (net : Net) → no_link_at_vl links earlier vl ≡ [] → has_gap links (paths_on net vl) ≡ false
vl-linked links earlier vl A none = when-none _ _ (front-none _ _ none)
vl-linked links earlier vl B none = when-none _ _ (behind-none _ _ none)

all-routed : (plan : Plan) (earlier vls : List VlPlan) → each_after (no_tree_at_vl plan.nodes) earlier vls ≡ [] → each_after (no_link_at_vl plan.links) earlier vls ≡ [] → AllByRecursion (IsRouted plan) vls
all-routed plan earlier [] trees linked = tt
all-routed plan earlier (vl ∷ vls) trees linked = (
  record {
    trees = λ net. vl-trees plan.nodes earlier vl net (front-none (no_tree_at_vl plan.nodes earlier vl) _ trees);
    linked = λ net. vl-linked plan.links earlier vl net (front-none (no_link_at_vl plan.links earlier vl) _ linked);
  },
  all-routed plan (earlier ++ vl ∷ []) vls (behind-none (no_tree_at_vl plan.nodes earlier vl) _ trees) (behind-none (no_link_at_vl plan.links earlier vl) _ linked),
)

-- a row behind these has no fault, where no row has one
none-at : {X : Type 0} (f : List X → X → List DescFault) (xs earlier : List X) (x : X) (later : List X) → xs ≡ earlier ++ x ∷ later → each f xs ≡ [] → f earlier x ≡ []
none-at f xs earlier x later split none =
    front-none (f earlier x) _ (behind-none (each f earlier) _ (sym (each_after-append f [] earlier (x ∷ later)) ∙ ap (each f) (sym split) ∙ none))

module _ (plan : Plan) (accepted : IsAccepted plan) where
  abbrev made : Plan
  made = plan_of accepted.rows

  links-good : not_links made ≡ []
  links-good = behind-none (unknown_names accepted.rows ++ double_names made) (not_links made) (front-none _ (not_trees made) (front-none _ (too_many made) accepted.stands.none))

  trees-good : not_trees made ≡ []
  trees-good = behind-none (unknown_names accepted.rows ++ double_names made ++ not_links made) (not_trees made) (front-none _ (too_many made) accepted.stands.none)

  -- each virtual link
  pub routed : (vl : VlPlan) → Contains plan.vls vl → IsRouted plan vl
  routed vl there =
      let linked : each (no_link_at_vl made.links) made.vls ≡ [] = behind-none (each (no_link_at_link made.nodes) made.links ++ each (no_link_at_outage made.links) made.outages) _ links-good in
      let in_rows : All (IsRouted made) made.vls = All-from_recursion (IsRouted made) made.vls (all-routed made [] made.vls trees-good linked) in
      let one : IsRouted made vl = All-contains (IsRouted made) plan.vls vl (All-permutation (IsRouted made) made.vls plan.vls accepted.stands.vls in_rows) there in
      record {
        trees = λ net. subst (λ (nodes : List NodePlan). is_no_tree nodes net (paths_on net vl) ≡ false) (sym accepted.stands.nodes) (one.trees net);
        linked = λ net. subst (λ (links : List Link). has_gap links (paths_on net vl) ≡ false) (sym accepted.stands.links) (one.linked net);
      }

  doubles-none : each double_at_link made.links ≡ []
  doubles-none =
      let double : double_names made ≡ [] = behind-none (unknown_names accepted.rows) (double_names made) (front-none _ _ (front-none _ _ (front-none _ _ accepted.stands.none))) in
      behind-none (each double_at_node made.nodes) _ (front-none _ (each double_at_vl made.vls) double)

  -- and its links
  pub links : AreLinks plan
  links earlier link later split =
      let allowed : each (no_link_at_link made.nodes) made.links ≡ [] =
      front-none _ (each (no_link_at_outage made.links) made.outages) (front-none _ (each (no_link_at_vl made.links) made.vls) links-good) in
      let here = none-at (no_link_at_link made.nodes) made.links earlier link later (sym accepted.stands.links ∙ split) allowed in
      record {
        may = subst (λ (nodes : List NodePlan). is_no_link nodes earlier link ≡ false) (sym accepted.stands.nodes) (when-none _ _ here);
        apart = when-none _ _ (none-at double_at_link made.links earlier link later (sym accepted.stands.links ∙ split) doubles-none);
      }
