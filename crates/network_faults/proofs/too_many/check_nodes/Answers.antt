use Rattle.std.proofs.Common.{◌≡◌, ℕ, ◌+◌, ◌<◌, List, [], None, subst, true, false, not, ◌&&◌, nat_lt, length, map, count_by, arith, ap, sym, ◌∙◌, inr, Some, slice_get}
use Rattle.std.proofs.lemmas.List.{get_or_read}
use Rattle.network_rows.specs.declared.key.Section.TheVariants.{Node}
use Rattle.network_rows.specs.declared.fault.DescFault.{DescFault}
use Rattle.network.specs.Words.{when, greatest_ports, NodePlan, node_plan, is_end_system, too_many_at_node, touches, Tells}
use Rattle.network_rows.specs.declared.fault.DescFault.TheVariants.{TooMany}
use Rattle.network.proofs.EachLemmas.{Tells-mapped, none-mapped, length-before-mapped}
use Rattle.network_faults.proofs.too_many.check_nodes.Goals as goal

-- what the node with this number has, where so many links name it
abbrev many_at : List NodePlan → ℕ → ℕ → List DescFault
many_at nodes n count = when (not (is_end_system nodes n) && nat_lt greatest_ports count) (TooMany (record { section = Node; row = Some (n + 1); key = None }))

pub returns-then-has_many_links : goal.returns-then-has_many_links
returns-then-has_many_links c =
    let rows = c.args.nodes.now in
    let nodes = map node_plan rows in
    let links = c.args.links.now in
    let i = c.loop-i.i in
    let lt : i < length rows = omega arith in
    let at = length-before-mapped node_plan rows i lt in
    let count : c.index-count.result.now ≡ count_by (touches i) links = get_or_read c.in_ok-counts.counts.items i c.index-count.result.now (omega (arith, c.in_ok-counts.ensures.len)) c.index-count.ensures 0 ∙ c.in_ok-counts.ensures.counts i lt in
    let bad : (not (is_end_system nodes i) && nat_lt greatest_ports c.index-count.result.now) ≡ true = sym c.has_many_links.ensures ∙ c.if-has_many_links.true in
    let told : slice_get (many_at nodes i c.index-count.result.now) 0 ≡ Some (TooMany c.row_at.result) =
    ap (λ b. slice_get (when b (TooMany (record { section = Node; row = Some (i + 1); key = None }))) 0) bad ∙ ap (λ p. Some (TooMany p)) (sym c.row_at.ensures) in
    Tells-mapped (too_many_at_node nodes links) node_plan rows i c.index-nodes-i.result _ lt c.index-nodes-i.is c.loop-i.invariant
    (subst (λ n. Tells (TooMany c.row_at.result) (many_at nodes n (count_by (touches n) links))) (sym at)
    (subst (λ k. Tells (TooMany c.row_at.result) (many_at nodes i k)) count (inr told)))

pub loop-i-preserved : goal.loop-i-preserved
loop-i-preserved c =
    let rows = c.args.nodes.now in
    let nodes = map node_plan rows in
    let links = c.args.links.now in
    let i = c.loop-i.i in
    let lt : i < length rows = omega arith in
    let at = length-before-mapped node_plan rows i lt in
    let count : c.index-count.result.now ≡ count_by (touches i) links = get_or_read c.in_ok-counts.counts.items i c.index-count.result.now (omega (arith, c.in_ok-counts.ensures.len)) c.index-count.ensures 0 ∙ c.in_ok-counts.ensures.counts i lt in
    let good : (not (is_end_system nodes i) && nat_lt greatest_ports c.index-count.result.now) ≡ false = sym c.has_many_links.ensures ∙ c.if-has_many_links.false in
    let none : many_at nodes i c.index-count.result.now ≡ [] = ap (λ b. when b (TooMany (record { section = Node; row = Some (i + 1); key = None }))) good in
    none-mapped (too_many_at_node nodes links) node_plan rows i c.index-nodes-i.result lt c.index-nodes-i.is c.loop-i.invariant
    (ap (λ n. many_at nodes n (count_by (touches n) links)) at ∙ ap (many_at nodes i) (sym count) ∙ none)
