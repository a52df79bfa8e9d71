use Rattle.std.proofs.Common.{◌≡◌, ◌<◌, true, false, length, take, get_or, arith, ap, sym, ◌∙◌, refl, inr, Some, bytes_eq}
use Rattle.std.proofs.lemmas.List.{length-map}
use Rattle.std.proofs.lemmas.Slice.Eq.{bytes_eq-Decides}
use Rattle.network_rows.specs.declared.fault.DescFault.TheVariants.{DoubleName}
use Rattle.network.specs.Words.{names_of, is_among, place_among, node_plan, double_at_node}
use Rattle.network.proofs.EachLemmas.{Tells-mapped, none-mapped, length-before-mapped, read-map}
use Rattle.network_faults.proofs.NameLemmas.{names_of-before}
use Rattle.network.proofs.PlaceLemmas.{place_by-before}
use Rattle.network_faults.proofs.double.check_nodes.Goals as goal

pub returns-then-first-i : goal.returns-then-first-i
returns-then-first-i c =
    let nodes = c.args.names.now.nodes.now in
    let i = c.loop-i.i in
    let node = c.node-item.result in
    let lt : i < length nodes = omega arith in
    let at = length-before-mapped node_plan nodes i lt in
    let early = place_by-before (bytes_eq node.name) (names_of nodes) i node.name c.number.result (omega (arith, length-map nodes (λ node. node.name))) ((bytes_eq-Decides node.name (get_or (names_of nodes) i node.name)).1 (read-map (λ node. node.name) nodes i node lt c.node-item.is)) (c.number.ensures.place ∙ ap (λ q. place_among (names_of nodes) q) c.as_str.ensures) in
    let there : is_among (take i (names_of nodes)) node.name ≡ true = early.0 (omega (arith, c.unwrap_or-first.ensures)) in
    Tells-mapped double_at_node node_plan nodes i node _ lt c.node-item.is c.loop-i.invariant
    (inr (rw (names_of-before nodes i, there) (ap (λ p. Some (DoubleName p)) (rw at (sym c.key_at.ensures)))))

pub loop-i-preserved : goal.loop-i-preserved
loop-i-preserved c =
    let nodes = c.args.names.now.nodes.now in
    let i = c.loop-i.i in
    let node = c.node-item.result in
    let lt : i < length nodes = omega arith in
    let early = place_by-before (bytes_eq node.name) (names_of nodes) i node.name c.number.result (omega (arith, length-map nodes (λ node. node.name))) ((bytes_eq-Decides node.name (get_or (names_of nodes) i node.name)).1 (read-map (λ node. node.name) nodes i node lt c.node-item.is)) (c.number.ensures.place ∙ ap (λ q. place_among (names_of nodes) q) c.as_str.ensures) in
    let absent : is_among (take i (names_of nodes)) node.name ≡ false = early.1 (omega (arith, c.unwrap_or-first.ensures)) in
    none-mapped double_at_node node_plan nodes i node lt c.node-item.is c.loop-i.invariant (rw (names_of-before nodes i, absent) refl)
