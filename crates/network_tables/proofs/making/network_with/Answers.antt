use Rattle.std.proofs.Common.{◌≡◌, length, map, ap, sym, ◌∙◌, subst, arith, All}
use Rattle.std.proofs.lemmas.List.{length-map}
use Rattle.network.specs.Words.{names_of, node_plan, link_plan, plan_of, plan_with, AreTables}
use Rattle.network.proofs.BuildLemmas.{EndsWithin, links-within, few-processes}
use Rattle.network_tables.proofs.making.network_with.Goals as goal

pub tables_of-requires-clause-ends : goal.tables_of-requires-clause-ends
tables_of-requires-clause-ends c =
    let accepted = c.requires in
    let rows = accepted.rows in
    let names = names_of rows.nodes in
    let nodes = c.args.nodes.items in
    let count : length names ≡ length c.as_slice.result.now =
    length-map rows.nodes (λ node. node.name) ∙ sym (length-map rows.nodes node_plan) ∙ sym (ap length accepted.stands.nodes) ∙ length-map nodes node_plan ∙ ap length (sym c.as_slice.ensures.value) in
    subst (All (EndsWithin (length c.as_slice.result.now))) (sym accepted.stands.links) (subst (λ n. All (EndsWithin n) (map (link_plan names) rows.links)) count (links-within names rows.links))

pub tables_of-requires-clause-few : goal.tables_of-requires-clause-few
tables_of-requires-clause-few c =
    let accepted = c.requires in
    let rows = accepted.rows in
    let links_are : length c.args.numbered.links.items ≡ length (plan_of rows).links = ap length accepted.stands.links in
    let count : length (plan_of rows).nodes ≡ length c.as_slice.result.now =
    sym (ap length accepted.stands.nodes) ∙ length-map c.args.nodes.items node_plan ∙ ap length (sym c.as_slice.ensures.value) in
    omega (arith, few-processes rows accepted.stands.none, links_are, count)

pub new-requires-clause-tables : goal.new-requires-clause-tables
new-requires-clause-tables c =
    subst (λ nodes. AreTables (plan_with c.args.until c.args.seed nodes c.args.numbered) c.in_ok-tables.tables) c.as_slice.ensures.value (c.in_ok-tables.ensures c.args.until c.args.seed)
