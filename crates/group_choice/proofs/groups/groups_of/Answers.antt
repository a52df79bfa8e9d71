use Rattle.std.proofs.Common.{◌≤◌, IfOk, subst}
use Rattle.std.proofs.lemmas.Result.{IfOk-weaker}
use Rattle.network.specs.Faults.{process_count}
use Rattle.group_choice.specs.Groups.{HaveProcesses}
use Rattle.group_choice.proofs.groups.groups_of.Goals as goal

pub returns-then-from-node_count-clause-used : goal.returns-then-from-node_count-clause-used
returns-then-from-node_count-clause-used c =
    subst (λ n. IfOk c.in_turn.result (λ places. c.args.groups ≤ n → HaveProcesses c.args.groups places.items)) c.process_count.ensures.value c.in_turn.ensures.used

pub returns-then-not-have_nodes-clause-used : goal.returns-then-not-have_nodes-clause-used
returns-then-not-have_nodes-clause-used c =
    subst (λ n. IfOk c.in_turn-then-not-have_nodes.result (λ places. c.args.groups ≤ n → HaveProcesses c.args.groups places.items))
    c.process_count-then-not-have_nodes.ensures.value c.in_turn-then-not-have_nodes.ensures.used

pub returns-clause-used : goal.returns-clause-used
returns-clause-used c =
    IfOk-weaker c.places_of-places.result _ (λ places. c.args.groups ≤ process_count c.args.network.now → HaveProcesses c.args.groups places.items)
    (λ places used few. used) c.places_of-places.ensures.used
