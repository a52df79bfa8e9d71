use Rattle.std.proofs.Common.{◌≤◌, subst, arith}
use Rattle.std.proofs.lemmas.List.{length-map}
use Rattle.network.specs.declared.limits.TheConstants.{GREATEST_PROCESSES}
use Rattle.network.specs.Words.{node_plan, process_count}
use Rattle.network.proofs.BuildLemmas.{few-accepted}
use Rattle.network.proofs.network.Network.process_count.Goals as goal

pub overflow_add-len : goal.overflow_add-len
overflow_add-len c =
    omega (arith, few-accepted _ c.self.invariant.0, length-map c.self.inside.nodes.items node_plan, c.len.ensures, c.len-2.ensures)

pub process_number-requires : goal.process_number-requires
process_number-requires c =
    omega (arith, few-accepted _ c.self.invariant.0, length-map c.self.inside.nodes.items node_plan, c.len.ensures, c.len-2.ensures)

pub returns-clause-few : goal.returns-clause-few
returns-clause-few c = subst (λ plan. process_count plan ≤ GREATEST_PROCESSES) c.self.view_is (few-accepted _ c.self.invariant.0)
