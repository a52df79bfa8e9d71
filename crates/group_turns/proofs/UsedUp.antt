-- Where a process of a group in hand lacks numbers, some run uses up numbers: after the steps of the journal, and those of the group's block.
use Rattle.std.proofs.Common.{◌≡◌, ◌<◌, ℕ, List, true, sym, ap, subst}
use Rattle.virtual_time.specs.declared.step.Step.{Step}
use Rattle.network.specs.Words.{Plan, process_count}
use Rattle.nodes.specs.Words.{NodeState, simulation_of}
use Rattle.nodes.specs.declared.node.NodeRecord.{NodeRecord}
use Rattle.journal.specs.declared.fault.PoolFault.{PoolFault}
use Rattle.journal.specs.declared.fault.PoolFault.TheVariants.{Exhausted}
use Rattle.group_exchange.specs.Effects.{WorksSome}
use Rattle.group_exchange.specs.Keeps.{AreGrouped}
use Rattle.group_exchange.specs.Views.{GroupState, in_group, is_of}
use Rattle.group_exchange.proofs.Owners.{of-within}
use Rattle.seqsim.specs.Committed.{after}
use Rattle.group_turns.specs.Numbers.{LacksNumbers, LackNumbers, UsesUpNumbers}

pub used-up : (plan : Plan) (owners : List ℕ) (groups : ℕ) → AreGrouped (process_count plan) groups owners → (steps : List Step) (group : GroupState NodeState NodeRecord) →
    ((p : ℕ) → is_of owners group.number p ≡ true → (after plan steps).parts p ≡ (in_group (simulation_of plan) group).parts p) →
    LackNumbers plan owners group → UsesUpNumbers plan
used-up plan owners groups G steps group parts lack =
    record {
      steps = steps;
      process = lack.0;
      within = subst (λ n. lack.0 < n) G.each (of-within owners group.number lack.0 lack.1);
      lacking = subst LacksNumbers (sym (parts lack.0 lack.1)) lack.2;
    }

-- what a refused call of work tells
pub lacking-at : (plan : Plan) (owners : List ℕ) (window : ℕ) (h k : GroupState NodeState NodeRecord) (fault : PoolFault) → WorksSome (simulation_of plan) owners window h k fault →
    fault ≡ Exhausted → LackNumbers plan owners k
lacking-at plan owners window h k fault W e =
    let at = W.numbers e in
    (at.0, subst (λ g. is_of owners g at.0 ≡ true) (sym (ap (λ (z : GroupState NodeState NodeRecord). z.number) W.went.others)) at.1, at.2)
