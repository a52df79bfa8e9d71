-- When numbers are used up.
use Rattle.std.specs.Prelude.{◌≡◌, ℕ, ◌+◌, ◌<◌, true, List, IsSome}
use Rattle.vlink.specs.declared.message.Message.{Message}
use Rattle.vlink.specs.Order.{message_order}
use Rattle.vlink.specs.Numbering.{greatest_number}
use Rattle.virtual_time.specs.Law.{Part, next_of}
use Rattle.virtual_time.specs.declared.step.Step.{Step}
use Rattle.network.specs.Words.{Plan, process_count}
use Rattle.nodes.specs.Words.{NodeState, simulation_of}
use Rattle.nodes.specs.declared.node.NodeRecord.{NodeRecord}
use Rattle.seqsim.specs.Committed.{after}
use Rattle.group_exchange.specs.Views.{GroupState, in_group, is_of}
use Rattle.reverse.specs.declared.sends.TheConstants.{MOST_SENT}

-- a process has a message to handle, and its actor not enough numbers left for all that one event can send
abbrev pub LacksNumbers : Part Message NodeState → Type 0
LacksNumbers part = IsSome (next_of message_order part) × (greatest_number < part.state.sender.counter + MOST_SENT)

-- a process of the group lacks numbers, as the group has it in hand
abbrev pub LackNumbers : Plan → List ℕ → GroupState NodeState NodeRecord → Type 0
LackNumbers plan owners group = (p : ℕ) × (is_of owners group.number p ≡ true) × LacksNumbers ((in_group (simulation_of plan) group).parts p)

-- in some run of the network numbers are used up: after these steps this process lacks them
pub record UsesUpNumbers (plan : Plan) : Type 0 where
  pub steps : List Step
  pub process : ℕ
  pub within : process < process_count plan
  pub lacking : LacksNumbers ((after plan steps).parts process)
