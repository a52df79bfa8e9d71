-- The worlds of a network that a program holds.
use Rattle.std.specs.Prelude.{List}
use Rattle.virtual_time.specs.declared.step.Step.{Step}
use Rattle.network.specs.Words.{Plan}
use Rattle.nodes.specs.declared.node.NodeRecord.{NodeRecord}
use Rattle.nodes.specs.Words.{NodeState, IsNodeValue, simulation_of}
use Rattle.seqsim.specs.Committed.{after}
use Rattle.actor_world.specs.Worlds.{Holdings, StandsForWorld}

-- a network, and what is held of a world of it
pub record NetworkWorld : Type 0 where
  pub plan : Plan
  pub held : Holdings NodeState NodeRecord

-- what is held is the world of the network after these steps
abbrev pub IsAfter : NetworkWorld → List Step → Type 0
IsAfter world steps = StandsForWorld (simulation_of world.plan) IsNodeValue (after world.plan steps) world.held
