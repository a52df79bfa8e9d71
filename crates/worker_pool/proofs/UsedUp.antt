-- Where numbers are used up in a run of the simulation that a network gives, they are in a run of the network.
use Rattle.std.proofs.Common.{ℕ, List}
use Rattle.network.specs.Words.{Plan}
use Rattle.nodes.specs.Words.{simulation_of}
use Rattle.group_end.specs.Together.{UsesUp}
use Rattle.group_turns.specs.Numbers.{UsesUpNumbers}

pub uses-up : (plan : Plan) (owners : List ℕ) → UsesUp (simulation_of plan) owners → UsesUpNumbers plan
uses-up plan owners u = record { steps = u.steps; process = u.process; within = u.within; lacking = u.wanting }
