-- How many steps the journal of a run can have.
use Rattle.std.specs.Prelude.{ℕ, Bool, true, false}
use Rattle.network.specs.Words.{Plan}
use Rattle.nodes.specs.Words.{simulation_of}
use Rattle.group_exchange.specs.Effects.{CanDoMore}

-- so many steps the journal of a run can have: 2 to the power of 26 where it is kept, and of 62 where it is not
abbrev pub most_steps : Bool → ℕ
most_steps true = 67108864
most_steps false = 4611686018427387904

-- the network can take more steps than that, one after another
abbrev pub TakesMany : Plan → Bool → Type 0
TakesMany plan keeps = CanDoMore (simulation_of plan) (most_steps keeps)
