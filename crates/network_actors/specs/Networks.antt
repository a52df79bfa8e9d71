-- The one-thread run of a network: its setting, and what a run of all its events has found.
use Rattle.std.specs.Prelude.{◌≡◌, ℕ, [], List}
use Rattle.vlink.specs.Letters.{Row}
use Rattle.virtual_time.specs.Law.{one}
use Rattle.reverse.specs.Setting.{Setting}
use Rattle.network.specs.Words.{Plan, process_count}
use Rattle.traffic.specs.Offers.{offers_of}
use Rattle.nodes.specs.Words.{NodeState, opening, simulation_of}

-- what a network simulates, but for the rules of its nodes and lines
abbrev pub setting_of : Plan → Setting NodeState
setting_of plan =
    record {
      processes = process_count plan;
      until = plan.until;
      opening = opening plan;
      offers = offers_of plan;
    }

-- in the one-thread run of the network, after some number of events nothing waits any more, and these are its rows
abbrev pub AreRowsOf : Plan → List Row → Type 0
AreRowsOf plan rows =
    (n : ℕ) × ((one (simulation_of plan) n).waiting ≡ []) × (rows ≡ (one (simulation_of plan) n).rows)
