-- The worlds of a network, and the rows that are committed in one.
use Rattle.std.specs.Prelude.{◌≡◌, ℕ, List, map}
use Rattle.vlink.specs.declared.message.Message.{Message}
use Rattle.vlink.specs.Letters.{Row}
use Rattle.virtual_time.specs.Law.{rowed, rows_at, World, start, run}
use Rattle.virtual_time.specs.declared.step.Step.{Step}
use Rattle.network.specs.Words.{Plan}
use Rattle.nodes.specs.Words.{NodeState, opening, simulation_of}

-- the world of a network after these steps, done one after another from the start
abbrev pub after : Plan → List Step → World Message NodeState
after plan steps = run (simulation_of plan) steps (start (simulation_of plan))

-- at each process the rows are those of its committed events, in their order
abbrev pub AreCommittedRows : Plan → List Step → List Row → Type 0
AreCommittedRows plan steps rows =
    (p : ℕ) → rows_at p rows ≡ rowed (simulation_of plan).rules (opening plan p) ((after plan steps).parts p).committed
