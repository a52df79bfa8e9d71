-- What a run by workers begins with.
use Rattle.std.specs.Prelude.{◌≡◌, ℕ, Bool, List}
use Rattle.network.specs.Words.{Plan}
use Rattle.worker_pool.specs.declared.start.Start.{Start}

-- this run begins so: with its network, its journal kept or not, its marks and its groups
abbrev pub BeginsRun : Plan → Bool → List ℕ → List ℕ → Start → Type 0
BeginsRun plan keeps names owners start =
    (start.network.now ≡ plan) × (start.keeps ≡ keeps) × (start.pairs ≡ names) × (start.grouping.owners.items ≡ owners)
