-- The results of checks, the contents of a map of ways, and room for both.
use Rattle.std.specs.Prelude.{ℕ, ◌≡◌, ◌==◌, ⊤, Bool, List, [], Option, Some, Result, Ok, Err, Contains}
use Rattle.std.specs.HashMap.{HashMap, get}
use Rattle.network_rows.specs.declared.fault.DescFault.{DescFault}
use Rattle.network.specs.declared.wiring.Hop.{Hop}
use Rattle.network.specs.Faults.{Tells}
use Rattle.network_paths.specs.declared.trees.Room.{Room}

-- there is none of these faults, or the first one is told
abbrev pub Finds : {X : Type 0} → Result X DescFault → List DescFault → Type 0
Finds (Ok x) faults = faults ≡ []
Finds (Err fault) faults = Tells fault faults

-- a test, or memory was refused
abbrev pub Tests : {E : Type 0} → Result Bool E → Bool → Type 0
Tests (Ok answer) test = answer ≡ test
Tests (Err refused) test = ⊤

-- for each node that one of these hops leads to, the node that all of them lead there from
abbrev pub AreWaysBy : (ℕ → Option ℕ) → List Hop → Type 0
AreWaysBy from_of hops = ((s : Hop) → Contains hops s → from_of s.to ≡ Some s.from)
    × ((to from : ℕ) → from_of to ≡ Some from → Contains hops (record { from = from; to = to }))

-- the map has them
abbrev pub AreWays : {S : Type 0} → HashMap ℕ ℕ S → List Hop → Type 0
AreWays ways hops = AreWaysBy (get (λ x y. x == y) ways) hops

-- nothing was found out in this room yet
abbrev pub IsFresh : Room → Type 0
IsFresh room = (room.ends.items ≡ []) × (room.seen.keys ≡ []) × (room.hops.items ≡ []) × (room.ways.entries ≡ [])
