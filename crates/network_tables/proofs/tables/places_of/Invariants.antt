use Rattle.std.proofs.Common.{◌≡◌, ℕ, take, get_or, None}
use Rattle.network.specs.Words.{place_of_vl}
use Rattle.network_tables.proofs.tables.places_of.Given as goal

abbrev pub invariant-loop-i : goal.invariant-loop-i
invariant-loop-i l = (id : ℕ) → get_or l.places.items id None ≡ place_of_vl (take l.i l.vls) id
