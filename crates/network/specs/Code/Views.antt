-- What tables see of the code's vectors.
use Rattle.std.specs.Prelude.{ℕ, slice_index_or, List, [], map, Vec}
use Rattle.std.specs.declared.alloc.Global.{Global}
use Rattle.network.specs.declared.wiring.Outage.{Outage}
use Rattle.network.specs.declared.wiring.Way.{Way}

abbrev pub items_of : {X : Type 0} → Vec X Global → List X
items_of v = v.items

abbrev pub lists_of : {X : Type 0} → Vec (Vec X Global) Global → List (List X)
lists_of v = map items_of v.items

-- the list of a node
abbrev pub ways_at : Vec (Vec Way Global) Global → ℕ → List Way
ways_at table node = slice_index_or (lists_of table) node []

-- the outages of a line
abbrev pub outages_at : Vec (Vec Outage Global) Global → ℕ → List Outage
outages_at table k = slice_index_or (lists_of table) k []
