-- For proofs alone: ways at a node, taken together by their virtual links.
use Rattle.std.specs.Prelude.{ℕ, ◌==◌, if◌then◌else◌, List, [], ◌∷◌, Option, slice_get, flat_map, option_map, option_and_then, option_to_list}
use Rattle.network.specs.declared.wiring.Way.{Way}
use Rattle.network.specs.Words.{Plan, VlPlan, place_of_vl}
use Rattle.nodes.specs.declared.opening.meeting.Meeting.{Meeting}
use Rattle.nodes.specs.rules.Meeting.{ports_by}

-- neighbours of one virtual link make a group
abbrev pub grouped : Way → List (List Way) → List (List Way)
grouped way [] = (way ∷ []) ∷ []
grouped way ([] ∷ others) = (way ∷ []) ∷ [] ∷ others
grouped way ((next ∷ group) ∷ others) =
    if way.vl.0 == next.vl.0
    then (way ∷ next ∷ group) ∷ others
    else (way ∷ []) ∷ (next ∷ group) ∷ others

abbrev pub groups : List Way → List (List Way)
groups [] = []
groups (way ∷ ways) = grouped way (groups ways)

-- the virtual link with this number
abbrev pub vl_with : List VlPlan → ℕ → Option VlPlan
vl_with vls id = option_and_then (slice_get vls) (place_of_vl vls id)

-- the virtual link of a group, with the ports of the group
abbrev pub met_by : List Way → ℕ → VlPlan → Meeting
met_by group first vl = record { link = vl.link; first = first; ports = ports_by group }

abbrev pub met : Plan → List Way → List Meeting
met plan [] = []
met plan (way ∷ ways) = option_to_list (option_map (met_by (way ∷ ways) way.port) (vl_with plan.vls way.vl.0))

-- those of all groups
abbrev pub all_met : Plan → List Way → List Meeting
all_met plan ways = flat_map (met plan) (groups ways)
