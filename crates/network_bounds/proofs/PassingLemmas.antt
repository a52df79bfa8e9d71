-- The virtual links that leave a node, one after another.
use Rattle.std.proofs.Common.{◌≡◌, ℕ, Bool, [], ◌∷◌, List, Option, Some, None, refl, ap, ◌∙◌, slice_get, option_map, eq-eqb, if◌then◌else◌}
use Rattle.std.specs.Prelude.{slice_index_or}
use Rattle.std.specs.Option.{option_map_or}
use Rattle.network.specs.declared.wiring.Way.{Way}
use Rattle.network.specs.Words.{Plan, VlPlan, is_end_system, place_of_vl}
use Rattle.row_types.specs.declared.rows.VirtualLink.{VirtualLink}
use Rattle.network_bounds.specs.declared.passing.Passing.{Passing}
use Rattle.network_bounds.specs.declared.sizes.LinkSizes.{LinkSizes}
use Rattle.network_bounds.specs.Passing.{input_of, passing_at, passing_of, sizes_at}
use Rattle.network_bounds.specs.Sizes.{LEAST, one_size, sizes_by}

-- the sizes of the virtual link at a place
abbrev pub sizes_there : List LinkSizes → ℕ → LinkSizes
sizes_there all place = slice_index_or all place (record { sent = one_size LEAST; passed = one_size LEAST })

-- the virtual link of a way, with the sizes that count at the node
abbrev pub met_there : Plan → List LinkSizes → ℕ → ℕ → Way → VirtualLink → Passing
met_there plan all n place way link = record {
  link = link;
  sizes = sizes_at (is_end_system plan.nodes n) (sizes_there all place);
  input = input_of plan n way.vl.0;
}

-- it is found by its number
pub met : (plan : Plan) (all : List LinkSizes) (n place : ℕ) (way : Way) (link : VirtualLink) → place_of_vl plan.vls way.vl.0 ≡ Some place →
    option_map (λ vl. vl.link) (slice_get plan.vls place) ≡ Some link → passing_of (sizes_by plan all) plan n way ≡ met_there plan all n place way link ∷ []
met plan all n place way link at is = go (place_of_vl plan.vls way.vl.0) (slice_get plan.vls place) at refl is
  where
    sizes : place_of_vl plan.vls way.vl.0 ≡ Some place → sizes_by plan all way.vl.0 ≡ sizes_there all place
    sizes at = ap (λ o. option_map_or (sizes_there all) o (record { sent = one_size LEAST; passed = one_size LEAST })) at

    go : (o : Option ℕ) (vl : Option VlPlan) → place_of_vl plan.vls way.vl.0 ≡ Some place → slice_get plan.vls place ≡ vl → option_map (λ vl. vl.link) vl ≡ Some link →
        passing_of (sizes_by plan all) plan n way ≡ met_there plan all n place way link ∷ []
    go o None at read is = absurd (cc)
    go o (Some vl) at read is =
        rw at (rw read (let e : vl.link ≡ link = cc in rw e (ap (λ s. record { link = link; sizes = sizes_at (is_end_system plan.nodes n) s; input = input_of plan n way.vl.0 } ∷ []) (sizes at))))

-- which leaves by this port
pub met-at : (plan : Plan) (all : List LinkSizes) (n q place : ℕ) (way : Way) (link : VirtualLink) → way.port ≡ q → place_of_vl plan.vls way.vl.0 ≡ Some place →
    option_map (λ vl. vl.link) (slice_get plan.vls place) ≡ Some link → passing_at (sizes_by plan all) plan n q way ≡ met_there plan all n place way link ∷ []
met-at plan all n q place way link by at is =
    ap (λ (b : Bool). if b then passing_of (sizes_by plan all) plan n way else []) (eq-eqb way.port q by) ∙ met plan all n place way link at is
