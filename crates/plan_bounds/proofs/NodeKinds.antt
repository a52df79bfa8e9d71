-- Each node of a network is an end system or a switch.
use Rattle.std.proofs.Common.{◌≡◌, ℕ, ◌<◌, ◌⊎◌, true, false, length, Option, Some, None, inl, inr, refl, ap, sym, ◌∙◌, arith, slice_get}
use Rattle.std.specs.Option.{option_map_or}
use Rattle.row_types.specs.declared.rows.NodeKind.{NodeKind}
use Rattle.row_types.specs.declared.rows.NodeKind.TheVariants as kind
use Rattle.network.specs.Words.{NodePlan, Plan, is_end_kind, is_end_system, passes}
use Rattle.nodes.specs.declared.equipment.Equipment.TheVariants as equipment
use Rattle.nodes.specs.rules.EndSystem.{EndSystemState}
use Rattle.nodes.specs.rules.Opening.{end_system_opening, equipment_opening, node_opening, opening, switch_opening}
use Rattle.nodes.specs.rules.Switch.{SwitchState}
use Rattle.plan_ports.proofs.Ahead.{none-past}
use Rattle.network_bounds.specs.Ages.{latency_in, latency_of}

pub record IsEndAt (plan : Plan) (p : ℕ) : Type 0 where
  pub state : EndSystemState
  pub is : (opening plan p).equipment ≡ equipment.EndSystem state
  pub end : is_end_system plan.nodes p ≡ true

pub record IsSwitchAt (plan : Plan) (p : ℕ) : Type 0 where
  pub state : SwitchState
  pub is : (opening plan p).equipment ≡ equipment.Switch state
  pub no_end : is_end_system plan.nodes p ≡ false
  pub latency : state.latency ≡ latency_of plan p

pub node-kind : (plan : Plan) (p : ℕ) → p < length plan.nodes → IsEndAt plan p ⊎ IsSwitchAt plan p
node-kind plan p lt = go (slice_get plan.nodes p) refl
  where
    at : (node : NodePlan) → slice_get plan.nodes p ≡ Some node → (k : NodeKind) → node.kind ≡ k → IsEndAt plan p ⊎ IsSwitchAt plan p
    at node there kind.EndSystem is = inl (record {
      state = end_system_opening plan p node.port_bytes;
      is = ap (equipment_opening plan p) there ∙ ap (λ k. node_opening plan p node.port_bytes k) is;
      end = ap (passes (λ (node : NodePlan). is_end_kind node.kind)) there ∙ ap is_end_kind is;
    })
    at node there (kind.Switch net latency_ns) is = inr (record {
      state = switch_opening plan p latency_ns node.port_bytes;
      is = ap (equipment_opening plan p) there ∙ ap (λ k. node_opening plan p node.port_bytes k) is;
      no_end = ap (passes (λ (node : NodePlan). is_end_kind node.kind)) there ∙ ap is_end_kind is;
      latency = sym (ap (λ o. option_map_or (λ (node : NodePlan). latency_in node.kind) o 0) there ∙ ap latency_in is);
    })

    go : (o : Option NodePlan) → slice_get plan.nodes p ≡ o → IsEndAt plan p ⊎ IsSwitchAt plan p
    go None there = absurd (omega (arith, lt, none-past plan.nodes p there))
    go (Some node) there = at node there node.kind refl
