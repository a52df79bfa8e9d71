-- Nodes and the links between them.
use Rattle.std.specs.Prelude.{ℕ, ◌==◌, ◌&&◌, ◌||◌, Bool, true, false, List, Option, Some, None, slice_get}
use Rattle.std.specs.List.{list_any}
use Rattle.vlink.specs.declared.frame.Net.{Net}
use Rattle.vlink.specs.declared.frame.Net.TheVariants.{A, B}
use Rattle.row_types.specs.declared.rows.NodeKind.{NodeKind}
use Rattle.row_types.specs.declared.rows.NodeKind.TheVariants.{EndSystem, Switch}
use Rattle.network.specs.declared.wiring.Link.{Link}
use Rattle.network.specs.Rows.{place_by}
use Rattle.network.specs.Plan.{NodePlan}

abbrev pub is_same_net : Net → Net → Bool
is_same_net A A = true
is_same_net A B = false
is_same_net B A = false
is_same_net B B = true

abbrev pub is_end_kind : NodeKind → Bool
is_end_kind EndSystem = true
is_end_kind (Switch net latency_ns) = false

-- a switch, of this network
abbrev pub is_switch_kind : Net → NodeKind → Bool
is_switch_kind net EndSystem = false
is_switch_kind net (Switch own latency_ns) = is_same_net own net

-- what there is at the place, passes
abbrev pub passes : {X : Type 0} → (X → Bool) → Option X → Bool
passes test None = false
passes test (Some x) = test x

-- the node there is an end system; is a switch of this network
abbrev pub is_end_system : List NodePlan → ℕ → Bool
is_end_system nodes n = passes (λ node. is_end_kind node.kind) (slice_get nodes n)

abbrev pub is_switch_of : List NodePlan → Net → ℕ → Bool
is_switch_of nodes net n = passes (λ node. is_switch_kind net node.kind) (slice_get nodes n)

-- the link goes between these two nodes, in one direction or the other
abbrev pub goes : ℕ → ℕ → Link → Bool
goes x y link = (link.a == x) && (link.b == y)

abbrev pub joins : ℕ → ℕ → Link → Bool
joins x y link = goes x y link || goes y x link

abbrev pub is_linked : List Link → ℕ → ℕ → Bool
is_linked links x y = list_any (joins x y) links

-- the place of the link that joins them
abbrev pub link_between : List Link → ℕ → ℕ → Option ℕ
link_between links x y = place_by (joins x y) links

-- the link leads from the node to a switch of this network
abbrev pub leads : List NodePlan → Net → ℕ → Link → Bool
leads nodes net node link = ((link.a == node) && is_switch_of nodes net link.b) || ((link.b == node) && is_switch_of nodes net link.a)

-- the link behind these is the second one of an end system on this network
abbrev pub is_second : List NodePlan → Net → List Link → Link → Bool
is_second nodes net earlier link =
    (is_end_system nodes link.a && is_switch_of nodes net link.b && list_any (leads nodes net link.a) earlier)
    || (is_end_system nodes link.b && is_switch_of nodes net link.a && list_any (leads nodes net link.b) earlier)

-- a link that may not be: of a node to itself, of two end systems, of two switches of different networks, or the second one of an end system on one network
abbrev pub is_no_link : List NodePlan → List Link → Link → Bool
is_no_link nodes earlier link =
    (link.a == link.b)
    || (is_end_system nodes link.a && is_end_system nodes link.b)
    || (is_switch_of nodes A link.a && is_switch_of nodes B link.b)
    || (is_switch_of nodes B link.a && is_switch_of nodes A link.b)
    || is_second nodes A earlier link
    || is_second nodes B earlier link
