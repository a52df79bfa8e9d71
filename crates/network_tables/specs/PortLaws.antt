-- Where a virtual link is configured at a node: the ports by which it enters and leaves, and its paths.
use Rattle.std.specs.Prelude.{ℕ, ◌≡◌, false, true, List, ◌∷◌, ◌++◌, Contains}
use Rattle.vlink.specs.declared.frame.Net.{Net}
use Rattle.vlink.specs.declared.frame.Net.TheVariants.{A, B}
use Rattle.network.specs.declared.wiring.Link.{Link}
use Rattle.network.specs.declared.wiring.Way.{Way}
use Rattle.network.specs.Plan.{Plan, VlPlan}
use Rattle.network.specs.Wiring.{is_end_system, joins}
use Rattle.network.specs.Lines.{port_at, lines_of, leaves, comes_in}

-- ---- where it is configured

-- at this port of the node the virtual link comes in; by this one it leaves. These are the ways by which a process is configured
abbrev pub IsInput : Plan → VlPlan → ℕ → ℕ → Type 0
IsInput plan vl node port = Contains (comes_in node (lines_of plan) plan.links vl) (record { vl = vl.link.id; port = port })

abbrev pub IsOutput : Plan → VlPlan → ℕ → ℕ → Type 0
IsOutput plan vl node port = Contains (leaves node (lines_of plan) plan.links vl) (record { vl = vl.link.id; port = port })

-- ---- what its paths say

-- the paths of a virtual link on a network
abbrev pub paths_on : Net → VlPlan → List (List ℕ)
paths_on A vl = vl.a
paths_on B vl = vl.b

-- on a path a node is the predecessor of another one, which is its successor
pub record IsPredecessor (path : List ℕ) (node next : ℕ) : Type 0 where
  pub before : List ℕ
  pub behind : List ℕ
  pub split : path ≡ before ++ node ∷ next ∷ behind

-- it is so on a path of the virtual link on this network
pub record Precedes (net : Net) (vl : VlPlan) (node next : ℕ) : Type 0 where
  pub path : List ℕ
  pub is_path : Contains (paths_on net vl) path
  pub neighbours : IsPredecessor path node next

-- the port of a node that faces another node: that of the link which joins them, numbered behind the earlier links
pub record Faces (plan : Plan) (node port other : ℕ) : Type 0 where
  pub earlier : List Link
  pub link : Link
  pub later : List Link
  pub links : plan.links ≡ earlier ++ link ∷ later
  pub joined : joins node other link ≡ true
  pub number : port ≡ port_at plan.nodes earlier node other

-- the port faces the node's predecessor on a path of the virtual link; it faces a successor
pub record FacesPredecessor (plan : Plan) (vl : VlPlan) (node port : ℕ) : Type 0 where
  pub net : Net
  pub predecessor : ℕ
  pub precedes : Precedes net vl predecessor node
  pub faces : Faces plan node port predecessor

pub record FacesSuccessor (plan : Plan) (vl : VlPlan) (node port : ℕ) : Type 0 where
  pub net : Net
  pub successor : ℕ
  pub precedes : Precedes net vl node successor
  pub faces : Faces plan node port successor

-- the way stands in a node's table of arrivals: its port faces a predecessor on a path of the virtual link of the network with its number;
-- in that of departures: a successor
pub record IsArrival (plan : Plan) (node : ℕ) (way : Way) : Type 0 where
  pub vl : VlPlan
  pub is_vl : Contains plan.vls vl
  pub id : way.vl ≡ vl.link.id
  pub faces : FacesPredecessor plan vl node way.port

pub record IsDeparture (plan : Plan) (node : ℕ) (way : Way) : Type 0 where
  pub vl : VlPlan
  pub is_vl : Contains plan.vls vl
  pub id : way.vl ≡ vl.link.id
  pub faces : FacesSuccessor plan vl node way.port

-- ---- switches and end systems

-- the virtual link goes through this switch: the node is on a path of it, and is no end system
pub record GoesThrough (plan : Plan) (vl : VlPlan) (node : ℕ) : Type 0 where
  pub net : Net
  pub path : List ℕ
  pub is_path : Contains (paths_on net vl) path
  pub on_path : Contains path node
  pub switch : is_end_system plan.nodes node ≡ false

-- exactly one number is such
pub record ExactlyOne (Is : ℕ → Type 0) : Type 0 where
  pub one : ℕ
  pub is : Is one
  pub only : (other : ℕ) → Is other → other ≡ one

-- the port of an end system for a network
abbrev pub port_for : Net → ℕ
port_for A = 0
port_for B = 1
