-- What each line of the bounds says of a run of a network, column by column.
use Rattle.std.specs.Prelude.{◌≡◌, ℕ, ◌+◌, ◌≤◌, All, Contains, List, ◌++◌, flat_map, slice_get, Some, true, ⊤}
use Rattle.vlink.specs.Letters.{Row}
use Rattle.vlink.specs.declared.frame.Frame.{Frame}
use Rattle.vlink.specs.declared.frame.VlId.{VlId}
use Rattle.vlink.specs.declared.message.Body.TheVariants.{Arrive}
use Rattle.vlink.specs.declared.note.Note.TheVariants.{Delivered}
use Rattle.virtual_time.specs.Law.{Laws, one}
use Rattle.network.specs.declared.wiring.LinePlan.{LinePlan}
use Rattle.network.specs.Words.{IsAccepted, Plan, VlPlan, is_end_system, lines_of, source_of}
use Rattle.nodes.specs.declared.ports.Outlet.{Outlet}
use Rattle.nodes.specs.rules.Opening.{opening}
use Rattle.nodes.specs.Words.{simulation_of}
use Rattle.port_turns.specs.PortEvents.{outlet_in}
use Rattle.seqsim.specs.Networks.{setting_of}
use Rattle.least_ages.specs.Ports.{TakesAll, asked_in, waiting_in}
use Rattle.network_bounds.specs.Ages.{wait_of}
use Rattle.network_bounds.specs.Said.{LinkBound, PortBytes, Said, said_line}
use Rattle.network_bounds.specs.Said.Said.{Bound, NoBound, NoRoom, Port}
use Rattle.network_bounds.specs.Text.{IsBoundsText, bounds_head}
use Rattle.network_bounds.specs.declared.sizes.Senders.TheVariants.{AsStated, ByContract}
use Rattle.network_bounds.specs.Sizes.{sizes_in}
use Rattle.plan_bounds.specs.Contract.{KeepsItsSizes, agreed_of}
use Rattle.plan_bounds.specs.Shapes.{shape_of}

-- ---- lines of virtual links

-- the row reports that a frame of virtual link v was delivered at node n, so long after its offer
pub record IsDelivery (row : Row) (v n latency : ℕ) : Type 0 where
  pub place : row.place ≡ n
  pub vl : VlId
  pub link : vl.0 ≡ v
  pub note : row.note ≡ Delivered vl latency

-- the regulator of the virtual link holds frames no longer than the line says: WAIT_NS is that of the streams that the network states
abbrev pub IsHeldSo : Plan → LinkBound → Type 0
IsHeldSo plan b = (vl : VlPlan) → Contains plan.vls vl → vl.link.id.0 ≡ b.link → wait_of plan vl.link ≤ b.wait_ns

-- the frame that was delivered, from its offer and from its release on, as each column says
pub record IsDeliveredSo (plan : Plan) (b : LinkBound) (row : Row) (latency : ℕ) : Type 0 where
  pub port : ℕ
  pub frame : Frame
  pub came : row.message.body ≡ Arrive port frame
  pub since : frame.offered + latency ≡ row.message.time
  pub released : frame.offered ≤ frame.released
  pub network_ns : row.message.time ≤ frame.released + b.network_ns
  pub wait_ns : IsHeldSo plan b → frame.released ≤ frame.offered + b.wait_ns
  pub bound_ns : IsHeldSo plan b → latency ≤ b.bound_ns
  pub least_ns : b.least_ns ≤ latency

-- however many events the run has handled
pub record HoldsOfLink (plan : Plan) (b : LinkBound) : Type 0 where
  pub delivered : (events : ℕ) (row : Row) → Contains (one (simulation_of plan) events).rows row → (latency : ℕ) → IsDelivery row b.link b.place latency → IsDeliveredSo plan b row latency
  pub jitter_ns : IsHeldSo plan b → (events : ℕ) (row other : Row) → Contains (one (simulation_of plan) events).rows row → Contains (one (simulation_of plan) events).rows other →
      (latency another : ℕ) → IsDelivery row b.link b.place latency → IsDelivery other b.link b.place another → latency ≤ another + b.jitter_ns

-- ---- lines of ports

-- what stands before line `line` of the network
pub record IsBefore (plan : Plan) (k : ℕ) (line : LinePlan) (outlet : Outlet) : Type 0 where
  pub read : slice_get (lines_of plan) k ≡ Some line
  pub there : outlet_in (opening plan line.from).equipment line.from_port ≡ Some outlet

-- however many events the run has handled, so many bytes wait at the port at most: without gaps, and without the frame in transmission. Where the line says
-- `yes` the port drops no frame, whatever the other ports of its node do
pub record HoldsOfPort (plan : Plan) (p : PortBytes) : Type 0 where
  pub bytes : (line : LinePlan) (outlet : Outlet) → IsBefore plan p.line line outlet → (events : ℕ) → waiting_in (setting_of plan) line.from line.from_port outlet events ≤ p.bytes
  pub holds : p.holds ≡ true → (line : LinePlan) (outlet : Outlet) → IsBefore plan p.line line outlet → (events : ℕ) → TakesAll outlet.port (asked_in (setting_of plan) line.from line.from_port events)

-- ---- all lines

abbrev pub HoldsOf : Plan → Said → Type 0
HoldsOf plan (Bound b) = HoldsOfLink plan b
HoldsOf plan (Port p) = HoldsOfPort plan p
HoldsOf plan (NoBound link place why) = ⊤
HoldsOf plan (NoRoom k why) = ⊤

-- by contract: the end system of a virtual link keeps its sizes, and of this virtual link offers none that is shorter than the least
abbrev pub KeepsLink : Plan → Plan → ℕ → Type 0
KeepsLink shape plan v =
    (known : VlPlan) → Contains shape.vls known → known.link.id.0 ≡ v → (vl : VlPlan) → Contains plan.vls vl → vl.link.id ≡ known.link.id →
    ((source : ℕ) × (source_of vl ≡ Some source) × KeepsItsSizes shape plan source) × ((sizes_in shape known.link).least ≤ (sizes_in plan vl.link).least)

-- and so does an end system of whose port a line speaks
abbrev pub KeepsPort : Plan → Plan → ℕ → Type 0
KeepsPort shape plan k = (line : LinePlan) → slice_get (lines_of shape) k ≡ Some line → is_end_system shape.nodes line.from ≡ true → KeepsItsSizes shape plan line.from

abbrev pub HoldsByContract : Plan → Plan → Said → Type 0
HoldsByContract shape plan (Bound b) = KeepsLink shape plan b.link → HoldsOfLink plan b
HoldsByContract shape plan (Port p) = KeepsPort shape plan p.line → HoldsOfPort plan p
HoldsByContract shape plan (NoBound link place why) = ⊤
HoldsByContract shape plan (NoRoom k why) = ⊤

-- the text is the first line and one line for each of these, and each of them holds
pub record IsTrueText (shape : Plan) (text : List ℕ) (holds : Said → Type 0) : Type 0 where
  pub saids : List Said
  pub lines : text ≡ bounds_head ++ flat_map (said_line shape) saids
  pub hold : All holds saids

-- so it is of each text of bounds, in the run of each network of its shape
abbrev pub AreTextsTrue : Plan → Type 0
AreTextsTrue shape = (text : List ℕ) → IsBoundsText AsStated shape text → (plan : Plan) → IsAccepted plan → Laws (simulation_of plan) → shape_of plan ≡ shape_of shape → IsTrueText shape text (HoldsOf plan)

-- and of each text of bounds by contract, in the run of each network that agrees with it
abbrev pub AreContractTextsTrue : Plan → Type 0
AreContractTextsTrue shape =
    (text : List ℕ) → IsBoundsText ByContract shape text → (plan : Plan) → IsAccepted plan → Laws (simulation_of plan) → agreed_of plan ≡ agreed_of shape → IsTrueText shape text (HoldsByContract shape plan)
