-- The virtual links of a network at its nodes, as they are when a run begins.
use Rattle.std.specs.Prelude.{◌≡◌, ℕ, ◌*◌, ◌/◌, ◌≤◌, All, [], Contains, Some, true}
use Rattle.std.specs.Option.{option_map_or}
use Rattle.vlink.specs.declared.frame.Net.TheVariants.{A, B}
use Rattle.vlink.specs.declared.message.Message.{Message}
use Rattle.vlink.specs.declared.message.Body.TheVariants.{Offer}
use Rattle.port_bounds.specs.Mixtures.{IsAmong}
use Rattle.network.specs.Words.{Plan, VlPlan, departures_of, id_of, source_of}
use Rattle.traffic.specs.Offers.{offers_of}
use Rattle.traffic.specs.Plain.{is_plain}
use Rattle.nodes.specs.declared.equipment.Equipment.TheVariants as equipment
use Rattle.nodes.specs.declared.opening.meeting.Side.TheVariants.{Out}
use Rattle.nodes.specs.declared.source.Source.{Source}
use Rattle.nodes.specs.declared.transit.Transit.{Transit}
use Rattle.nodes.specs.rules.EndSystem.{EndSystemState, is_on, source_at}
use Rattle.nodes.specs.rules.Finding.{Found, find}
use Rattle.nodes.specs.rules.Meeting.{ways_at}
use Rattle.nodes.specs.rules.Node.{regulator_in}
use Rattle.nodes.specs.rules.Opening as opened
use Rattle.nodes.specs.rules.Opening.{opening, regulator_of}
use Rattle.nodes.specs.rules.Switch.{SwitchState, outputs_of}
use Rattle.port_turns.specs.SwitchPuts.{transit_of}

-- how many bytes a frame of the own stream of the virtual link with this number has, 0 where there is no such virtual link
abbrev pub size_of : Plan → ℕ → ℕ
size_of plan v = option_map_or (λ found. found.entry.link.own.size) (find id_of plan.vls v) 0

-- which is its own size
abbrev pub AreSizes : Plan → Type 0
AreSizes plan = (vl : VlPlan) → Contains plan.vls vl → size_of plan vl.link.id.0 ≡ vl.link.own.size

-- 128 ms have so many BAGs of it
abbrev pub AreBags : Plan → Type 0
AreBags plan = (vl : VlPlan) → Contains plan.vls vl → (128 / vl.link.bag_ms) * (vl.link.bag_ms * 1000000) ≡ 128000000

-- its greatest frame has bytes, and no frame has more than 1518
abbrev pub AreGreatest : Plan → Type 0
AreGreatest plan = (vl : VlPlan) → Contains plan.vls vl → (1 ≤ vl.link.smax) × (vl.link.own.size ≤ 1518)

-- a virtual link of the network leaves node p by port q
pub record LeavesBy (plan : Plan) (p q : ℕ) (vl : VlPlan) : Type 0 where
  pub is_vl : Contains plan.vls vl
  pub way : Contains (departures_of plan p) (record { vl = vl.link.id; port = q })

-- ---- switches

-- what a switch has of the virtual link with a number is what is made of that of the network, which leaves by the outputs
pub record IsTransitOf (plan : Plan) (p v : ℕ) (transit : Transit) : Type 0 where
  pub vl : VlPlan
  pub is_vl : Contains plan.vls vl
  pub id : vl.link.id.0 ≡ v
  pub is : transit ≡ opened.transit_of plan p vl
  pub leaves : (q : ℕ) → IsAmong q (outputs_of transit) → LeavesBy plan p q vl

abbrev pub AreTransits : Plan → Type 0
AreTransits plan = (p v : ℕ) (transit : Transit) → transit_of (opening plan p).equipment v ≡ Some transit → IsTransitOf plan p v transit

-- each that leaves a switch goes through it
abbrev pub HaveTransits : Plan → Type 0
HaveTransits plan = (p q : ℕ) (vl : VlPlan) → LeavesBy plan p q vl → (s : SwitchState) → (opening plan p).equipment ≡ equipment.Switch s → transit_of (opening plan p).equipment vl.link.id.0 ≡ Some (opened.transit_of plan p vl)

-- ---- end systems

-- what an end system has of a virtual link that it sends is what is made of that of the network, which leaves by port 0 on A and by port 1 on B
pub record IsSourceOf (plan : Plan) (p v : ℕ) (source : Source) : Type 0 where
  pub vl : VlPlan
  pub is_vl : Contains plan.vls vl
  pub id : vl.link.id.0 ≡ v
  pub is : source ≡ opened.source_of (ways_at plan p Out) vl
  pub on_a : is_on source.end A ≡ true → LeavesBy plan p 0 vl
  pub on_b : is_on source.end B ≡ true → LeavesBy plan p 1 vl

abbrev pub AreSources : Plan → Type 0
AreSources plan =
    (p v : ℕ) (s : EndSystemState) → (opening plan p).equipment ≡ equipment.EndSystem s → (found : Found Source) → source_at s (record { 0 = v }) ≡ Some found → IsSourceOf plan p v found.entry

-- each that leaves an end system is sent there
abbrev pub HaveSources : Plan → Type 0
HaveSources plan =
    (p q : ℕ) (vl : VlPlan) → LeavesBy plan p q vl → (s : EndSystemState) → (opening plan p).equipment ≡ equipment.EndSystem s →
    regulator_in (opening plan p).equipment vl.link.id ≡ Some (regulator_of vl.link)

-- at first no frame waits in a regulator
abbrev pub AreRegulatorsEmpty : Plan → Type 0
AreRegulatorsEmpty plan =
    (p : ℕ) (s : EndSystemState) → (opening plan p).equipment ≡ equipment.EndSystem s → All (λ source. All (λ list. list.frames ≡ []) source.regulator.lists) s.sources

-- ---- offers

-- the message offers a frame of a virtual link at the node where its frames begin; it has the size of its own stream if there is no other and no size but this
pub record IsOfferOf (plan : Plan) (m : Message) : Type 0 where
  pub vl : VlPlan
  pub is_vl : Contains plan.vls vl
  pub size : ℕ
  pub sub : ℕ
  pub to_source : source_of vl ≡ Some m.receiver
  pub most : size ≤ 1518
  pub plain : is_plain plan vl.link ≡ true → size ≡ vl.link.own.size
  pub is : m.body ≡ Offer vl.link.id size sub

-- so does each first message
abbrev pub AreOffers : Plan → Type 0
AreOffers plan = All (IsOfferOf plan) (offers_of plan)
