-- Simulations of a network, as far as their messages and offers go, and what the laws of virtual time require of offers.
use Rattle.std.specs.Prelude.{◌≡◌, ◌<◌, ◌≤◌}
use Rattle.vlink.specs.declared.message.Message.{Message}
use Rattle.virtual_time.specs.Law.{IsOrder, times_in, IsIn, Simulation}
use Rattle.network.specs.Words.{Plan, process_count}
use Rattle.traffic.specs.Offers.{offers_of}

-- its messages are those of the simulator, its processes, its end and its offers those of the network; whatever its actors do
pub record IsOfNetwork {S K N : Type 0} (plan : Plan) (f : Simulation Message S K N) : Type 0 where
  pub order : IsOrder f.rules.order
  pub time : (m : Message) → f.rules.order.time m ≡ m.time
  pub receiver : (m : Message) → f.rules.order.receiver m ≡ m.receiver
  pub sender : (m : Message) → f.rules.order.sender m ≡ m.sender
  pub number : (m : Message) → f.rules.order.number m ≡ m.number
  pub processes : f.processes ≡ process_count plan
  pub until : f.until ≡ plan.until
  pub offers : f.offers ≡ offers_of plan

-- an offer is there once, comes from no process, goes to a process, and is not after the end: these are the laws of a simulation on offers
pub record HasLawfulOffers {S K N : Type 0} (f : Simulation Message S K N) : Type 0 where
  pub offered_once : (m : Message) → times_in f.rules.order m f.offers ≤ 1
  pub offered_from : (m : Message) → IsIn f.rules.order m f.offers → f.processes ≤ f.rules.order.sender m
  pub offered_to : (m : Message) → IsIn f.rules.order m f.offers → f.rules.order.receiver m < f.processes
  pub offered_in_time : (m : Message) → IsIn f.rules.order m f.offers → f.rules.order.time m ≤ f.until
