-- Definition: the simulation that a network gives to the law of virtual time. Its nodes and lines are the processes, and the frames that are offered the first messages.
use Rattle.vlink.specs.declared.message.Message.{Message}
use Rattle.vlink.specs.declared.note.Note.{Note}
use Rattle.reverse.specs.Rules.{rules_of}
use Rattle.virtual_time.specs.Law.{Simulation}
use Rattle.network.specs.Words.{Plan, process_count}
use Rattle.traffic.specs.Offers.{offers_of}
use Rattle.nodes.specs.declared.node.NodeRecord.{NodeRecord}
use Rattle.nodes.specs.rules.Node.{NodeState}
use Rattle.nodes.specs.undoing.Node.{node}
use Rattle.nodes.specs.rules.Opening.{opening}

abbrev pub simulation_of : Plan → Simulation Message NodeState NodeRecord Note
simulation_of plan = record {
  rules = rules_of node;
  processes = process_count plan;
  until = plan.until;
  opening = opening plan;
  offers = offers_of plan;
}
