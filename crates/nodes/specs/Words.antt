-- What end systems, switches and lines do, for proofs and for the crates above: each word from the file that defines it.
pub use Rattle.nodes.specs.laws.Grouping.{all_met, grouped, groups, met, met_by, vl_with}
pub use Rattle.nodes.specs.laws.Making.{number_met, ports_among, ports_found, reception_met, source_met, transit_met}
pub use Rattle.nodes.specs.laws.Node.{node-undoes}
pub use Rattle.nodes.specs.laws.NodeSending.{place-stays, sends-near, wiring-stays}
pub use Rattle.nodes.specs.laws.Places.{found-there}
pub use Rattle.nodes.specs.laws.Ports.{put-kept}
pub use Rattle.nodes.specs.laws.Undoing.{source-last, switch-port-last, transit-last}
pub use Rattle.nodes.specs.rules.EndSystem.{EndSystemState, asked, check_of, copied_reply, ending_on, full, is_on, lost, received, reception_at, reception_number, regulated, released_kept, released_out, released_reply, source_at, source_number}
pub use Rattle.nodes.specs.rules.Finding.{AreNumbers, Found, IsRising, find, found_at, place_of}
pub use Rattle.nodes.specs.rules.Line.{LineState}
pub use Rattle.nodes.specs.rules.Meeting.{first_port, is_by, meeting, meetings, ways_at, with_ways}
unfoldable pub use Rattle.nodes.specs.rules.Meeting.{ports_by}
pub use Rattle.nodes.specs.rules.Node.{NodeState, after, handled}
pub use Rattle.nodes.specs.rules.Opening.{end_system_opening, equipment_opening, leaves_by, line_opening, node_opening, opening, outlet_of, ports_of, reception_of, source_of, switch_opening, transit_of, line_ahead_among}
unfoldable pub use Rattle.nodes.specs.rules.Opening.{lines_ahead_of}
pub use Rattle.nodes.specs.rules.Outputs.{marked_from}
pub use Rattle.nodes.specs.rules.Placed.{AllAhead, IsPlaced, IsPlacedEquipment, IsWired, IsWiredEquipment}
pub use Rattle.nodes.specs.rules.Ports.{PortsState, exists}
pub use Rattle.nodes.specs.rules.Simulation.{simulation_of}
pub use Rattle.nodes.specs.rules.Switch.{SwitchState, entered, entered_reply, forwarded, transit_at, transit_number}
pub use Rattle.nodes.specs.undoing.Changes.{undone, IsLastOfEndSystem, IsLastOfSource, IsLastOfSwitch, IsLastOfTransit}
pub use Rattle.nodes.specs.undoing.Node.{IsNodeValue}
