-- What a network is, for proofs and for the crates above: each word from the file that defines it.
pub use Rattle.network.specs.Accepted.{IsAccepted, IsPlanOf, id_of, ids_of}
pub use Rattle.network.specs.Code.Tables.{AreTables, plan_with}
pub use Rattle.network.specs.Code.Views.{items_of, lists_of, outages_at, ways_at}
pub use Rattle.network.specs.Faults.{Tells, double_at_link, double_at_node, double_at_vl, double_names, faults_of, has_gap, is_gap, is_unknown, no_link_at_link, no_link_at_outage, no_link_at_vl, no_tree_at_vl, not_links, not_trees, process_count, too_many, too_many_at_node, touches, unknown_at_link, unknown_at_stream, unknown_names}
pub use Rattle.network.specs.Limits.{IsKindInLimits, IsLinkInLimits, IsStreamInLimits, greatest_destinations, greatest_ports, greatest_processes, greatest_streams}
pub use Rattle.network.specs.Lines.{arrivals_of, both, comes_in, departures_of, directions, in_at, is_outage_of, leaves, line_at, line_between, line_name, lines_of, lines_over, node_name, out_at, outages_of, place_of_vl, port_at, route_over, ways_over}
pub use Rattle.network.specs.Names.{is_among, names_of, number_of, place_among}
pub use Rattle.network.specs.Plan.{NodePlan, Plan, VlPlan, byte_ns_of, link_plan, node_plan, outage_plan, path_numbers, plan_of, stream_plan, vl_plan}
pub use Rattle.network.specs.Rows.{each, each_after, place_by, row_at, top, when}
pub use Rattle.network.specs.Trees.{IsRisingOf, all_hops, destinations_of, differ, end_of, ends_of, first_of, has_double, has_other_way, hops_after, hops_of, inner_of, is_bad_path, is_no_tree, is_none, is_other_way, last_of, rising, rising_from, source_among, source_of}
pub use Rattle.network.specs.Wiring.{goes, is_end_kind, is_end_system, is_linked, is_no_link, is_same_net, is_switch_kind, is_switch_of, joins, leads, link_between, passes}
