use Rattle.std.proofs.Common.{refl, arith, rules}
use Rattle.std.proofs.lemmas.Grind.{common_steps}
use Rattle.toml.specs.View.{table_view}
use Rattle.network_rows.specs.declared.key.Section.TheVariants.{Node, Link, Outage, Vl, Stream}
use Rattle.network_rows.specs.Rows.{MeansNode, MeansLink, MeansOutage, MeansVl, MeansStreamRow, MeansSection}
use Rattle.network_rows.proofs.Sound.{sound_top, sound_nodes, sound_links, sound_outages, sound_vls, sound_streams}
use Rattle.network_rows.proofs.read_row.rows.Goals as goal

pub number_at-requires-clause-sound : goal.number_at-requires-clause-sound
number_at-requires-clause-sound c = (sound_top (table_view c.args.document.now) c.requires).0

pub number_at-seed-requires-clause-sound : goal.number_at-seed-requires-clause-sound
number_at-seed-requires-clause-sound c = (sound_top (table_view c.args.document.now) c.requires).1.0

pub rows_in-requires : goal.rows_in-requires
rows_in-requires c = rw c.take_list.ensures.value (sound_nodes (table_view c.args.document.now) c.requires)

pub rows_in-requires-2 : goal.rows_in-requires-2
rows_in-requires-2 c = rw (c.take_list-2.ensures.value, c.take_list.ensures.others Link refl) (sound_links (table_view c.args.document.now) c.requires)

pub rows_in-requires-3 : goal.rows_in-requires-3
rows_in-requires-3 c =
    rw (c.take_list-3.ensures.value, c.take_list-2.ensures.others Outage refl, c.take_list.ensures.others Outage refl)
    (sound_outages (table_view c.args.document.now) c.requires)

pub rows_in-requires-4 : goal.rows_in-requires-4
rows_in-requires-4 c =
    rw (c.take_list-4.ensures.value, c.take_list-3.ensures.others Vl refl, c.take_list-2.ensures.others Vl refl, c.take_list.ensures.others Vl refl)
    (sound_vls (table_view c.args.document.now) c.requires)

pub rows_in-requires-5 : goal.rows_in-requires-5
rows_in-requires-5 c =
    rw (c.take_list-5.ensures.value, c.take_list-4.ensures.others Stream refl, c.take_list-3.ensures.others Stream refl, c.take_list-2.ensures.others Stream refl, c.take_list.ensures.others Stream refl)
    (sound_streams (table_view c.args.document.now) c.requires)

pub returns : goal.returns
returns c =
    let document = table_view c.args.document.now in
    let nodes : MeansSection MeansNode Node document c.in_ok-nodes.nodes = rw c.take_list.ensures.value at c.in_ok-nodes.ensures in
    let links : MeansSection MeansLink Link document c.in_ok-links.links =
    rw (c.take_list-2.ensures.value, c.take_list.ensures.others Link refl) at c.in_ok-links.ensures in
    let outages : MeansSection MeansOutage Outage document c.in_ok-outages.outages =
    rw (c.take_list-3.ensures.value, c.take_list-2.ensures.others Outage refl, c.take_list.ensures.others Outage refl) at c.in_ok-outages.ensures in
    let vls : MeansSection MeansVl Vl document c.in_ok-vls.vls =
    rw (c.take_list-4.ensures.value, c.take_list-3.ensures.others Vl refl, c.take_list-2.ensures.others Vl refl, c.take_list.ensures.others Vl refl) at c.in_ok-vls.ensures in
    let streams : MeansSection MeansStreamRow Stream document c.in_ok-streams.streams =
    rw (c.take_list-5.ensures.value, c.take_list-4.ensures.others Stream refl, c.take_list-3.ensures.others Stream refl, c.take_list-2.ensures.others Stream refl, c.take_list.ensures.others Stream refl) at c.in_ok-streams.ensures in
    first_of (search rules, grind (arith, common_steps))
