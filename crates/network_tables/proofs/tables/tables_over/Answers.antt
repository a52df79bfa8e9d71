use Rattle.std.proofs.Common.{◌≡◌, length, map, ap, ◌∙◌, arith}
use Rattle.std.proofs.lemmas.List.{length-map}
use Rattle.network.specs.Words.{each, node_plan, directions, line_name}
use Rattle.network_tables.proofs.tables.tables_over.Goals as goal

pub returns : goal.returns
returns c = λ until seed.
    let nodes = map node_plan c.args.nodes.now in
    let same = length-map c.args.nodes.now node_plan in
    let links = c.requires.joined in
    let lines : c.in_ok-lines.lines.items ≡ each (directions nodes) c.args.numbered.now.links.items =
    c.in_ok-lines.ensures.lines ∙ ap (each (directions nodes)) links in
    let these : c.as_slice.result.now ≡ each (directions nodes) c.args.numbered.now.links.items = c.as_slice.ensures.value ∙ lines in
    let count : length c.as_slice.result.now ≡ length (each (directions nodes) c.args.numbered.now.links.items) = ap length these in
    record {
      lines = lines;
      line_names = c.in_ok-by_line.ensures.names ∙ ap (map (line_name nodes)) these;
      outages = λ k h. rw (links, c.as_slice-2.ensures.value) at (c.in_ok-by_line.ensures.outages k (omega (arith, count, h)));
      outages_len = c.in_ok-by_line.ensures.len ∙ count;
      departures = λ node h. rw (links, c.as_slice-3.ensures.value, lines, c.as_slice-4.ensures.value) at (c.in_ok-meetings.ensures.departures node (omega (arith, same, h)));
      departures_len = omega (arith, same, c.in_ok-meetings.ensures.departures_len);
      arrivals = λ node h. rw (links, c.as_slice-3.ensures.value, lines, c.as_slice-4.ensures.value) at (c.in_ok-meetings.ensures.arrivals node (omega (arith, same, h)));
      arrivals_len = omega (arith, same, c.in_ok-meetings.ensures.arrivals_len);
      destinations = rw c.as_slice-5.ensures.value at c.in_ok-by_vl.ensures.destinations;
      places = λ id. rw c.as_slice-5.ensures.value at (c.in_ok-by_vl.ensures.places id);
      few = omega (arith, same, c.requires.few);
    }
