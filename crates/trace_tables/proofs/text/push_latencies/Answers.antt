use Rattle.std.proofs.Common.{map, take, ap, sym, ◌∙◌, add-one, arith, flat_map, take_all}
use Rattle.std.proofs.lemmas.Grind.{flat_map-append}
use Rattle.trace_tables.specs.Destinations.{destination, destinations_in}
use Rattle.trace_tables.specs.Text.{destination_line}
use Rattle.trace_tables.proofs.DestinationLemmas.{destinations-more}
use Rattle.trace_segments.proofs.WritingLemmas.{adds-more, adds-same}
use Rattle.trace_tables.proofs.text.push_latencies.Goals as goal

pub loop-vl-preserved : goal.loop-vl-preserved
loop-vl-preserved c =
    let vls = c.args.network.now.vls in
    let i = c.loop-vl.vl in
    let write = destination_line c.args.network.now c.args.table.now.entries in
    let link = c.virtual_link.result in
    let places = c.destinations.result.now in
    let done = destinations_in (take i vls) in
    let here = map (destination link.id) places in
    adds-same c.args.out.now c.push_destinations.new.out _ _
    (sym (flat_map-append write done here)
    ∙ ap (flat_map write) (sym (destinations-more vls i link places c.virtual_link.ensures.value c.destinations.ensures))
    ∙ ap (λ n. flat_map write (destinations_in (take n vls))) (sym (add-one i)))
    (adds-more c.args.out.now c.loop-vl.out c.push_destinations.new.out (flat_map write done) (flat_map write here) c.loop-vl.invariant c.in_ok-push_destinations.ensures)

pub returns : goal.returns
returns c =
    adds-same c.args.out.now c.loop-vl.out _ _
    (ap (λ vls. flat_map (destination_line c.args.network.now c.args.table.now.entries) (destinations_in vls)) (take_all c.loop-vl.vl c.args.network.now.vls (omega (arith, c.loop-vl-test.false, c.vl_count-vl-end.ensures.value))))
    c.loop-vl.invariant
