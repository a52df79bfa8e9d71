use Rattle.std.proofs.Common.{◌++◌, ◌∷◌, [], get_or, map, take, ap, sym, ◌∙◌, flat_map, take_all, append-nil}
use Rattle.std.proofs.lemmas.List.{take_more, map-append}
use Rattle.std.proofs.lemmas.Grind.{flat_map-append}
use Rattle.trace_tables.specs.Destinations.{destination}
use Rattle.trace_tables.specs.Text.{destination_line, latency_line}
use Rattle.trace_segments.proofs.WritingLemmas.{adds-more, adds-same}
use Rattle.trace_tables.proofs.text.push_destinations.Goals as goal

pub loop-place-preserved : goal.loop-place-preserved
loop-place-preserved c =
    let places = c.args.places.now in
    let i = c.loop-place.place-index in
    let plan = c.args.network.now in
    let vl = c.args.vl in
    let place = get_or places i 0 in
    let write = destination_line plan c.args.table.now.entries in
    let done = flat_map write (map (destination vl) (take i places)) in
    let here = latency_line plan vl.0 place c.latencies_at-here.result in
    adds-same c.args.out.now c.push_latency.new.out _ _
    (ap (λ counts. done ++ latency_line plan vl.0 place counts) c.latencies_at-here.ensures
    ∙ ap (λ ys. done ++ ys) (sym (append-nil (write (destination vl place))))
    ∙ sym (ap (λ ps. flat_map write (map (destination vl) ps)) (take_more places i 0 c.loop-place-test.true)
    ∙ ap (flat_map write) (map-append (destination vl) (take i places) (place ∷ []))
    ∙ flat_map-append write (map (destination vl) (take i places)) (destination vl place ∷ [])))
    (adds-more c.args.out.now c.loop-place.out c.push_latency.new.out done here c.loop-place.invariant c.in_ok-push_latency.ensures)

pub returns : goal.returns
returns c =
    adds-same c.args.out.now c.loop-place.out _ _
    (ap (λ places. flat_map (destination_line c.args.network.now c.args.table.now.entries) (map (destination c.args.vl) places)) (take_all c.loop-place.place-index c.args.places.now c.loop-place-test.false))
    c.loop-place.invariant
