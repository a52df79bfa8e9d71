use Rattle.std.proofs.Common.{◌≡◌, ap, sym, ◌∙◌, arith, flat_map}
use Rattle.traffic.specs.Offers.{offers_from}
use Rattle.traffic.specs.Places.{place_count, streams_before}
use Rattle.traffic.proofs.StreamLemmas.{before-all, before-none}
use Rattle.traffic.proofs.offering.offers.Goals as goal

pub loop-place-init : goal.loop-place-init
loop-place-init c = c.in_ok-offers.ensures.items ∙ sym (ap (flat_map (offers_from c.args.network.now.seed c.args.network.now.until)) (before-none c.args.network.now))

pub loop-place-preserved : goal.loop-place-preserved
loop-place-preserved c = c.in_ok-push_stream.ensures

pub returns : goal.returns
returns c =
    let plan = c.args.network.now in
    let done = c.loop-place-test.false in
    let upto = c.loop-place.auto.place-end in
    let count = c.place_count-place-end.ensures.value in
    let all : c.loop-place.place ≡ place_count plan = omega arith in
    c.loop-place.invariant ∙ ap (λ n. flat_map (offers_from plan.seed plan.until) (streams_before plan n)) all ∙ ap (flat_map (offers_from plan.seed plan.until)) (before-all plan)
