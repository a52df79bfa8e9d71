use Rattle.std.proofs.Common.{◌≡◌, ◌+◌, length, ap, sym, ◌∙◌, arith, flat_map}
use Rattle.traffic.specs.Offers.{offers_from}
use Rattle.traffic.specs.Places.{place_count, streams_before}
use Rattle.traffic.proofs.StreamLemmas.{before-all, before-none}
use Rattle.traffic.proofs.offer_counting.offer_count.Goals as goal

pub loop-place-init : goal.loop-place-init
loop-place-init c =
    let plan = c.args.network.now in
    record {
      count_is = sym (ap (λ ss. length (flat_map (offers_from plan.seed plan.until) ss)) (before-none plan));
      few = omega arith;
    }

pub loop-place-preserved : goal.loop-place-preserved
loop-place-preserved c = record {
  count_is = ap (λ n. n + c.count_at-count.result) c.loop-place.invariant.count_is ∙ sym c.count_at-count.ensures.more;
  few = (let here = c.count_at-count.ensures.few in let before = c.loop-place.invariant.few in omega arith);
}

pub returns : goal.returns
returns c =
    let plan = c.args.network.now in
    let done = c.loop-place-test.false in
    let upto = c.loop-place.auto.place-end in
    let count = c.place_count-place-end.ensures.value in
    let all : c.loop-place.place ≡ place_count plan = omega arith in
    c.loop-place.invariant.count_is ∙ ap (λ n. length (flat_map (offers_from plan.seed plan.until) (streams_before plan n))) all ∙ ap (λ ss. length (flat_map (offers_from plan.seed plan.until) ss)) (before-all plan)
