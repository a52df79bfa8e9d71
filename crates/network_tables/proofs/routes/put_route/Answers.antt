use Rattle.std.proofs.Common.{◌<◌, length, ◌∙◌, arith, slice_get, option_to_list, option_and_then}
use Rattle.network_tables.specs.Meeting.{way_at}
use Rattle.network_paths.proofs.PushLemmas.{pushed-at}
use Rattle.network_tables.proofs.routes.put_route.Goals as goal

pub loop-k-preserved : goal.loop-k-preserved
loop-k-preserved c =
    let route = c.args.route.now in
    let i = c.loop-k.k-index in
    let lt : i < length route = omega arith in
    record {
      len = c.in_ok-put_over.ensures.len ∙ c.loop-k.invariant.len;
      put = λ node h. pushed-at (λ k. option_to_list (option_and_then (way_at c.args.end node c.args.vl) (slice_get c.args.lines.now k))) route i 0 _ _ _ lt
          (c.in_ok-put_over.ensures.put node (omega (arith, c.loop-k.invariant.len, h))) (c.loop-k.invariant.put node h);
    }
