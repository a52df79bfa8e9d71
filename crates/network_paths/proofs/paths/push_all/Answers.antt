use Rattle.std.proofs.Common.{◌<◌, ◌++◌, length, ap, ◌∙◌, arith}
use Rattle.network.specs.Words.{items_of, hops_of}
use Rattle.network_paths.proofs.PushLemmas.{pushed-seen}
use Rattle.network_paths.proofs.paths.push_all.Goals as goal

pub loop-path-preserved : goal.loop-path-preserved
loop-path-preserved c =
    let paths = c.args.paths.now in
    let i = c.loop-path.path-index in
    let lt : i < length paths = omega arith in
    pushed-seen items_of hops_of paths i c.path-item.result c.loop-path.hops.items c.push_hops.new.hops.items _ lt c.path-item.is
    (c.in_ok-push_hops.ensures ∙ ap (λ path. c.loop-path.hops.items ++ hops_of path) c.as_slice.ensures.value) c.loop-path.invariant
