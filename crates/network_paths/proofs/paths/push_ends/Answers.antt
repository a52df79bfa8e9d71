use Rattle.std.proofs.Common.{◌<◌, ◌++◌, length, ap, ◌∙◌, arith}
use Rattle.network.specs.Words.{items_of, end_of}
use Rattle.network_paths.proofs.PushLemmas.{pushed-seen}
use Rattle.network_paths.proofs.paths.push_ends.Goals as goal

pub loop-path-preserved : goal.loop-path-preserved
loop-path-preserved c =
    let paths = c.args.paths.now in
    let i = c.loop-path.path-index in
    let lt : i < length paths = omega arith in
    pushed-seen items_of end_of paths i c.path-item.result c.loop-path.ends.items c.push_end.new.ends.items _ lt c.path-item.is
    (c.in_ok-push_end.ensures ∙ ap (λ path. c.loop-path.ends.items ++ end_of path) c.as_slice.ensures.value) c.loop-path.invariant
