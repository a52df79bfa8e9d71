use Rattle.network.specs.Words.{stream_plan}
use Rattle.network.proofs.EachLemmas.{map-push}
use Rattle.network_faults.proofs.streams.StreamsReview.review.Goals as goal

pub returns : goal.returns
returns c = λ earlier at made.
    let here = c.in_ok-stream.ensures earlier at in
    (here.0, map-push stream_plan earlier c.args.row.now _ _ c.in_ok-stream.stream made c.in_ok-push.ensures.items here.1)
