use Rattle.network.specs.Words.{names_of, link_plan}
use Rattle.network.proofs.EachLemmas.{map-push}
use Rattle.network_faults.proofs.unknown.LinksReview.review.Goals as goal

pub returns : goal.returns
returns c = λ earlier at made.
    let here = c.in_ok-link.ensures earlier at in
    (here.0, map-push (link_plan (names_of c.args.self.now.names.now.nodes.now)) earlier c.args.row.now _ _ c.in_ok-link.link made c.in_ok-push.ensures.items here.1)
