use Rattle.std.proofs.Common.{refl}
use Rattle.network.specs.Words.{names_of, vl_plan}
use Rattle.network_faults.proofs.PackLemmas.{links-push, paths-push}
use Rattle.network_faults.proofs.packing.VlsReview.review.Goals as goal

pub returns : goal.returns
returns c = λ earlier at kept.
    let plan = vl_plan (names_of c.args.self.now.names.now.nodes.now) in
    let here = c.in_ok-pack_vl.ensures earlier at in (
      here.0,
      record {
        links = links-push plan earlier c.args.row.now _ _ _ kept.links c.in_ok-push.ensures.items refl;
        paths = paths-push plan earlier c.args.row.now _ _ kept.paths here.1;
      },
    )
