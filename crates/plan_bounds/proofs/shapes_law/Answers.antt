use Rattle.plan_bounds.proofs.Contract.{stated-bounds, stated-rooms}
use Rattle.plan_bounds.proofs.Shapes.{agree, same-sizes}
use Rattle.plan_bounds.proofs.shapes_law.Goals as goal

pub returns : goal.returns
returns c =
    let shape = c.args.shape.now in
    let plan = c.args.network.now in
    let known = c.accepted_law.ensures in
    let accepted = c.accepted_law-2.ensures in
    record {
      latencies = λ same bounds are vl is_known other is_vl id n there network_ns e.
          stated-bounds shape plan known accepted (agree shape plan same) c.network_law.ensures c.ages_law.ensures.deliveries c.waits_law.ensures.lists c.waits_law.ensures.periods (same-sizes shape plan accepted same) bounds are vl is_known other is_vl id n there network_ns e;
      rooms = λ same bounds are p lt each. stated-rooms shape plan known accepted (agree shape plan same) c.network_law.ensures c.rooms_law.ensures.kept (same-sizes shape plan accepted same) bounds are p lt each;
    }
