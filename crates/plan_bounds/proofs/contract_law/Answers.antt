use Rattle.plan_bounds.proofs.Contract.{contract-bounds, contract-rooms}
use Rattle.plan_bounds.proofs.contract_law.Goals as goal

pub returns : goal.returns
returns c =
    let shape = c.args.shape.now in
    let plan = c.args.network.now in
    let known = c.accepted_law.ensures in
    let accepted = c.accepted_law-2.ensures in
    record {
      latencies = λ same bounds are vl is_known other is_vl id source from keeps shorter n there network_ns e.
          contract-bounds shape plan known accepted same c.network_law.ensures c.ages_law.ensures.deliveries c.waits_law.ensures.lists c.waits_law.ensures.periods bounds are vl is_known other is_vl id source from keeps shorter n there network_ns e;
      rooms = λ same bounds are p lt keeps each. contract-rooms shape plan known accepted same c.network_law.ensures c.rooms_law.ensures.kept bounds are p lt keeps each;
    }
