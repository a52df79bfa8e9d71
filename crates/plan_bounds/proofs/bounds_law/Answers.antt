use Rattle.std.proofs.Common.{refl, arith}
use Rattle.network_bounds.specs.declared.sizes.Senders.TheVariants.{AsStated, ByContract}
use Rattle.network.specs.Words.{IsAccepted, Plan}
use Rattle.network.proofs.SourceLemmas.{HasSource, all-have}
use Rattle.std.proofs.lemmas.List.Elements.{All-contains}
use Rattle.plan_bounds.specs.Latencies.{AreLatencyBounds}
use Rattle.plan_bounds.specs.Rooms.{AreRoomsEnough}
use Rattle.plan_bounds.proofs.Contract.{contract-bounds, contract-rooms, stated-bounds, stated-rooms}
use Rattle.plan_bounds.proofs.Shapes.{keeps-own, own-sizes}
use Rattle.plan_bounds.proofs.bounds_law.Goals as goal

pub returns : goal.returns
returns c = record { latencies = latencies; rooms = rooms }
  where
    plan : Plan
    plan = c.args.network.now

    accepted : IsAccepted plan
    accepted = c.accepted_law.ensures

    latencies : AreLatencyBounds plan
    latencies AsStated bounds are vl is_vl n there network_ns e =
        stated-bounds plan plan accepted accepted refl c.network_law.ensures c.ages_law.ensures.deliveries c.waits_law.ensures.lists c.waits_law.ensures.periods (own-sizes plan accepted) bounds are vl is_vl vl is_vl refl n there network_ns e
    latencies ByContract bounds are vl is_vl n there network_ns e =
        let has = All-contains (HasSource plan.nodes) plan.vls vl (all-have plan accepted) is_vl in
        contract-bounds plan plan accepted accepted refl c.network_law.ensures c.ages_law.ensures.deliveries c.waits_law.ensures.lists c.waits_law.ensures.periods bounds are vl is_vl vl is_vl refl has.node has.is (keeps-own plan accepted has.node) (omega arith) n there network_ns e

    rooms : AreRoomsEnough plan
    rooms AsStated bounds are p lt each = stated-rooms plan plan accepted accepted refl c.network_law.ensures c.rooms_law.ensures.kept (own-sizes plan accepted) bounds are p lt each
    rooms ByContract bounds are p lt each = contract-rooms plan plan accepted accepted refl c.network_law.ensures c.rooms_law.ensures.kept bounds are p lt (λ end. keeps-own plan accepted p) each
