use Rattle.std.proofs.Common.{rules, arith}
use Rattle.std.proofs.lemmas.Grind.{common_steps}
use Rattle.frame_ring.proofs.Bytes.{front_within_limits, rest_within_limits}
use Rattle.frame_ring.proofs.ring.FrameRing.pop_back.Goals as goal

pub invariant_of-self-2 : goal.invariant_of-self-2
invariant_of-self-2 c =
    let items = c.in_ok-last.ensures.items in
    record {
      within = search rules;
      small = search rules;
      reserved = search rules;
      sum = grind (arith, common_steps);
      limits = search (rules, front_within_limits, rest_within_limits);
    }
