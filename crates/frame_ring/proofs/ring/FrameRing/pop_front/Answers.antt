use Rattle.std.proofs.Common.{rules, arith, sym, ap, ◌∙◌, ◌∷◌, List}
use Rattle.std.proofs.lemmas.Grind.{common_steps}
use Rattle.vlink.specs.declared.frame.Frame.{Frame}
use Rattle.frame_ring.proofs.Bytes.{rest_within_limits}
use Rattle.frame_ring.proofs.ring.FrameRing.pop_front.Goals as goal

pub invariant_of-self-2 : goal.invariant_of-self-2
invariant_of-self-2 c =
    let same = c.begin_again.ensures.same in
    let capacity = c.begin_again.ensures.capacity in
    let items = c.in_ok-first.ensures.items ∙ ap (λ (xs : List Frame). c.in_ok-first.first ∷ xs) (sym same) in
    record {
      within = search rules;
      small = search rules;
      reserved = search rules;
      sum = grind (arith, common_steps);
      limits = rest_within_limits c.begin_again.new.frames.items c.self.inside.frames.items c.in_ok-first.first items c.self.invariant.limits;
    }
