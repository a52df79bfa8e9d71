use Rattle.std.proofs.Common.{◌↔◌, ◌∙◌, List, IsTrue, sym, subst}
use Rattle.virtual_time.specs.Law.{IsFinished}
use Rattle.virtual_time.specs.declared.step.Step.{Step}
use Rattle.nodes.specs.Words.{simulation_of}
use Rattle.seqsim.specs.Networks.{setting_of}
use Rattle.seqsim.specs.Committed.{after}
use Rattle.timewarp.specs.Networks.{NetworkWorld, IsAfter}
use Rattle.timewarp.proofs.world.World.is_finished.Goals as goal

pub returns : goal.returns
returns c =
    subst (λ (w : NetworkWorld). (steps : List Step) → IsAfter w steps → IsTrue c.is_finished.result ↔ IsFinished (simulation_of w.plan) (after w.plan steps)) c.self.view_is
    (c.is_finished.ensures (setting_of c.self.inside.network) c.layout_law.ensures)

pub is_finished-requires : goal.is_finished-requires
is_finished-requires c = c.until.ensures.value ∙ sym c.self.invariant.1.until
