use Rattle.std.proofs.Common.{List, subst}
use Rattle.virtual_time.specs.declared.step.Step.{Step}
use Rattle.timewarp.specs.Networks.{NetworkWorld, IsAfter}
use Rattle.timewarp.proofs.world.World.reached_law.Goals as goal

pub returns : goal.returns
returns c = subst (λ (w : NetworkWorld). (steps : List Step) × IsAfter w steps) c.self.view_is c.self.invariant
