use Rattle.std.proofs.Common.{◌≡◌, List, length, subst, IfSome}
use Rattle.virtual_time.specs.Law.{IsLeft, undo_all}
use Rattle.virtual_time.specs.declared.step.Step.{Step}
use Rattle.nodes.specs.Words.{opening, simulation_of}
use Rattle.seqsim.specs.Committed.{after}
use Rattle.timewarp.specs.Networks.{NetworkWorld, IsAfter}
use Rattle.timewarp.proofs.NetworkWorlds.{undone-at, left-at, within}
use Rattle.timewarp.proofs.world.World.undo_all.Goals as goal

pub returns-clause-undone : goal.returns-clause-undone
returns-clause-undone c =
    subst (λ (w : NetworkWorld). IfSome c.undo_all.result (λ node. (steps : List Step) → IsAfter w steps →
    node ≡ undo_all (simulation_of w.plan).rules (opening w.plan c.args.process) ((after w.plan steps).parts c.args.process))) c.self.view_is
    (undone-at c.self.inside.network c.layout_law.ensures c.self.inside.actors c.args.process c.undo_all.result c.undo_all.ensures.undone)

pub returns-clause-left : goal.returns-clause-left
returns-clause-left c =
    subst (λ (w : NetworkWorld). IfSome c.undo_all.result (λ node. (steps : List Step) → IsAfter w steps →
    IsLeft (simulation_of w.plan) c.args.process (length ((after w.plan steps).parts c.args.process).committed) node)) c.self.view_is
    (left-at c.self.inside.network c.layout_law.ensures c.self.inside.actors c.args.process c.world_law.ensures.safe c.undo_all.result
    (within c.self.inside.actors c.args.process c.self.inside.network c.self.invariant.1.count c.undo_all.result c.undo_all.ensures.none.1)
    c.undo_all.ensures.undone)
