use Rattle.std.proofs.Common.{◌≡◌, ◌↔◌, ◌++◌, true, List, [], ◌∷◌, Err, OnOk, OnErr, IfOk, subst}
use Rattle.virtual_time.specs.Law.{is_enabled}
use Rattle.virtual_time.specs.declared.step.Step.{Step}
use Rattle.nodes.specs.Words.{simulation_of}
use Rattle.seqsim.specs.Networks.{setting_of}
use Rattle.actor_world.specs.declared.done.Done.TheVariants.{Did}
use Rattle.actor_world.specs.declared.fault.StepFault.TheVariants.{Exhausted}
use Rattle.actor_world.specs.Worlds.{IsExhausted}
use Rattle.seqsim.specs.Committed.{after}
use Rattle.timewarp.specs.Networks.{NetworkWorld, IsAfter}
use Rattle.timewarp.proofs.NetworkWorlds.{world, step-after, step-refused, step-some, step-enabled}
use Rattle.timewarp.proofs.world.World.step.Goals as goal

pub invariant_of-self : goal.invariant_of-self
invariant_of-self c =
    step-some c.self.inside.network c.layout_law.ensures c.args.step c.self.inside.actors c.step.new.self
    c.step.result c.step.ensures.stands c.step.ensures.unchanged c.self.invariant

pub returns-clause-after : goal.returns-clause-after
returns-clause-after c =
    subst (λ (old : NetworkWorld). OnOk c.step.result ((steps : List Step) → IsAfter old steps →
    IsAfter (world c.self.inside.network c.step.new.self) (steps ++ c.args.step ∷ []))) c.self.view_is
    (step-after c.self.inside.network c.layout_law.ensures c.args.step c.self.inside.actors c.step.new.self
    c.step.result c.step.ensures.stands)

pub returns-clause-refused : goal.returns-clause-refused
returns-clause-refused c =
    subst (λ (old : NetworkWorld). OnErr c.step.result ((steps : List Step) → IsAfter old steps → IsAfter (world c.self.inside.network c.step.new.self) steps)) c.self.view_is
    (step-refused c.self.inside.network c.layout_law.ensures c.args.step c.self.inside.actors c.step.new.self
    c.step.result c.step.ensures.unchanged)

pub returns-clause-enabled : goal.returns-clause-enabled
returns-clause-enabled c =
    subst (λ (old : NetworkWorld). IfOk c.step.result (λ done. (steps : List Step) → IsAfter old steps →
    (done ≡ Did) ↔ (is_enabled (simulation_of old.plan) c.args.step (after old.plan steps) ≡ true))) c.self.view_is
    (step-enabled c.self.inside.network c.layout_law.ensures c.args.step c.self.inside.actors c.step.new.self
    c.step.result c.step.ensures.enabled)

pub returns-clause-exhausted : goal.returns-clause-exhausted
returns-clause-exhausted c =
    subst (λ (old : NetworkWorld). (steps : List Step) → IsAfter old steps →
    (c.step.result ≡ Err Exhausted) ↔ IsExhausted (simulation_of old.plan) c.args.step (after old.plan steps)) c.self.view_is
    (λ steps h. c.step.ensures.exhausted (setting_of c.self.inside.network) c.layout_law.ensures steps h)

pub returns-clause-memory : goal.returns-clause-memory
returns-clause-memory c = λ e.
    subst (λ (old : NetworkWorld). (steps : List Step) → IsAfter old steps → is_enabled (simulation_of old.plan) c.args.step (after old.plan steps) ≡ true) c.self.view_is
    (λ steps h. c.step.ensures.memory e (setting_of c.self.inside.network) c.layout_law.ensures steps h)
