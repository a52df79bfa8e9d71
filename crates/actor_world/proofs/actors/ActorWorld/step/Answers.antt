use Rattle.std.proofs.Common.{sym, ◌∙◌}
use Rattle.actor_world.proofs.Holding.{the_same}
use Rattle.actor_world.proofs.Answering.{answer-enabled, answer-stands, none-exhausted}
use Rattle.actor_world.proofs.actors.ActorWorld.step.Goals as goal

pub returns-then-names_none-clause-stands : goal.returns-then-names_none-clause-stands
returns-then-names_none-clause-stands g c = tt

pub returns-then-names_none-clause-enabled : goal.returns-then-names_none-clause-enabled
returns-then-names_none-clause-enabled g c = tt

pub returns-then-names_none-clause-unchanged : goal.returns-then-names_none-clause-unchanged
returns-then-names_none-clause-unchanged g c = λ e. the_same c.args.self.now

pub returns-then-names_none-clause-exhausted : goal.returns-then-names_none-clause-exhausted
returns-then-names_none-clause-exhausted g c = λ x laid steps h. (
  λ e. absurd cc,
  λ d. absurd (none-exhausted _ _ _ _ _ _ c.args.self.now c.args.self.now (sym c.names_none.ensures.answer ∙ c.if-names_none.true) x laid steps h d),
)

pub returns-clause-stands : goal.returns-clause-stands
returns-clause-stands g c = answer-stands _ _ _ _ _ _ _ _ c.step_there.result c.step_there.ensures.stepped

pub returns-clause-enabled : goal.returns-clause-enabled
returns-clause-enabled g c = answer-enabled _ _ _ _ _ _ _ _ c.step_there.result c.step_there.ensures.stepped

pub returns-clause-unchanged : goal.returns-clause-unchanged
returns-clause-unchanged g c = c.step_there.ensures.stepped.unchanged

pub returns-clause-exhausted : goal.returns-clause-exhausted
returns-clause-exhausted g c = c.step_there.ensures.stepped.exhausted

pub returns-clause-memory : goal.returns-clause-memory
returns-clause-memory g c = c.step_there.ensures.stepped.memory

pub returns-clause-gvt : goal.returns-clause-gvt
returns-clause-gvt g c = c.step_there.ensures.gvt
