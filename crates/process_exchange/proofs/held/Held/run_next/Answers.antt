use Rattle.std.proofs.Common.{refl, sym, ◌∙◌}
use Rattle.virtual_time.specs.declared.moved.Move.TheVariants.{Ran}
use Rattle.reverse.specs.Rules.{rules_of}
use Rattle.reverse.specs.Setting.{simulation_of}
use Rattle.process_exchange.specs.Views.{place_of, own_of}
use Rattle.process_exchange.proofs.Holding.{holds-moved, holds-still}
use Rattle.process_exchange.proofs.Moves.{moved-view, still-view}
use Rattle.process_exchange.proofs.Outcomes.{when-err, when-no-err}
use Rattle.process_exchange.proofs.held.Held.run_next.Goals as goal

pub invariant_of-self-in-Ok : goal.invariant_of-self-in-Ok
invariant_of-self-in-Ok g c =
    let h = c.self.invariant.0 in (
      holds-moved h (c.actor_law.ensures g.J.ActorRun.setting h.laid) Ran (rw (sym c.self.view_is) at c.requires) c.run_with.new.self.queues
          (c.in-Ok.ensures.ran.ran _ _ h.stands) c.in-Ok.ensures.ran.left c.push.new.self (when-no-err c.push.result (sym c.is_err.ensures.value ∙ c.if-is_err.false) c.push.ensures.pushed),
      c.self.invariant.1,
    )

pub returns-in-Ok-clause-ran : goal.returns-in-Ok-clause-ran
returns-in-Ok-clause-ran g c =
    moved-view (simulation_of (rules_of g.R.Reversible.plain) g.J.ActorRun.setting) c.self.inside.number (own_of c.self.inside.number c.self.inside.standing.last) (place_of c.self.inside.standing.last) c.self.inside.standing.seen c.self.inside.gone c.self.inside.block Ran
    c.args.self.now c.self.view_is c.push.new.self (when-no-err c.push.result (sym c.is_err.ensures.value ∙ c.if-is_err.false) c.push.ensures.pushed)

pub invariant_of-self : goal.invariant_of-self
invariant_of-self g c = (
  holds-still c.self.invariant.0 c.self.inside.process.queues refl c.push.new.self (when-err c.push.result (sym c.is_err.ensures.value ∙ c.if-is_err.true) c.push.ensures.unchanged),
  c.self.invariant.1,
)

pub returns-then-is_err-clause-unchanged : goal.returns-then-is_err-clause-unchanged
returns-then-is_err-clause-unchanged g c =
    still-view (simulation_of (rules_of g.R.Reversible.plain) g.J.ActorRun.setting) c.self.inside.number (own_of c.self.inside.number c.self.inside.standing.last) (place_of c.self.inside.standing.last) c.self.inside.standing.seen c.self.inside.gone c.self.inside.block
    c.args.self.now c.self.view_is c.push.new.self (when-err c.push.result (sym c.is_err.ensures.value ∙ c.if-is_err.true) c.push.ensures.unchanged)

pub invariant_of-self-in-Err : goal.invariant_of-self-in-Err
invariant_of-self-in-Err g c = (
  holds-still c.self.invariant.0 c.run_with.new.self.queues c.in-Err.ensures.unchanged c.pop.new.self
      (c.pop.ensures c.self.inside.block Ran (when-no-err c.push.result (sym c.is_err.ensures.value ∙ c.if-is_err.false) c.push.ensures.pushed)),
  c.self.invariant.1,
)

pub returns-in-Err-clause-unchanged : goal.returns-in-Err-clause-unchanged
returns-in-Err-clause-unchanged g c =
    still-view (simulation_of (rules_of g.R.Reversible.plain) g.J.ActorRun.setting) c.self.inside.number (own_of c.self.inside.number c.self.inside.standing.last) (place_of c.self.inside.standing.last) c.self.inside.standing.seen c.self.inside.gone c.self.inside.block
    c.args.self.now c.self.view_is c.pop.new.self (c.pop.ensures c.self.inside.block Ran (when-no-err c.push.result (sym c.is_err.ensures.value ∙ c.if-is_err.false) c.push.ensures.pushed))
