use Rattle.std.proofs.Common.{◌≡◌, true, refl, sym, ◌∙◌, subst}
use Rattle.virtual_time.specs.Law.{can_move}
use Rattle.virtual_time.specs.declared.moved.Move.TheVariants.{Committed}
use Rattle.reverse.specs.Rules.{rules_of}
use Rattle.reverse.specs.Setting.{simulation_of}
use Rattle.process_exchange.specs.Views.{HeldState, place_of, own_of}
use Rattle.process_exchange.proofs.Holding.{holds-moved, holds-still}
use Rattle.process_exchange.proofs.Moves.{in_hand, moved-view, still-view, commit-takes}
use Rattle.process_exchange.proofs.Oldest.{some-commits}
use Rattle.process_exchange.proofs.Outcomes.{when-err, when-no-err}
use Rattle.process_exchange.proofs.held.Held.commit_oldest.Given.{Over}
use Rattle.process_exchange.proofs.held.Held.commit_oldest.Goals.{After-is_err}
use Rattle.process_exchange.proofs.held.Held.commit_oldest.Goals as goal

-- the oldest done event can be committed
can-commit : (g : Over) (c : After-is_err g) →
    can_move (simulation_of (rules_of g.R.Reversible.plain) g.J.ActorRun.setting) c.self.inside.standing.seen Committed
    (in_hand (simulation_of (rules_of g.R.Reversible.plain) g.J.ActorRun.setting) c.self.inside.number (own_of c.self.inside.number c.self.inside.standing.last) (place_of c.self.inside.standing.last) c.self.inside.standing.seen c.self.inside.gone c.self.inside.block).part ≡ true
can-commit g c =
    let h = c.self.invariant.0 in
    some-commits (simulation_of (rules_of g.R.Reversible.plain) g.J.ActorRun.setting) (c.actor_law.ensures g.J.ActorRun.setting h.laid) c.self.inside.number c.self.inside.standing.seen _ h.safe
    (rw (sym c.self.view_is) at c.requires)

pub invariant_of-self-in-Ok : goal.invariant_of-self-in-Ok
invariant_of-self-in-Ok g c =
    let h = c.self.invariant.0 in (
      holds-moved h (c.actor_law.ensures g.J.ActorRun.setting h.laid) Committed (can-commit g (goal.at.invariant_of-self-in-Ok g c).After-is_err) c.seal_oldest.new.self.queues
          (c.in-Ok.ensures.sealed _ _ h.stands) c.seal_oldest.ensures.left c.push.new.self (when-no-err c.push.result (sym c.is_err.ensures.value ∙ c.if-is_err.false) c.push.ensures.pushed),
      c.self.invariant.1,
    )

pub returns-in-Ok-clause-committed : goal.returns-in-Ok-clause-committed
returns-in-Ok-clause-committed g c =
    moved-view (simulation_of (rules_of g.R.Reversible.plain) g.J.ActorRun.setting) c.self.inside.number (own_of c.self.inside.number c.self.inside.standing.last) (place_of c.self.inside.standing.last) c.self.inside.standing.seen c.self.inside.gone c.self.inside.block Committed
    c.args.self.now c.self.view_is c.push.new.self (when-no-err c.push.result (sym c.is_err.ensures.value ∙ c.if-is_err.false) c.push.ensures.pushed)

pub returns-in-Ok-clause-fewer : goal.returns-in-Ok-clause-fewer
returns-in-Ok-clause-fewer g c =
    let f = simulation_of (rules_of g.R.Reversible.plain) g.J.ActorRun.setting in
    commit-takes f c.args.self.now _ c.self.inside.standing.seen
    (subst (λ (z : HeldState g.row.R.Denot). can_move f c.self.inside.standing.seen Committed z.part ≡ true) c.self.view_is (can-commit g (goal.at.returns-in-Ok-clause-fewer g c).After-is_err))
    (returns-in-Ok-clause-committed g c)

pub invariant_of-self : goal.invariant_of-self
invariant_of-self g c = (
  holds-still c.self.invariant.0 c.self.inside.process.queues refl c.push.new.self (when-err c.push.result (sym c.is_err.ensures.value ∙ c.if-is_err.true) c.push.ensures.unchanged),
  c.self.invariant.1,
)

pub returns-then-is_err-clause-unchanged : goal.returns-then-is_err-clause-unchanged
returns-then-is_err-clause-unchanged g c =
    still-view (simulation_of (rules_of g.R.Reversible.plain) g.J.ActorRun.setting) c.self.inside.number (own_of c.self.inside.number c.self.inside.standing.last) (place_of c.self.inside.standing.last) c.self.inside.standing.seen c.self.inside.gone c.self.inside.block
    c.args.self.now c.self.view_is c.push.new.self (when-err c.push.result (sym c.is_err.ensures.value ∙ c.if-is_err.true) c.push.ensures.unchanged)

pub invariant_of-self-in-Err : goal.invariant_of-self-in-Err
invariant_of-self-in-Err g c = (
  holds-still c.self.invariant.0 c.seal_oldest.new.self.queues c.in-Err.ensures.unchanged c.pop.new.self
      (c.pop.ensures c.self.inside.block Committed (when-no-err c.push.result (sym c.is_err.ensures.value ∙ c.if-is_err.false) c.push.ensures.pushed)),
  c.self.invariant.1,
)

pub returns-in-Err-clause-unchanged : goal.returns-in-Err-clause-unchanged
returns-in-Err-clause-unchanged g c =
    still-view (simulation_of (rules_of g.R.Reversible.plain) g.J.ActorRun.setting) c.self.inside.number (own_of c.self.inside.number c.self.inside.standing.last) (place_of c.self.inside.standing.last) c.self.inside.standing.seen c.self.inside.gone c.self.inside.block
    c.args.self.now c.self.view_is c.pop.new.self (c.pop.ensures c.self.inside.block Committed (when-no-err c.push.result (sym c.is_err.ensures.value ∙ c.if-is_err.false) c.push.ensures.pushed))
