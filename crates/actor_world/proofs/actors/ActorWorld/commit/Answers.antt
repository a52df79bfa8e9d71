use Rattle.std.proofs.Common.{◌≡◌, map, slice_get, Some, Ok, Err, refl, sym, ap, ◌∙◌}
use Rattle.std.proofs.lemmas.Result.{err_from_is_err_and}
use Rattle.virtual_time.specs.declared.moved.Move.TheVariants.{Committed}
use Rattle.reverse.specs.Rules.{rules_of}
use Rattle.reverse.specs.Setting.{simulation_of}
use Rattle.process_queues.specs.Queues.{InHand}
use Rattle.actor_world.specs.Faults.{fault_of}
use Rattle.actor_world.proofs.Holding.{queues-at, queues-set, queues-same}
use Rattle.actor_world.proofs.Acting.{can-commit, moved-none, moved-did, moved-refused}
use Rattle.actor_world.proofs.actors.ActorWorld.commit.Given.{Over}
use Rattle.actor_world.proofs.actors.ActorWorld.commit.Goals.{After-index_mut-process}
use Rattle.actor_world.proofs.actors.ActorWorld.commit.Goals as goal

-- the process in hand
here : (g : Over) (c : After-index_mut-process g) →
    slice_get (map (λ (u : InHand g.row.R.Denot g.row.R-Record.Denot). u.queues) c.self.inside.processes.items) c.args.process ≡ Some c.index_mut-process.result.now.queues
here g c =
    queues-at c.self.inside.processes.items c.args.process c.from.result c.index_mut-process.result.now c.from.ensures
    (rw (sym c.self.view_is) at c.requires.there) c.index_mut-process.ensures.value

pub returns-then-not-is_early : goal.returns-then-not-is_early
returns-then-not-is_early g c =
    let unchanged = queues-same c.self.inside.processes.items c.from.result c.index_mut-process.result.now c.index_mut-process.result.now c.index_mut-process.ensures.value refl in
    rw (sym c.self.view_is)
    (moved-none _ _ _ _ _ _ _ _ (here g (goal.at.returns-then-not-is_early g c).After-index_mut-process) Committed
    (λ x part h. can-commit (simulation_of (rules_of g.R.Reversible.plain) x) _ part (c.oldest.ensures (x.opening c.args.process) part h)
    c.if-not-is_early.ensures refl) _ unchanged)

pub returns-in_err-seal_oldest : goal.returns-in_err-seal_oldest
returns-in_err-seal_oldest g c =
    let e = err_from_is_err_and c.from_residual.result c.from_residual.ensures.1 in
    let unchanged = queues-same c.self.inside.processes.items c.from.result c.index_mut-process.result.now c.seal_oldest.new.self c.index_mut-process.ensures.value c.in_err-seal_oldest.ensures.unchanged in
    rw (sym c.self.view_is)
    (moved-refused _ _ _ _ _ _ _ _ (here g (goal.at.returns-in_err-seal_oldest g c).After-index_mut-process) Committed (λ x laid steps h d. d)
    (λ x part h. can-commit (simulation_of (rules_of g.R.Reversible.plain) x) _ part (c.oldest.ensures (x.opening c.args.process) part h)
    c.if-not-is_early.ensures (c.in_err-seal_oldest.ensures.refused (x.opening c.args.process) part h))
    _ unchanged _ (e.1 ∙ ap (λ z. Err z) (e.2 ∙ ap fault_of c.in_err-seal_oldest.ensures.memory)))

pub returns-then-not-branch : goal.returns-then-not-branch
returns-then-not-branch g c =
    let none = c.if-not-branch.true in
    let unchanged = queues-same c.self.inside.processes.items c.from.result c.index_mut-process.result.now c.seal_oldest.new.self c.index_mut-process.ensures.value
    (c.seal_oldest.ensures.idle (c.in_ok-seal_oldest.was ∙ ap (λ z. Ok z) none)) in
    rw (sym c.self.view_is)
    (moved-none _ _ _ _ _ _ _ _ (here g (goal.at.returns-then-not-branch g c).After-index_mut-process) Committed
    (λ x part h. can-commit (simulation_of (rules_of g.R.Reversible.plain) x) _ part (c.oldest.ensures (x.opening c.args.process) part h)
    c.if-not-is_early.ensures (sym (c.in_ok-seal_oldest.ensures.answer (x.opening c.args.process) part h) ∙ none)) _ unchanged)

pub returns : goal.returns
returns g c =
    rw (sym c.self.view_is)
    (moved-did _ _ _ _ _ _ _ _ (here g (goal.at.returns g c).After-index_mut-process) Committed (λ x laid steps h d. d)
    (λ x part h. can-commit (simulation_of (rules_of g.R.Reversible.plain) x) _ part (c.oldest.ensures (x.opening c.args.process) part h)
    c.if-not-is_early.ensures (sym (c.in_ok-seal_oldest.ensures.answer (x.opening c.args.process) part h) ∙ c.if-not-branch.false))
    _ c.in_ok-seal_oldest.ensures.sealed c.seal_oldest.ensures.left _ (queues-set c.self.inside.processes.items c.args.process c.from.result c.seal_oldest.new.self c.from.ensures))
