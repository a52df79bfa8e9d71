use Rattle.std.proofs.Common.{◌≡◌, map, slice_get, Some, Err, sym, ap, ◌∙◌, is_some}
use Rattle.std.proofs.lemmas.Result.{err_from_is_err_and}
use Rattle.virtual_time.specs.declared.moved.Move.TheVariants.{Ran}
use Rattle.process_queues.specs.Queues.{InHand}
use Rattle.process_queues.proofs.Counting.{of-messages}
use Rattle.actor_world.proofs.Holding.{some-is, queues-at, queues-set, queues-same}
use Rattle.actor_world.proofs.Acting.{has-numbers, moved-none, moved-did, run-refused}
use Rattle.actor_world.proofs.actors.ActorWorld.run.Given.{Over}
use Rattle.actor_world.proofs.actors.ActorWorld.run.Goals.{After-index_mut}
use Rattle.actor_world.proofs.actors.ActorWorld.run.Goals as goal

-- the process in hand
here : (g : Over) (c : After-index_mut g) →
    slice_get (map (λ (u : InHand g.row.R.Denot g.row.R-Record.Denot). u.queues) c.self.inside.processes.items) c.args.process ≡ Some c.index_mut.result.now.queues
here g c =
    queues-at c.self.inside.processes.items c.args.process c.from.result c.index_mut.result.now c.from.ensures
    (rw (sym c.self.view_is) at c.requires.there) c.index_mut.ensures.value

pub returns-in_err-_message : goal.returns-in_err-_message
returns-in_err-_message g c =
    let R = of-messages g.R.Reversible.plain c.actor_rules_law.ensures.order c.actor_rules_law.ensures.undoes in
    let e = err_from_is_err_and c.from_residual.result c.from_residual.ensures.1 in
    let unchanged = queues-same c.self.inside.processes.items c.from.result c.index_mut.result.now c.run_with.new.self c.index_mut.ensures.value c.in_err-_message.ensures.unchanged in
    rw (sym c.self.view_is)
    (run-refused _ _ _ _ _ _ _ _ (here g (goal.at.returns-in_err-_message g c).After-index_mut) R
    (λ x part h. some-is _ (c.in_err-_message.ensures.refused (x.opening c.args.process) part h)) _ unchanged
    c.in_err-_message.field-0.0 (λ d. c.in_err-_message.ensures.exhausted.0 (ap (λ z. Err z) d), λ n. let d = c.in_err-_message.ensures.exhausted.1 n in cc) _ (e.1 ∙ ap (λ z. Err z) e.2))

pub returns-in_default : goal.returns-in_default
returns-in_default g c =
    let none = c.in_default.is in
    let unchanged = queues-same c.self.inside.processes.items c.from.result c.index_mut.result.now c.run_with.new.self c.index_mut.ensures.value
    (c.in_ok-_message.ensures.ran.idle none) in
    rw (sym c.self.view_is)
    (moved-none _ _ _ _ _ _ _ _ (here g (goal.at.returns-in_default g c).After-index_mut) Ran
    (λ x part h. ap is_some (sym (c.in_ok-_message.ensures.ran.handled (x.opening c.args.process) part h) ∙ none)) _ unchanged)

pub returns : goal.returns
returns g c =
    let R = of-messages g.R.Reversible.plain c.actor_rules_law.ensures.order c.actor_rules_law.ensures.undoes in
    let at = here g (goal.at.returns g c).After-index_mut in
    rw (sym c.self.view_is)
    (moved-did _ _ _ _ _ _ _ _ at Ran (has-numbers _ _ _ _ _ _ _ _ at R (λ n. let d = c.in_ok-_message.ensures.exhausted.1 n in cc))
    (λ x part h. ap is_some (sym (c.in_ok-_message.ensures.ran.handled (x.opening c.args.process) part h) ∙ c.in-Some.is))
    _ c.in_ok-_message.ensures.ran.ran c.in_ok-_message.ensures.ran.left _ (queues-set c.self.inside.processes.items c.args.process c.from.result c.run_with.new.self c.from.ensures))
