use Rattle.std.proofs.Common.{◌<◌, ◌≤◌, length, map, refl, sym, subst, arith}
use Rattle.std.proofs.lemmas.Bool.{false≢true}
use Rattle.std.proofs.lemmas.List.{length-map}
use Rattle.virtual_time.specs.Law.{start, run}
use Rattle.reverse.specs.Rules.{rules_of}
use Rattle.reverse.specs.Setting.{simulation_of}
use Rattle.process_queues.specs.Queues.{InHand, StandsFor}
use Rattle.actor_world.specs.Worlds.{AtEachWorld, Holdings, StandsForWorld}
use Rattle.actor_world.proofs.Holding.{queues-at}
use Rattle.actor_world.proofs.actors.ActorWorld.undo_all.Given.{Over}
use Rattle.actor_world.proofs.actors.ActorWorld.undo_all.Goals.{After-swap_remove}
use Rattle.actor_world.proofs.actors.ActorWorld.undo_all.Goals as goal

-- the process that is taken out stands for that of each world
stands : (g : Over) (c : After-swap_remove g) → AtEachWorld (rules_of g.R.Reversible.plain) g.R.Actor.number g.R.Actor.end g.R.Actor.is_placed g.R.Reversible.is_value c.args.self
    (λ f w. StandsFor f.rules g.R.Reversible.is_value (f.opening c.args.process) (w.parts c.args.process) c.swap_remove.result.queues)
stands g c = λ x laid steps h.
    let f = simulation_of (rules_of g.R.Reversible.plain) x in
    let p = c.args.process in
    let vs = c.self.inside.processes.items in
    let there : p < length (map (λ (u : InHand g.row.R.Denot g.row.R-Record.Denot). u.queues) vs) =
    omega (arith, length-map vs (λ (u : InHand g.row.R.Denot g.row.R-Record.Denot). u.queues), c.len.ensures, c.if-place-len.false, c.from-place.ensures, c.self.inside.processes.ok.0) in
    (subst (StandsForWorld f g.R.Reversible.is_value (run f steps (start f))) (sym c.self.view_is) h).parts p _ (queues-at vs p c.from-place.result c.swap_remove.result c.from-place.ensures there c.swap_remove.ensures.value)

pub returns-clause-undone : goal.returns-clause-undone
returns-clause-undone g c = λ x laid steps h. c.undo_all.ensures.undone _ _ (stands g (goal.at.returns-clause-undone g c).After-swap_remove x laid steps h)

pub returns-clause-reached : goal.returns-clause-reached
returns-clause-reached g c = λ x laid steps h. c.undo_all.ensures.committed _ _ (stands g (goal.at.returns-clause-reached g c).After-swap_remove x laid steps h)

pub returns-then-place-len-clause-none : goal.returns-then-place-len-clause-none
returns-then-place-len-clause-none g c =
    let queues = λ (u : InHand g.row.R.Denot g.row.R-Record.Denot). u.queues in
    let vs = c.self.inside.processes.items in
    let beyond : length (map queues vs) ≤ c.args.process = omega (arith, length-map vs queues, c.len.ensures, c.if-place-len.true, c.from-place.ensures) in
    (λ _. subst (λ (o : Holdings g.row.R.Denot g.row.R-Record.Denot). length o.processes ≤ c.args.process) c.self.view_is beyond, λ _. refl)

pub returns-clause-none : goal.returns-clause-none
returns-clause-none g c =
    let queues = λ (u : InHand g.row.R.Denot g.row.R-Record.Denot). u.queues in
    let vs = c.self.inside.processes.items in
    let there : c.args.process < length (map queues vs) = omega (arith, length-map vs queues, c.len.ensures, c.if-place-len.false, c.from-place.ensures, c.self.inside.processes.ok.0) in
    let within = subst (λ (o : Holdings g.row.R.Denot g.row.R-Record.Denot). c.args.process < length o.processes) c.self.view_is there in
    (λ none. absurd (false≢true (sym none)), λ beyond. absurd (omega (arith, beyond, within)))
